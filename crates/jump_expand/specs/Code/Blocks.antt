-- Addresses as sums over blocks of 256 items: where each block begins, and how far each item stands from there (own).
use Rattle.std.specs.Prelude.{◌≡◌, ℕ, ◌+◌, ◌/◌, ◌<◌, ◌≤◌, List, Option, length, slice_index}
use Rattle.asm51.specs.declared.items.AsmItem.{AsmItem}
use Rattle.asm51.specs.declared.layouts.Form.{Form}
use Rattle.asm51.specs.Layouts.{address}
use Rattle.jump_expand.specs.declared.addresses.Addresses.{Addresses}

abbrev pub address_in : Addresses → ℕ → ℕ
address_in a k = slice_index a.starts.items (k / 256) + slice_index a.within.items k

-- So many addresses, of which none is past a bound.
pub record IsTable (a : Addresses) (count bound : ℕ) : Type 0 where
  pub within : length a.within.items ≡ count
  pub starts : length a.starts.items ≡ (count + 255) / 256
  pub below : (k : ℕ) → k < count → address_in a k ≤ bound

-- They are the addresses of a layout, that of its end included.
pub record AreAddresses (a : Addresses) (items : List AsmItem) (forms : List (Option Form)) : Type 0 where
  pub within : length a.within.items ≡ length items + 1
  pub starts : length a.starts.items ≡ length items / 256 + 1
  pub at : (k : ℕ) → k ≤ length items → address_in a k ≡ address items forms k
