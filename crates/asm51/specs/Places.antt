-- Where jumps, tests and calls lead, and where labels stand (own).
use Rattle.std.specs.Prelude.{◌≡◌, ℕ, ◌<◌, List, length, slice_get, Option, Some}
use Rattle.asm51.specs.declared.items.AsmItem.{AsmItem}
use Rattle.asm51.specs.declared.items.AsmItem.TheVariants.{Mark, Enter, Here, Jump, Test, Call}
use Rattle.asm51.specs.declared.layouts.Form.{Form}
use Rattle.asm51.specs.Items.{target_of}
use Rattle.asm51.specs.Emission.{word_address, labels_of}

-- Each jump and each test leads to the place that it names, and each call to the entry of the function.
pub record HasTargets (items : List AsmItem) : Type 0 where
  pub jumps : (k f n : ℕ) → slice_get items k ≡ Some (Jump f n) → slice_get items (target_of items (Jump f n)) ≡ Some (Here f n)
  pub tests : (k f n : ℕ) → slice_get items k ≡ Some (Test f n) → slice_get items (target_of items (Test f n)) ≡ Some (Here f n)
  pub calls : (k f : ℕ) → slice_get items k ≡ Some (Call f) → slice_get items (target_of items (Call f)) ≡ Some (Enter f)

-- In this layout each label that is marked has the address of its mark, and no other label has an address.
pub record HasLabels (items : List AsmItem) (forms : List (Option Form)) : Type 0 where
  pub marks : (k l : ℕ) → slice_get items k ≡ Some (Mark (record { 0 = l })) → slice_get (labels_of items forms) l ≡ Some (word_address items forms k)
  pub labels : (l : ℕ) → l < length (labels_of items forms) → (k : ℕ) × (slice_get items k ≡ Some (Mark (record { 0 = l })))
