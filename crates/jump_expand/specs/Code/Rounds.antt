-- What a round goes through: the jumps by number, each of which is judged first and then takes its form (own).
use Rattle.std.specs.Prelude.{◌≡◌, ℕ, ◌<◌, List, ◌⊎◌, Bool, true, false, Option, Some, None, length, slice_index}
use Rattle.asm51.specs.declared.items.AsmItem.{AsmItem}
use Rattle.asm51.specs.declared.layouts.Form.{Form}
use Rattle.asm51.specs.Items.{is_jump}
use Rattle.asm51.proofs.Addresses.{item_at, form_at}

-- a number for each form, in the order in which they grow
abbrev pub rank : Option Form → ℕ
rank None = 0
rank (Some Form.Short) = 1
rank (Some Form.Page) = 2
rank (Some Form.Long) = 3

-- Numbers of items, those of all jumps and tests among them.
pub record AreJumps (items : List AsmItem) (numbers : List ℕ) : Type 0 where
  pub below : (j : ℕ) → j < length numbers → slice_index numbers j < length items
  pub all : (k : ℕ) → k < length items → is_jump (item_at items k) ≡ true → (j : ℕ) × (j < length numbers) × (slice_index numbers j ≡ k)

-- A round whose jumps are judged, of which so many have taken their new forms.
pub record IsPartly (items : List AsmItem) (numbers : List ℕ) (old new round : List (Option Form)) (j : ℕ) (changed : Bool) : Type 0 where
  pub each : (k : ℕ) → k < length items → (form_at new k ≡ form_at old k) ⊎ (form_at new k ≡ form_at round k)
  pub done : (i : ℕ) → i < j → form_at new (slice_index numbers i) ≡ form_at round (slice_index numbers i)
  pub same : changed ≡ false → new ≡ old
  pub other : changed ≡ true → (k : ℕ) × (k < length items) × (form_at old k ≡ form_at round k → ⊥)
