-- Neighbours by rows, and what the greedy pass has given so far.
use Rattle.std.specs.Prelude.{◌≡◌, ℕ, suc, ◌<◌, ◌≤◌, ◌⊎◌, List, [], length, Bool, true, false, Option, Some, None, slice_index_or, slice_get, All}
use Rattle.cerco_traces.specs.LabelledGraphs.{In}
use Rattle.colouring.specs.declared.greedy.Row.{Row}
use Rattle.colouring.specs.Colours.{colour_at}

-- the mark of a number; none past the end
abbrev pub mark_at : List Bool → ℕ → Bool
mark_at marks k = slice_index_or marks k false

abbrev pub near_in : Option Row → List ℕ
near_in None = []
near_in (Some row) = row.near.items

-- the neighbours in the row of a virtual register; none past the end
abbrev pub near_of : List Row → ℕ → List ℕ
near_of rows v = near_in (slice_get rows v)

-- Rows have smaller numbers alone.
abbrev pub AreEarlier : (ℕ → List ℕ) → Type 0
AreEarlier near = (v w : ℕ) → In w (near v) → w < v

-- a virtual register of the row has this colour
abbrev pub Holds : List ℕ → List ℕ → ℕ → Type 0
Holds given row c = (w : ℕ) × In w row × (colour_at given w ≡ c)

-- The first colour that isn't held: a register, or a cell where all registers are held or a call is crossed.
pub record IsFirstFree (IsHeld : ℕ → Type 0) (across : Bool) (c : ℕ) : Type 0 where
  pub kind : (c < 6) ⊎ (12 ≤ c)
  pub free : IsHeld c → ⊥
  pub needed : 12 ≤ c → (across ≡ true) ⊎ ((r : ℕ) → r < 6 → IsHeld r)
  pub crossing : across ≡ true → 12 ≤ c
  pub least : (k : ℕ) → 12 ≤ k → k < c → IsHeld k

-- The first virtual registers have their colours, all below the end, which is as low as can be.
pub record AreGiven (near : ℕ → List ℕ) (across : ℕ → Bool) (given : List ℕ) (end : ℕ) : Type 0 where
  pub own : (v : ℕ) → v < 12 → colour_at given v ≡ v
  pub first : (v : ℕ) → 12 ≤ v → v < length given → IsFirstFree (Holds given (near v)) (across v) (colour_at given v)
  pub below : All (λ c. c < end) given
  pub last : (end ≡ 12) ⊎ ((v : ℕ) × (12 ≤ v) × (v < length given) × (suc (colour_at given v) ≡ end))
