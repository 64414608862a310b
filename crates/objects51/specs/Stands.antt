-- How the machine stands to the assembly program that it runs (own): at the address of the item that comes next, with the same registers
-- and memories but for the stack, on which the return addresses stand.
use Rattle.std.specs.Prelude.{◌≡◌, ℕ, suc, ◌+◌, ◌*◌, ◌/◌, ◌%◌, ◌≤◌, List, [], ◌∷◌, length, slice_get, slice_index, Some}
use Rattle.cerco_base.specs.declared.events.Label.{Label}
use Rattle.sim51.specs.Runs.{Running, object}
use Rattle.sim51.specs.StackApart.{low}
use Rattle.asm51.specs.declared.items.AsmItem.{AsmItem}
use Rattle.asm51.specs.declared.items.AsmItem.TheVariants.{Mark}
use Rattle.asm51.specs.Meaning.{AsmState, assembly}

-- the addresses of these items stand in internal RAM from 80H on, those of the newest last; the low byte comes first
abbrev pub AreStacked : (ℕ → ℕ) → List ℕ → List ℕ → Type 0
AreStacked at ram [] = Unit {0}
AreStacked at ram (k ∷ ks) = (slice_index ram (128 + 2 * length ks) ≡ at k % 256) × (slice_index ram (129 + 2 * length ks) ≡ at k / 256) × AreStacked at ram ks

-- The machine stands where the program does, by the address of each item, and has made its events.
pub record Matches (at : ℕ → ℕ) (x : AsmState) (y : Running) : Type 0 where
  pub place : y.state.pc ≡ at x.at
  pub held : low x.core ≡ low y.state.core
  pub pointer : y.state.core.sp ≡ 127 + 2 * length x.returns
  pub ram : length y.state.core.iram ≡ 256
  pub stacked : AreStacked at y.state.core.iram x.returns
  pub few : length x.returns ≤ 64
  pub events : y.events ≡ x.made

-- An item that a run comes to after the first step: not the first one, nor the NOP of a mark, which the mark's step passes.
pub record IsPlace (items : List AsmItem) (k : ℕ) : Type 0 where
  pub later : 1 ≤ k
  pub free : (j : ℕ) (l : Label) → suc j ≡ k → slice_get items j ≡ Some (Mark l) → ⊥

abbrev pub ArePlaces : List AsmItem → List ℕ → Type 0
ArePlaces items [] = Unit {0}
ArePlaces items (k ∷ ks) = IsPlace items k × ArePlaces items ks

pub record IsFollowed (items : List AsmItem) (at : ℕ → ℕ) (x : AsmState) (y : Running) : Type 0 where
  pub place : IsPlace items x.at
  pub places : ArePlaces items x.returns
  pub matches : Matches at x y

-- Both are at their start, where the stack pointer isn't set yet, or the machine follows the program.
pub data IsTied (items : List AsmItem) (at : ℕ → ℕ) (code labels : List ℕ) : AsmState → Running → Type 0 where
  begun : (script : List ℕ) → IsTied items at code labels ((assembly items).start script) ((object code labels).start script)
  under_way : (x : AsmState) (y : Running) → IsFollowed items at x y → IsTied items at code labels x y
