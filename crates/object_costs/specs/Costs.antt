-- The costs of the object of an assembly program (CerCo, deliverable 2.1: sound and precise labellings have exact costs).
use Rattle.std.specs.Prelude.{◌≡◌, ℕ, suc, ◌<◌, ◌≤◌, List, Bool, true, Option, Some, Ok, length, slice_get, slice_index}
use Rattle.asm51.specs.declared.items.AsmItem.{AsmItem}
use Rattle.asm51.specs.declared.items.AsmItem.TheVariants.{Test, Call}
use Rattle.asm51.specs.declared.layouts.Form.{Form}
use Rattle.asm51.specs.declared.layouts.JumpLayout.{JumpLayout}
use Rattle.asm51.specs.Emission.{word_address, code_of, labels_of}
use Rattle.asm51.specs.JumpLayouts.{IsLayoutOf}
use Rattle.asm51.specs.Selected.{AreSelected}
use Rattle.asm51.specs.Ends.{HasEnds}
use Rattle.block_costs.specs.Ways.{AreMarks, is_closed, cost, start_cost}

-- No cost of the object is a fault: not that of the start, nor that of a label, which is at least 1, nor that of a test, whose ways have
-- the same cycles. What a call returns to is a label or the halt.
pub record HaveCosts (items : List AsmItem) (forms : List (Option Form)) (marks : List Bool) : Type 0 where
  pub start : (cycles : ℕ) × (start_cost (code_of items forms) marks ≡ Ok cycles)
  pub labels : (l : ℕ) → l < length (labels_of items forms) → (cycles : ℕ) × (cost (code_of items forms) marks (slice_index (labels_of items forms) l) ≡ Ok cycles) × (1 ≤ cycles)
  pub tests : (k f n : ℕ) → slice_get items k ≡ Some (Test f n) → (cycles : ℕ) × (cost (code_of items forms) marks (word_address items forms k) ≡ Ok cycles)
  pub returns : (k f : ℕ) → slice_get items k ≡ Some (Call f) → is_closed (code_of items forms) marks (word_address items forms (suc k)) ≡ true

-- A selection whose ways have ends has costs in its relaxed layout, labels and code that no run comes to included.
abbrev pub ObjectsHaveCosts : Type 0
ObjectsHaveCosts =
    (items : List AsmItem) (layout : JumpLayout) (marks : List Bool) → AreSelected items → HasEnds items → IsLayoutOf items layout → AreMarks (labels_of items layout.forms) marks → HaveCosts items layout.forms marks
