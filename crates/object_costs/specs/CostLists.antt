-- The costs of an object as numbers: one of the start, and a list of those of the labels, by their numbers. Each fits 32 bits, since a
-- way has at most 65,536 instructions of at most 4 cycles (Intel, MCS-51 instruction set).
use Rattle.std.specs.Prelude.{◌≡◌, ℕ, ◌<◌, ◌≤◌, ◌^◌, List, Bool, Option, All, length, slice_index}
use Rattle.asm51.specs.declared.items.AsmItem.{AsmItem}
use Rattle.asm51.specs.declared.layouts.Form.{Form}
use Rattle.asm51.specs.declared.layouts.JumpLayout.{JumpLayout}
use Rattle.asm51.specs.Emission.{labels_of}
use Rattle.asm51.specs.JumpLayouts.{IsLayoutOf}
use Rattle.asm51.specs.Selected.{AreSelected}
use Rattle.asm51.specs.Ends.{HasEnds}
use Rattle.block_costs.specs.Ways.{AreMarks}
use Rattle.object_costs.specs.Runs.{AreCosts}

-- a label's cost: at least the cycle of its NOP, and below 2 ^ 32
abbrev pub IsLabelCost : ℕ → Type 0
IsLabelCost cost = (1 ≤ cost) × (cost < 2 ^ 32)

-- the start has a cost, and each label has the one in the list
pub record HasCostList (items : List AsmItem) (forms : List (Option Form)) (marks : List Bool) : Type 0 where
  pub start : ℕ
  pub costs : List ℕ
  pub are : AreCosts items forms marks start (slice_index costs)
  pub all : length costs ≡ length (labels_of items forms)
  pub start_fits : start < 2 ^ 32
  pub fit : All IsLabelCost costs

-- A selection whose ways have ends has such costs in its relaxed layout.
abbrev pub CostsOfObject : Type 0
CostsOfObject =
    (items : List AsmItem) (layout : JumpLayout) (marks : List Bool) → AreSelected items → HasEnds items → IsLayoutOf items layout → AreMarks (labels_of items layout.forms) marks
    → HasCostList items layout.forms marks
