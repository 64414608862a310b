-- What the object of an assembly program promises: trace preservation, as of each pass (after CerCo, deliverable 4.1, in which the
-- assembler is proved over branch displacement).
use Rattle.std.specs.Prelude.{List}
use Rattle.cerco_traces.specs.Preservation.{Preserves}
use Rattle.sim51.specs.Runs.{object}
use Rattle.asm51.specs.declared.items.AsmItem.{AsmItem}
use Rattle.asm51.specs.declared.layouts.JumpLayout.{JumpLayout}
use Rattle.asm51.specs.Meaning.{assembly}
use Rattle.asm51.specs.Emission.{code_of, labels_of}
use Rattle.asm51.specs.JumpLayouts.{IsLayoutOf}
use Rattle.asm51.specs.Selected.{AreSelected}

-- The object of a selection, in its layout, preserves the traces of the items. At most 64 calls are open in a run that is within bounds,
-- so that their return addresses find place in internal RAM.
abbrev pub ObjectPreserves : Type 0
ObjectPreserves =
    (items : List AsmItem) (layout : JumpLayout) → AreSelected items → IsLayoutOf items layout
    → Preserves (assembly items) (object (code_of items layout.forms) (labels_of items layout.forms))
