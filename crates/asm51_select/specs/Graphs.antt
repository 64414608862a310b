-- Linear code of soundly labelled graphs (CerCo, deliverable 2.1: sound and precise labellings), of which more is promised.
use Rattle.std.specs.Prelude.{◌≡◌, List, length}
use Rattle.rtl.specs.declared.locations.Place.{Place}
use Rattle.rtl.specs.Programs.{Graph}
use Rattle.rtl.specs.Items.{LinProgram}
use Rattle.rtl.specs.Graphs.{AreSoundlyLabelled}
use Rattle.rtl.specs.WellFormed.{gathered, item_labels}
use Rattle.asm51.specs.declared.items.AsmItem.{AsmItem}
use Rattle.asm51.specs.Items.{mark_count}
use Rattle.lin_gen.specs.Linearised.{AreOrderings}

-- The functions of the program are orderings of soundly labelled graphs.
pub record IsOfLabelledGraphs (program : LinProgram) : Type 0 where
  pub graphs : List (Graph Place)
  pub orderings : AreOrderings graphs program.lins
  pub labelled : AreSoundlyLabelled graphs

-- As many labels are marked among the items as stand in the program.
abbrev pub KeepsLabels : LinProgram → List AsmItem → Type 0
KeepsLabels program items = mark_count items ≡ length (gathered (λ its. gathered item_labels its) program.lins)
