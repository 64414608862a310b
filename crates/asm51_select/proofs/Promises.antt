-- What is promised of a selected program.
use Rattle.std.proofs.Common.{◌≡◌, ◌<◌, ◌≤◌, ◌^◌, List, length, refl, sym, subst}
use Rattle.cerco_traces.specs.Preservation.{Preserves}
use Rattle.rtl.specs.Items.{LinProgram}
use Rattle.rtl.specs.Linear.{lin}
use Rattle.rtl.specs.Lengths.{lin_length}
use Rattle.rtl.specs.WellFormed.{IsLinProgram}
use Rattle.asm51.specs.declared.items.AsmItem.{AsmItem}
use Rattle.asm51.specs.Meaning.{assembly}
use Rattle.asm51.specs.Layouts.{long_length}
use Rattle.asm51.specs.WellFormed.{IsWellFormed}
use Rattle.asm51.specs.Selected.{AreSelected}
use Rattle.asm51.specs.Ends.{HasEnds}
use Rattle.asm51_select.specs.Translation.{selected}
use Rattle.asm51_select.specs.Graphs.{IsOfLabelledGraphs, KeepsLabels}
use Rattle.asm51_select.proofs.Counts.{mark_count_is}
use Rattle.asm51_select.proofs.Formed.{selected_is_formed}
use Rattle.asm51_select.proofs.Lengths.{selected_fits}
use Rattle.asm51_select.proofs.Preserved.{selected_preserves}
use Rattle.asm51_select.proofs.Selection.{are_selected, have_ends}

pub record AreKept (program : LinProgram) (items : List AsmItem) : Type 0 where
  pub is : items ≡ selected program
  pub preserves : Preserves (lin program) (assembly items)
  pub formed : IsWellFormed items
  pub object : IsOfLabelledGraphs program → AreSelected items
  pub ends : IsOfLabelledGraphs program → HasEnds items
  pub labels : KeepsLabels program items
  pub length : long_length items ≤ lin_length program

pub promises : (program : LinProgram) (items : List AsmItem) → IsLinProgram program → items ≡ selected program → length items < 2 ^ 28 → AreKept program items
promises program items formed is few =
    let well = selected_is_formed program formed (subst (λ xs. length xs < 2 ^ 28) is few) in
    let all : AreKept program (selected program) = record {
      is = refl;
      preserves = selected_preserves program formed well;
      formed = well;
      object = λ l. are_selected program l.graphs l.orderings l.labelled formed well;
      ends = λ l. have_ends program l.graphs l.orderings l.labelled formed well;
      labels = mark_count_is program;
      length = selected_fits program;
    } in
    subst (AreKept program) (sym is) all
