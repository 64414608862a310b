use Rattle.std.specs.Prelude.{◌≤◌}
use Rattle.cerco_traces.specs.Preservation.{PreservesSource}
use Rattle.cerco_middle.specs.Cminor.Meaning.{cminor}
use Rattle.cerco_middle.specs.Cminor.Sums.{long_length}
use Rattle.cerco_middle.specs.Cminor.WellFormed.{IsWellFormed}
use Rattle.cerco_middle.specs.Programs.{AreNumbered}
use Rattle.clight_syntax.specs.Bounds.{code_bound}
use Rattle.clight_syntax.specs.Code.TypedViews.{labelled_of}
use Rattle.clight_meaning.specs.Meaning.{source}
use Rattle.clight_programs.specs.Labels.{labels_of}
use Rattle.clight_programs.specs.Programs.{IsChecked}
use Rattle.cminor_gen.specs.Promises.{KeepsProgram, NeedNoMore}
use Rattle.cminor_gen.proofs.Promised.{of_answer}
use Rattle.cminor_gen.proofs.Kept.{keeps}
use Rattle.cminor_gen.proofs.Needs.{need_no_more}
use Rattle.cminor_gen.proofs.Preserved.{preserves}
use Rattle.cminor_gen.proofs.Formed.{formed}
use Rattle.cminor_gen.proofs.Lengths.{is_short}
use Rattle.cminor_gen.proofs.to_cminor.Goals as goal

pub returns-clause-preserves : goal.returns-clause-preserves
returns-clause-preserves c =
    let p = labelled_of c.args.program.now in
    of_answer p c.translation.result (λ q. IsChecked p → PreservesSource (source p) (cminor q) p.data_bytes) (preserves p) c.translation.ensures

pub returns-clause-same : goal.returns-clause-same
returns-clause-same c =
    let p = labelled_of c.args.program.now in
    of_answer p c.translation.result (KeepsProgram p) (keeps p) c.translation.ensures

pub returns-clause-need : goal.returns-clause-need
returns-clause-need c =
    let p = labelled_of c.args.program.now in
    of_answer p c.translation.result (NeedNoMore p) (need_no_more p) c.translation.ensures

pub returns-clause-formed : goal.returns-clause-formed
returns-clause-formed c =
    let p = labelled_of c.args.program.now in
    of_answer p c.translation.result (λ q. IsChecked p → AreNumbered (labels_of p.functions) → IsWellFormed q) (formed p) c.translation.ensures

pub returns-clause-length : goal.returns-clause-length
returns-clause-length c =
    let p = labelled_of c.args.program.now in
    of_answer p c.translation.result (λ q. IsChecked p → long_length q ≤ code_bound p) (is_short p) c.translation.ensures
