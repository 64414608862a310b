use Rattle.std.proofs.Common.{◌≡◌}
use Rattle.cerco_traces.specs.Preservation.{Preserves}
use Rattle.cerco_middle.specs.Code.Views.{cminor_of}
use Rattle.cerco_middle.specs.Cminor.Meaning.{cminor}
use Rattle.cerco_middle.specs.Cminor.WellFormed as cm
use Rattle.cerco_middle.specs.Cminor.Sums.{long_length as length_of_cminor}
use Rattle.cerco_middle.specs.RtLabs.Meaning.{rtlabs}
use Rattle.cerco_middle.specs.RtLabs.WellFormed.{IsWellFormed}
use Rattle.cerco_middle.specs.RtLabs.Sums.{long_length}
use Rattle.rtlabs_gen.specs.Promises.{AreSoundlyLabelled, KeepsProgram, NeedNoMore, KeepsSums}
use Rattle.rtlabs_gen.proofs.Preserved.{translation_preserves}
use Rattle.rtlabs_gen.proofs.Formed.{translation_formed}
use Rattle.rtlabs_gen.proofs.Lengths.{same_long_length}
use Rattle.rtlabs_gen.proofs.Promised.{translation_keeps, translation_labelled, translation_needs, translation_sums, of_answer}
use Rattle.rtlabs_gen.proofs.to_rtlabs.Goals as goal

pub returns-clause-preserves : goal.returns-clause-preserves
returns-clause-preserves c =
    let p = cminor_of c.args.program.now in
    of_answer p c.graphs.result (λ q. Preserves (cminor p) (rtlabs q)) (translation_preserves p) c.graphs.ensures

pub returns-clause-formed : goal.returns-clause-formed
returns-clause-formed c =
    let p = cminor_of c.args.program.now in
    of_answer p c.graphs.result (λ q. cm.IsWellFormed p → IsWellFormed q) (translation_formed p) c.graphs.ensures

pub returns-clause-labelled : goal.returns-clause-labelled
returns-clause-labelled c =
    let p = cminor_of c.args.program.now in
    of_answer p c.graphs.result AreSoundlyLabelled (translation_labelled p) c.graphs.ensures

pub returns-clause-same : goal.returns-clause-same
returns-clause-same c =
    let p = cminor_of c.args.program.now in
    of_answer p c.graphs.result (KeepsProgram p) (translation_keeps p) c.graphs.ensures

pub returns-clause-length : goal.returns-clause-length
returns-clause-length c =
    let p = cminor_of c.args.program.now in
    of_answer p c.graphs.result (λ q. long_length q ≡ length_of_cminor p) (same_long_length p) c.graphs.ensures

pub returns-clause-need : goal.returns-clause-need
returns-clause-need c =
    let p = cminor_of c.args.program.now in
    of_answer p c.graphs.result (NeedNoMore p) (translation_needs p) c.graphs.ensures

pub returns-clause-sums : goal.returns-clause-sums
returns-clause-sums c =
    let p = cminor_of c.args.program.now in
    of_answer p c.graphs.result (KeepsSums p) (translation_sums p) c.graphs.ensures
