-- The clauses hold of the translation, and the program is its translation.
use Rattle.std.proofs.Common.{ℕ, ◌≤◌}
use Rattle.cerco_traces.specs.Preservation.{Preserves}
use Rattle.cerco_middle.specs.Code.Views.{rtlabs_of}
use Rattle.cerco_middle.specs.RtLabs.Meaning.{rtlabs}
use Rattle.cerco_middle.specs.RtLabs.Sums.{long_length}
use Rattle.cerco_middle.specs.RtLabs.WellFormed.{IsWellFormed}
use Rattle.rtl.specs.CallingConvention.{RespectsConvention, CarryStaysInside}
use Rattle.rtl.specs.Code.Views.{program_of}
use Rattle.rtl.specs.Graphs.{graph_at, numbered, AreSoundlyLabelled}
use Rattle.rtl.specs.Lengths.{vreg_length}
use Rattle.rtl.specs.Locations.{vreg_number}
use Rattle.rtl.specs.Meaning.{rtl as rtl_run}
use Rattle.rtl.specs.WellFormed.{IsRtl}
use Rattle.rtl_gen.specs.Translation.{translated}
use Rattle.rtl_gen.specs.Promises.{GraphsAreLabelled, KeepsProgram, NeedNoMore}
use Rattle.rtl_gen.proofs.Results.{holds_of_result}
use Rattle.rtl_gen.proofs.Preserved.{translation_preserves}
use Rattle.rtl_gen.proofs.Formed.{translation_formed}
use Rattle.rtl_gen.proofs.Labelled.{translation_labelled}
use Rattle.rtl_gen.proofs.Conventional.{translation_conventional}
use Rattle.rtl_gen.proofs.CarryInside.{translation_carry}
use Rattle.rtl_gen.proofs.Kept.{translation_keeps}
use Rattle.rtl_gen.proofs.Sums.{translation_length}
use Rattle.rtl_gen.proofs.Named.{translation_need}
use Rattle.rtl_gen.proofs.to_rtl.Goals as goal

pub returns-clause-preserves : goal.returns-clause-preserves
returns-clause-preserves c =
    let source = rtlabs_of c.args.program.now in
    holds_of_result program_of (translated source) (λ b. IsWellFormed source → GraphsAreLabelled source → Preserves (rtlabs source) (rtl_run b)) (translation_preserves source) c.translation.result c.translation.ensures

pub returns-clause-formed : goal.returns-clause-formed
returns-clause-formed c =
    let source = rtlabs_of c.args.program.now in
    holds_of_result program_of (translated source) (λ b. IsWellFormed source → IsRtl b) (translation_formed source) c.translation.result c.translation.ensures

pub returns-clause-labelled : goal.returns-clause-labelled
returns-clause-labelled c =
    let source = rtlabs_of c.args.program.now in
    holds_of_result program_of (translated source) (λ b. IsWellFormed source → GraphsAreLabelled source → AreSoundlyLabelled b.graphs) (translation_labelled source) c.translation.result c.translation.ensures

pub returns-clause-conventional : goal.returns-clause-conventional
returns-clause-conventional c =
    let source = rtlabs_of c.args.program.now in
    holds_of_result program_of (translated source) (λ b. IsWellFormed source → GraphsAreLabelled source → RespectsConvention 12 (graph_at (numbered vreg_number b))) (translation_conventional source) c.translation.result c.translation.ensures

pub returns-clause-carry : goal.returns-clause-carry
returns-clause-carry c =
    let source = rtlabs_of c.args.program.now in
    holds_of_result program_of (translated source) (λ b. (f : ℕ) → CarryStaysInside 12 (graph_at (numbered vreg_number b) f)) (translation_carry source) c.translation.result c.translation.ensures

pub returns-clause-same : goal.returns-clause-same
returns-clause-same c =
    let source = rtlabs_of c.args.program.now in
    holds_of_result program_of (translated source) (KeepsProgram source) (translation_keeps source) c.translation.result c.translation.ensures

pub returns-clause-length : goal.returns-clause-length
returns-clause-length c =
    let source = rtlabs_of c.args.program.now in
    holds_of_result program_of (translated source) (λ b. vreg_length b ≤ long_length source) (translation_length source) c.translation.result c.translation.ensures

pub returns-clause-need : goal.returns-clause-need
returns-clause-need c =
    let source = rtlabs_of c.args.program.now in
    holds_of_result program_of (translated source) (λ b. IsWellFormed source → NeedNoMore source b) (translation_need source) c.translation.result c.translation.ensures
