-- The program that is made has the parts of the translation, of which each clause is a law.
use Rattle.std.proofs.Common.{ℕ, ◌≤◌, map, ap, ◌∙◌}
use Rattle.cerco_traces.specs.Preservation.{Preserves}
use Rattle.rtl.specs.declared.locations.Vreg.{Vreg}
use Rattle.rtl.specs.Programs.{Bytes}
use Rattle.rtl.specs.Locations.{vreg_number}
use Rattle.rtl.specs.Graphs.{renamed_graph, graph_at, numbered, AreSoundlyLabelled}
use Rattle.rtl.specs.Meaning.{rtl as rtl_run, ertl as ertl_run}
use Rattle.rtl.specs.WellFormed.{IsRtl, IsErtl}
use Rattle.rtl.specs.CallingConvention.{RespectsConvention, CarryStaysInside}
use Rattle.rtl.specs.Lengths.{vreg_length, register_need}
use Rattle.rtl.specs.Code.Views.{graph_of, program_of}
use Rattle.ertl_gen.specs.Translation.{exchanged, ertl_of, KeepsOutline}
use Rattle.ertl_gen.proofs.Translated as law
use Rattle.ertl_gen.proofs.Outline.{keeps_outline, length_less}
use Rattle.ertl_gen.proofs.to_ertl.Goals as goal

holds : (c : goal.In_ok-graphs) (P : Bytes Vreg → Type 0) → P (ertl_of (program_of c.args.program.now)) → P (record { graphs = map graph_of c.in_ok-graphs.graphs; calls = c.in_ok-calls.calls; main = c.args.program.now.main; start = c.in_ok-start.start })
holds c P =
    law.made (program_of c.args.program.now) P (map graph_of c.in_ok-graphs.graphs) c.in_ok-calls.calls c.in_ok-start.start
    (c.in_ok-graphs.ensures ∙ ap (λ gs. map (renamed_graph exchanged) (map graph_of gs)) c.as_slice.ensures) c.in_ok-calls.ensures c.in_ok-start.ensures

pub returns-clause-preserves : goal.returns-clause-preserves
returns-clause-preserves c = holds c (λ p. Preserves (rtl_run (program_of c.args.program.now)) (ertl_run p)) (law.preserved (program_of c.args.program.now))

pub returns-clause-formed : goal.returns-clause-formed
returns-clause-formed c = holds c (λ p. IsRtl (program_of c.args.program.now) → IsErtl p) (law.well_formed (program_of c.args.program.now))

pub returns-clause-labelled : goal.returns-clause-labelled
returns-clause-labelled c = holds c (λ p. AreSoundlyLabelled (program_of c.args.program.now).graphs → AreSoundlyLabelled p.graphs) (law.labelled (program_of c.args.program.now))

pub returns-clause-conventional : goal.returns-clause-conventional
returns-clause-conventional c =
    holds c (λ p. RespectsConvention 12 (graph_at (numbered vreg_number (program_of c.args.program.now))) → RespectsConvention 0 (graph_at (numbered vreg_number p))) (law.conventional (program_of c.args.program.now))

pub returns-clause-carry : goal.returns-clause-carry
returns-clause-carry c =
    holds c (λ p. (f : ℕ) → CarryStaysInside 12 (graph_at (numbered vreg_number (program_of c.args.program.now)) f) → CarryStaysInside 0 (graph_at (numbered vreg_number p) f)) (law.carry_inside (program_of c.args.program.now))

pub returns-clause-same : goal.returns-clause-same
returns-clause-same c = holds c (KeepsOutline (program_of c.args.program.now)) (keeps_outline (program_of c.args.program.now))

pub returns-clause-length : goal.returns-clause-length
returns-clause-length c = holds c (λ p. vreg_length p ≤ vreg_length (program_of c.args.program.now)) (length_less (program_of c.args.program.now))

pub returns-clause-need : goal.returns-clause-need
returns-clause-need c = holds c (λ p. (f : ℕ) → register_need (graph_at p.graphs f) ≤ register_need (graph_at (program_of c.args.program.now).graphs f)) (law.need_less (program_of c.args.program.now))
