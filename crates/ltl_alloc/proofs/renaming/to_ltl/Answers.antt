-- The program that is made has the parts of the translation, of which each clause is a law.
use Rattle.std.proofs.Common.{◌≡◌, ℕ, ◌≤◌, List, length, map, sym, ap, ap₂, ◌∙◌, subst}
use Rattle.std.proofs.lemmas.List.{length-map}
use Rattle.cerco_traces.specs.Preservation.{Preserves}
use Rattle.rtl.specs.declared.locations.Place.{Place}
use Rattle.rtl.specs.Programs.{Bytes}
use Rattle.rtl.specs.Locations.{vreg_number}
use Rattle.rtl.specs.Graphs.{graph_at, numbered, AreSoundlyLabelled}
use Rattle.rtl.specs.Meaning.{ertl as ertl_run, ltl as ltl_run}
use Rattle.rtl.specs.WellFormed.{IsErtl, IsLtl}
use Rattle.rtl.specs.CallingConvention.{RespectsConvention}
use Rattle.rtl.specs.Lengths.{vreg_length, ltl_length}
use Rattle.rtl.specs.Code.Views.{graph_of, program_of}
use Rattle.ltl_alloc.specs.declared.allocation.Allocation.{Allocation}
use Rattle.ltl_alloc.specs.Allocations.{IsExact}
use Rattle.ltl_alloc.specs.Allocated.{Serves, PlacesAll, EachHas}
use Rattle.ltl_alloc.specs.Translation.{EachFits, renamed_graphs, ltl_of}
use Rattle.ltl_alloc.specs.Renamed.{KeepsOutline}
use Rattle.ltl_alloc.proofs.Program as law
use Rattle.ltl_alloc.proofs.renaming.to_ltl.Goals as goal

pub rename_all-requires-clause-allocations : goal.rename_all-requires-clause-allocations
rename_all-requires-clause-allocations c =
    law.as_many Serves (map graph_of c.args.program.now.graphs) c.args.allocations.now c.requires.allocations ∙ length-map c.args.program.now.graphs graph_of ∙ ap length (sym c.as_slice.ensures)

pub rename_all-requires-clause-firsts : goal.rename_all-requires-clause-firsts
rename_all-requires-clause-firsts c =
    ap length c.as_slice-2.ensures ∙ c.requires.bases.functions ∙ length-map c.args.allocations.now (λ (a : Allocation). a.cells)
    ∙ law.as_many Serves (map graph_of c.args.program.now.graphs) c.args.allocations.now c.requires.allocations ∙ length-map c.args.program.now.graphs graph_of ∙ ap length (sym c.as_slice.ensures)

pub rename_all-requires-clause-fits : goal.rename_all-requires-clause-fits
rename_all-requires-clause-fits c =
    subst (EachFits c.args.allocations.now) (sym c.as_slice-2.ensures)
    (law.fits_each c.args.program.now.calls (map graph_of c.args.program.now.graphs) c.args.allocations.now c.args.bases.now c.requires.allocations c.requires.bases c.requires.enough)

holds : (c : goal.In_ok-graphs) (P : Bytes Place → Type 0) → P (ltl_of (program_of c.args.program.now) c.args.allocations.now c.args.bases.now.firsts) → P (record { graphs = map graph_of c.in_ok-graphs.graphs; calls = c.in_ok-calls.calls; main = c.args.program.now.main; start = c.in_ok-start.start })
holds c P =
    law.made (program_of c.args.program.now) c.args.allocations.now c.args.bases.now.firsts P (map graph_of c.in_ok-graphs.graphs) c.in_ok-calls.calls c.in_ok-start.start
    (c.in_ok-graphs.ensures ∙ ap₂ (λ gs fs. renamed_graphs (map graph_of gs) c.args.allocations.now fs) c.as_slice.ensures c.as_slice-2.ensures) c.in_ok-calls.ensures c.in_ok-start.ensures

-- as many allocations and first cells as functions
counts : (c : goal.In_ok-graphs) → length c.args.allocations.now ≡ length (map graph_of c.args.program.now.graphs)
counts c = law.as_many Serves (map graph_of c.args.program.now.graphs) c.args.allocations.now c.requires.allocations

first_counts : (c : goal.In_ok-graphs) → length c.args.bases.now.firsts ≡ length (map graph_of c.args.program.now.graphs)
first_counts c = c.requires.bases.functions ∙ length-map c.args.allocations.now (λ (a : Allocation). a.cells) ∙ counts c

pub returns-clause-preserves : goal.returns-clause-preserves
returns-clause-preserves c =
    holds c (λ p. IsErtl (program_of c.args.program.now) → RespectsConvention 0 (graph_at (numbered vreg_number (program_of c.args.program.now))) → Preserves (ertl_run (program_of c.args.program.now)) (ltl_run p))
    (λ formed conv. law.preserved (program_of c.args.program.now) c.args.allocations.now c.args.bases.now formed conv c.requires.allocations c.requires.bases)

pub returns-clause-formed : goal.returns-clause-formed
returns-clause-formed c =
    holds c (λ p. IsErtl (program_of c.args.program.now) → EachHas PlacesAll (map graph_of c.args.program.now.graphs) c.args.allocations.now → EachHas (λ graph a. IsExact a) (map graph_of c.args.program.now.graphs) c.args.allocations.now → IsLtl p)
    (λ formed places exact. law.places_exist (program_of c.args.program.now) c.args.allocations.now c.args.bases.now formed places exact c.requires.bases c.requires.enough)

pub returns-clause-labelled : goal.returns-clause-labelled
returns-clause-labelled c =
    holds c (λ p. AreSoundlyLabelled (program_of c.args.program.now).graphs → AreSoundlyLabelled p.graphs) (law.kept (program_of c.args.program.now) c.args.allocations.now c.args.bases.now.firsts (counts c) (first_counts c)).1

pub returns-clause-same : goal.returns-clause-same
returns-clause-same c = holds c (KeepsOutline (program_of c.args.program.now)) (law.kept (program_of c.args.program.now) c.args.allocations.now c.args.bases.now.firsts (counts c) (first_counts c)).0

pub returns-clause-length : goal.returns-clause-length
returns-clause-length c =
    holds c (λ p. ltl_length p ≤ vreg_length (program_of c.args.program.now)) (law.kept (program_of c.args.program.now) c.args.allocations.now c.args.bases.now.firsts (counts c) (first_counts c)).2
