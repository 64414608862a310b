-- A program over places preserves the traces of the program over virtual registers, for proper colourings and frames of cells.
use Rattle.std.proofs.Common.{ℕ, List}
use Rattle.cerco_traces.specs.Preservation.{Preserves}
use Rattle.cerco_traces.proofs.Simulation.{simulation_preserves}
use Rattle.rtl.specs.declared.locations.Place.{Place}
use Rattle.rtl.specs.Programs.{Graph}
use Rattle.rtl.specs.Meaning.{graph_system, shares_first, shares_all}
use Rattle.rtl.specs.CallingConvention.{RespectsConvention}
use Rattle.rtl.specs.Interference.{IsProperColouring}
use Rattle.ltl_alloc.proofs.Related.{placed_graphs, AreFramed, LivesOnlyErtl}
use Rattle.ltl_alloc.proofs.Steps.{IsState, simulates}

pub placing_preserves :
    (gs : ℕ → Graph ℕ) (place : ℕ → ℕ → Place) (base size : ℕ → ℕ) → ((f : ℕ) → IsProperColouring (gs f) (place f)) → RespectsConvention 0 gs
    → AreFramed gs place base size → ((f : ℕ) → LivesOnlyErtl (gs f)) → (main : ℕ) (bytes : List (ℕ × ℕ))
    → Preserves (graph_system shares_first gs main bytes) (graph_system shares_all (placed_graphs gs place base) main bytes)
placing_preserves gs place base size proper conv framed only main bytes d small =
    simulation_preserves _ _ d d (IsState gs place base size proper conv framed only) (simulates gs place base size proper conv framed only main bytes d)
