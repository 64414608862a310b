-- A program that respects the calling convention has its traces preserved without its vain operations.
use Rattle.std.proofs.Common.{ℕ, List}
use Rattle.cerco_traces.specs.Preservation.{Preserves}
use Rattle.cerco_traces.proofs.Simulation.{simulation_preserves}
use Rattle.rtl.specs.Programs.{Graph}
use Rattle.rtl.specs.Meaning.{graph_system, shares_first}
use Rattle.rtl.specs.CallingConvention.{RespectsConvention}
use Rattle.pruned_graphs.specs.Pruning.{IsPruned}
use Rattle.pruned_graphs.proofs.Related.{LivesOnlyErtl}
use Rattle.pruned_graphs.proofs.Steps.{IsState, simulates}

pub pruned_preserves :
    (gs hs : ℕ → Graph ℕ) → RespectsConvention 0 gs → ((f : ℕ) → LivesOnlyErtl (gs f)) → ((f : ℕ) → IsPruned 0 (gs f) (hs f)) → (main : ℕ) (bytes : List (ℕ × ℕ))
    → Preserves (graph_system shares_first gs main bytes) (graph_system shares_first hs main bytes)
pruned_preserves gs hs conv only pruned main bytes d small =
    simulation_preserves _ _ d d (IsState gs hs main bytes d conv only pruned) (simulates gs hs main bytes d conv only pruned)
