use Rattle.std.proofs.Common.{◌≡◌, ℕ, ◌<◌, ◌↔◌, length}
use Rattle.cerco_traces.specs.LabelledGraphs.{In}
use Rattle.liveness.specs.Code.Rows.{ways_of}
use Rattle.liveness.specs.Code.Views.{numbered_graph}
use Rattle.liveness.specs.Code.Flow.{LeadsOn}
use Rattle.liveness.proofs.flow.forward.Given as goal

abbrev pub invariant-loop-i : goal.invariant-loop-i
invariant-loop-i l = record {
  long : length l.ways.items ≡ l.i;
  each : (i j : ℕ) → i < l.i → In j (ways_of l.ways.items i) ↔ LeadsOn (numbered_graph l.graph) l.points i j;
}
