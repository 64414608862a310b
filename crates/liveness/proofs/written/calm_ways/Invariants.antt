use Rattle.std.proofs.Common.{◌≡◌, ℕ, ◌<◌, length}
use Rattle.rtl.specs.Graphs.{exit_at}
use Rattle.liveness.specs.Code.Rows.{ways_of}
use Rattle.liveness.specs.Code.Views.{numbered_graph}
use Rattle.liveness.specs.Code.Flow.{calmly_after}
use Rattle.liveness.proofs.written.calm_ways.Given as goal

abbrev pub invariant-loop-p : goal.invariant-loop-p
invariant-loop-p l = record {
  long : length l.ways.items ≡ l.p;
  each : (q : ℕ) → q < l.p → ways_of l.ways.items q ≡ calmly_after (exit_at (numbered_graph l.graph) q) (length l.graph.nodes);
}
