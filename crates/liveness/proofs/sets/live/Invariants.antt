use Rattle.std.proofs.Common.{◌≡◌, ℕ, ◌+◌, ◌<◌, [], length, slice_index_or}
use Rattle.rtl.specs.Graphs.{ops_at}
use Rattle.liveness.specs.Code.Views.{numbered_graph}
use Rattle.liveness.specs.Code.Points.{front}
use Rattle.liveness.specs.Code.Flow.{AreRows}
use Rattle.liveness.proofs.sets.live.Given as goal

abbrev pub invariant-loop-p : goal.invariant-loop-p
invariant-loop-p l = record {
  long : length l.nodes ≡ l.p;
  each : (q : ℕ) → q < l.p → AreRows l.rows.vregs.items l.rows.carry.items (front l.flow.points q) (length (ops_at (numbered_graph l.graph) q) + 1) (slice_index_or l.nodes q []);
}
