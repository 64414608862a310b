use Rattle.std.proofs.Common.{◌≡◌, length}
use Rattle.liveness.specs.Code.Rows.{ways_of, AreTurned}
use Rattle.liveness.specs.Code.Reach.{AreClear}
use Rattle.liveness.specs.Code.Views.{numbered_graph}
use Rattle.liveness.specs.Code.Flow.{IsWritten}
use Rattle.liveness.proofs.written.written.Given as goal

abbrev pub invariant-loop-a : goal.invariant-loop-a
invariant-loop-a l = record {
  long : length l.rows.items ≡ length l.graph.nodes;
  clear : AreClear l.marks.items (length l.graph.nodes);
  turned : AreTurned (IsWritten (numbered_graph l.graph) (length l.graph.nodes)) l.a (ways_of l.rows.items);
}
