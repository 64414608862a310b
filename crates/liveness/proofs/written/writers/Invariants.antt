use Rattle.std.proofs.Common.{◌≤◌, ◌^◌, length}
use Rattle.rtl.specs.Graphs.{ops_at}
use Rattle.rtl.specs.Liveness.{IsAmong}
use Rattle.liveness.specs.Code.Rows.{AreTurned}
use Rattle.liveness.specs.Code.Views.{numbered_graph, occurrences_of}
use Rattle.liveness.specs.Code.Flow.{all_writes}
use Rattle.liveness.proofs.written.writers.Given as goal

abbrev pub invariant-loop-p : goal.invariant-loop-p
invariant-loop-p l = record {
  few : length l.list.vregs.items ≤ 2 ^ 32;
  turned : AreTurned (λ p s. IsAmong s (all_writes (ops_at (numbered_graph l.graph) p))) l.p (occurrences_of l.list);
}
