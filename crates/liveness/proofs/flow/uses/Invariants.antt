use Rattle.std.proofs.Common.{◌≤◌, ◌^◌, length}
use Rattle.liveness.specs.Code.Rows.{AreTurned}
use Rattle.liveness.specs.Code.Views.{numbered_graph, occurrences_of}
use Rattle.liveness.specs.Code.Flow.{IsUsed}
use Rattle.liveness.proofs.flow.uses.Given as goal

abbrev pub invariant-loop-i : goal.invariant-loop-i
invariant-loop-i l = record {
  few : length l.uses.vregs.items ≤ 2 ^ 32;
  turned : AreTurned (IsUsed (numbered_graph l.graph) l.points) l.i (occurrences_of l.uses);
}
