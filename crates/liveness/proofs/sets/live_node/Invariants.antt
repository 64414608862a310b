use Rattle.liveness.specs.Code.Flow.{AreRows}
use Rattle.liveness.proofs.sets.live_node.Given as goal

abbrev pub invariant-loop-k : goal.invariant-loop-k
invariant-loop-k l = AreRows l.rows.vregs.items l.rows.carry.items l.from l.k l.points
