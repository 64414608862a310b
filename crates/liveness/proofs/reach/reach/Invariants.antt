use Rattle.std.proofs.Common.{◌+◌, ◌-◌, ◌*◌, length}
use Rattle.liveness.specs.Code.Rows.{ways_of}
use Rattle.liveness.specs.Code.Reach.{unmarked}
use Rattle.liveness.proofs.Reaching.{Spreads}
use Rattle.liveness.proofs.reach.reach.Given as goal

abbrev pub invariant-loop-next : goal.invariant-loop-next
invariant-loop-next l = Spreads l.seeds (ways_of l.ways) l.walls (length l.ways) l.marks.items l.list.items l.next

abbrev pub decreases-loop-next : goal.decreases-loop-next
decreases-loop-next l = 2 * unmarked l.marks.items + length l.list.items - l.next
