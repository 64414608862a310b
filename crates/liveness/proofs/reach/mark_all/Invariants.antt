use Rattle.std.proofs.Common.{take}
use Rattle.liveness.specs.Code.Reach.{AreMarked}
use Rattle.liveness.proofs.reach.mark_all.Given as goal

abbrev pub invariant-loop-j : goal.invariant-loop-j
invariant-loop-j l = AreMarked l.walls l.fn.marks.items l.fn.list.items (take l.j-index l.row) l.marks.items l.list.items
