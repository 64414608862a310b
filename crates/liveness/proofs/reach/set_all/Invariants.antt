use Rattle.std.proofs.Common.{take}
use Rattle.liveness.specs.Code.Reach.{AreSet}
use Rattle.liveness.proofs.reach.set_all.Given as goal

abbrev pub invariant-loop-i : goal.invariant-loop-i
invariant-loop-i l = AreSet l.fn.marks.items (take l.i-index l.list) l.value l.marks.items
