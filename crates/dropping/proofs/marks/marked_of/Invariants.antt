use Rattle.std.proofs.Common.{take}
use Rattle.dropping.proofs.Growing.{AreKept}
use Rattle.dropping.proofs.marks.marked_of.Given as goal

abbrev pub invariant-loop-i : goal.invariant-loop-i
invariant-loop-i l = AreKept l.marks (take l.i-index l.list) l.kept.items
