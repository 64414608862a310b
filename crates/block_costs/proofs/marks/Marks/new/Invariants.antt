use Rattle.std.proofs.Common.{take}
use Rattle.block_costs.proofs.Marking.{AreFlags}
use Rattle.block_costs.proofs.marks.Marks.new.Given as goal

abbrev pub invariant-loop-at : goal.invariant-loop-at
invariant-loop-at l = AreFlags (take l.at-index l.labels) l.flags.items
