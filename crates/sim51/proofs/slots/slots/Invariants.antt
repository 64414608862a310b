use Rattle.sim51.proofs.Tables.{AreSlotsBelow}
use Rattle.sim51.proofs.slots.slots.Given as goal

abbrev pub invariant-loop-at : goal.invariant-loop-at
invariant-loop-at l = AreSlotsBelow l.code l.labels l.label-items l.at l.slots.items
