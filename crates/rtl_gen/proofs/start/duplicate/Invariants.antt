-- The bytes so far were copied.
use Rattle.std.proofs.Common.{◌≡◌, take}
use Rattle.rtl_gen.proofs.start.duplicate.Given as goal

abbrev pub invariant-loop-at : goal.invariant-loop-at
invariant-loop-at l = l.copy ≡ take l.at-index l.start
