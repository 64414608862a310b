use Rattle.std.proofs.Common.{◌≡◌, take}
use Rattle.byte_renaming.proofs.copy_start.Given as goal

abbrev pub invariant-loop-at : goal.invariant-loop-at
invariant-loop-at l = l.copy ≡ take l.at-index l.start
