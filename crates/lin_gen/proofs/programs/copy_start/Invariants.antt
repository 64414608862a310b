use Rattle.std.proofs.Common.{◌≡◌, take}
use Rattle.lin_gen.proofs.programs.copy_start.Given as goal

abbrev pub invariant-loop-at : goal.invariant-loop-at
invariant-loop-at l = l.start ≡ take l.at-index l.bytes
