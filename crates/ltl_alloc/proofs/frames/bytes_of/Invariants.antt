use Rattle.std.proofs.Common.{◌≡◌, take}
use Rattle.ltl_alloc.proofs.frames.bytes_of.Given as goal

abbrev pub invariant-loop-number : goal.invariant-loop-number
invariant-loop-number l = l.bytes ≡ take l.number-index l.numbers
