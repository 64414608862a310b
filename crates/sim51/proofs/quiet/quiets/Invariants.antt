use Rattle.std.proofs.Common.{◌≡◌, map, take}
use Rattle.sim51.specs.Code.Quiets.{quiet_of}
use Rattle.sim51.proofs.quiet.quiets.Given as goal

abbrev pub invariant-loop-slot : goal.invariant-loop-slot
invariant-loop-slot l = l.quiets.items ≡ map quiet_of (take l.slot-index l.slots)
