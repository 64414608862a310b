use Rattle.std.proofs.Common.{◌≡◌, map, take}
use Rattle.rtl.specs.Locations.{vreg_number}
use Rattle.liveness.proofs.sets.live_point.Given as goal

abbrev pub invariant-loop-v : goal.invariant-loop-v
invariant-loop-v l = map vreg_number l.vregs ≡ take l.v-index l.row
