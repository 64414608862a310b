use Rattle.std.proofs.Common.{◌<◌, ◌≤◌, ◌^◌, take}
use Rattle.std.specs.Prelude.{All}
use Rattle.rtl.specs.declared.locations.Vreg.{Vreg}
use Rattle.ltl_alloc.proofs.plainest.bound.Given as goal

abbrev pub invariant-loop-v : goal.invariant-loop-v
invariant-loop-v l = record { above : All (λ (v : Vreg). v.0 < l.bound) (take l.v-index l.list); few : l.bound ≤ 2 ^ 32 }
