use Rattle.std.proofs.Common.{◌≡◌, ◌++◌, take}
use Rattle.liveness.specs.Code.Views.{storages_of, locs_of}
use Rattle.liveness.proofs.storages.add_vregs.Given as goal

abbrev pub invariant-loop-v : goal.invariant-loop-v
invariant-loop-v l = storages_of l.list.items ≡ storages_of l.fn.list.items ++ locs_of (take l.v-index l.vregs)
