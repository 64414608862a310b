use Rattle.std.proofs.Common.{◌≡◌, ◌++◌, map, take}
use Rattle.rtl.specs.Effects.{Loc}
use Rattle.liveness.specs.Code.Views.{storages_of}
use Rattle.liveness.proofs.exits.add_numbered.Given as goal

abbrev pub invariant-loop-v : goal.invariant-loop-v
invariant-loop-v l = storages_of l.list.items ≡ storages_of l.fn.list.items ++ map Loc (take l.v-index l.numbers)
