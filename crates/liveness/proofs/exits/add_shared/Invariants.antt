use Rattle.std.proofs.Common.{◌≡◌, ◌++◌}
use Rattle.liveness.specs.Code.Views.{storages_of}
use Rattle.liveness.specs.Code.Flow.{places_below}
use Rattle.liveness.proofs.exits.add_shared.Given as goal

abbrev pub invariant-loop-v : goal.invariant-loop-v
invariant-loop-v l = storages_of l.list.items ≡ storages_of l.fn.list.items ++ places_below l.v
