use Rattle.std.proofs.Common.{◌≡◌, ◌++◌, take}
use Rattle.liveness.specs.Code.Views.{storages_of, numbered_ops}
use Rattle.liveness.specs.Code.Flow.{all_writes}
use Rattle.liveness.proofs.storages.add_all_writes.Given as goal

abbrev pub invariant-loop-op : goal.invariant-loop-op
invariant-loop-op l = storages_of l.list.items ≡ storages_of l.fn.list.items ++ all_writes (numbered_ops (take l.op-index l.ops))
