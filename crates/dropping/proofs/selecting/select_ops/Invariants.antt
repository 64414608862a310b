use Rattle.std.proofs.Common.{◌≡◌, map, take}
use Rattle.rtl.specs.Code.Views.{op_of}
use Rattle.pruned_graphs.specs.Searches.{selected}
use Rattle.dropping.specs.Code.Selecting.{marked_from}
use Rattle.dropping.proofs.selecting.select_ops.Given as goal

abbrev pub invariant-loop-k : goal.invariant-loop-k
invariant-loop-k l = map op_of l.list ≡ selected (marked_from l.marks l.from) (map op_of (take l.k l.ops))
