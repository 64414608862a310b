use Rattle.std.proofs.Common.{◌≡◌, ◌++◌, map, take}
use Rattle.rtl.specs.WellFormed.{gathered, op_locations}
use Rattle.rtl.specs.Code.Views.{op_of}
use Rattle.ltl_alloc.proofs.named.add_ops.Given as goal

abbrev pub invariant-loop-op : goal.invariant-loop-op
invariant-loop-op l = l.list.items ≡ l.fn.list.items ++ gathered op_locations (map op_of (take l.op-index l.ops))
