use Rattle.std.proofs.Common.{◌≡◌, ◌++◌, map, take}
use Rattle.rtl.specs.Items as Item
use Rattle.rtl.specs.Code.Views.{item_of, op_of}
use Rattle.lin_gen.proofs.items.add_ops.Given as goal

abbrev pub invariant-loop-op : goal.invariant-loop-op
invariant-loop-op l = map item_of l.items ≡ map item_of l.fn.items ++ map Item.Op (map op_of (take l.op-index l.ops))
