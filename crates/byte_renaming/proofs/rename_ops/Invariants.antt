use Rattle.std.proofs.Common.{◌≡◌, map, take}
use Rattle.rtl.specs.Graphs.{renamed_op}
use Rattle.rtl.specs.Code.Views.{op_of}
use Rattle.byte_renaming.proofs.rename_ops.Given as goal

abbrev pub invariant-loop-op : goal.invariant-loop-op
invariant-loop-op g l = map op_of l.renamed ≡ map (renamed_op (g.N.Naming.named l.names)) (map op_of (take l.op-index l.ops))
