use Rattle.rtl.specs.Graphs.{renamed_op}
use Rattle.rtl.specs.Code.Views.{op_of}
use Rattle.byte_renaming.proofs.Copied.{more_seen, all_seen}
use Rattle.byte_renaming.proofs.rename_ops.Goals as goal

pub loop-op-preserved : goal.loop-op-preserved
loop-op-preserved g c =
    more_seen op_of (renamed_op (g.N.Naming.named c.args.names.now)) op_of c.args.ops.now c.loop-op.renamed _ c.in_ok-rename_op.field-0 c.op-item.result c.loop-op.op-index
    c.loop-op.invariant c.in_ok-push.ensures.added c.in_ok-rename_op.ensures c.loop-op-test.true c.op-item.is

pub returns : goal.returns
returns g c = all_seen op_of (renamed_op (g.N.Naming.named c.args.names.now)) op_of c.args.ops.now c.loop-op.renamed c.loop-op.op-index c.loop-op.invariant c.loop-op-test.false
