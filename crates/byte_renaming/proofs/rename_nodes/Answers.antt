use Rattle.rtl.specs.Graphs.{renamed_node}
use Rattle.rtl.specs.Code.Views.{node_of}
use Rattle.byte_renaming.proofs.Copied.{more_seen, all_seen}
use Rattle.byte_renaming.proofs.rename_nodes.Goals as goal

pub loop-node-preserved : goal.loop-node-preserved
loop-node-preserved g c =
    more_seen node_of (renamed_node (g.N.Naming.named c.args.names.now)) node_of c.args.nodes.now c.loop-node.renamed _ c.in_ok-rename_node.field-0 c.node-item.result c.loop-node.node-index
    c.loop-node.invariant c.in_ok-push.ensures.added c.in_ok-rename_node.ensures c.loop-node-test.true c.node-item.is

pub returns : goal.returns
returns g c = all_seen node_of (renamed_node (g.N.Naming.named c.args.names.now)) node_of c.args.nodes.now c.loop-node.renamed c.loop-node.node-index c.loop-node.invariant c.loop-node-test.false
