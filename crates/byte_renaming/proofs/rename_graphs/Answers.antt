use Rattle.rtl.specs.Graphs.{renamed_graph}
use Rattle.rtl.specs.Code.Views.{graph_of}
use Rattle.byte_renaming.proofs.Copied.{more_seen, all_seen}
use Rattle.byte_renaming.proofs.rename_graphs.Goals as goal

pub loop-graph-preserved : goal.loop-graph-preserved
loop-graph-preserved g c =
    more_seen graph_of (renamed_graph (g.N.Naming.named c.args.names.now)) graph_of c.args.graphs.now c.loop-graph.renamed _ c.in_ok-rename_graph.field-0 c.graph-item.result c.loop-graph.graph-index
    c.loop-graph.invariant c.in_ok-push.ensures.added c.in_ok-rename_graph.ensures c.loop-graph-test.true c.graph-item.is

pub returns : goal.returns
returns g c = all_seen graph_of (renamed_graph (g.N.Naming.named c.args.names.now)) graph_of c.args.graphs.now c.loop-graph.renamed c.loop-graph.graph-index c.loop-graph.invariant c.loop-graph-test.false
