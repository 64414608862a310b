use Rattle.std.proofs.Common.{◌≡◌, map, take, take_all, subst}
use Rattle.rtl.specs.Code.Views.{graph_of}
use Rattle.pruned_graphs.specs.Pruning.{ArePruned}
use Rattle.dropping.proofs.Pruned.{pruned_more}
use Rattle.dropping.proofs.programs.drop_each.Goals as goal

pub loop-graph-preserved : goal.loop-graph-preserved
loop-graph-preserved c =
    pruned_more c.args.graphs.now c.loop-graph.pruned _ c.in_ok-drop_dead.field-0 c.graph-item.result c.loop-graph.graph-index
    c.loop-graph.invariant c.in_ok-push.ensures.added c.in_ok-drop_dead.ensures.is c.loop-graph-test.true c.graph-item.is

pub returns : goal.returns
returns c =
    let all : take c.loop-graph.graph-index c.args.graphs.now ≡ c.args.graphs.now = take_all c.loop-graph.graph-index c.args.graphs.now c.loop-graph-test.false in
    subst (λ gs. ArePruned (map graph_of gs) (map graph_of c.loop-graph.pruned)) all c.loop-graph.invariant
