use Rattle.std.proofs.Common.{map, take_all, subst}
use Rattle.rtl.specs.Code.Views.{graph_of}
use Rattle.ltl_alloc.specs.Allocated.{EachHas}
use Rattle.back_end.specs.Chain.{IsPlainest}
use Rattle.back_end.proofs.Placed.{plainest_on}
use Rattle.back_end.proofs.frames.allocate.Goals as goal

pub loop-graph-preserved : goal.loop-graph-preserved
loop-graph-preserved c =
    let made = c.in_ok-one_cell_each.ensures in
    plainest_on c.args.graphs.now c.loop-graph.graph-index c.graph-item.result c.loop-graph.allocations c.push.new.self c.in_ok-one_cell_each.field-0 c.loop-graph-test.true c.graph-item.is c.loop-graph.invariant
    (record { spots = made.spots; serves = made.serves; places = made.places; exact = made.exact; need = made.need })
    c.in_ok-push.ensures.added

pub returns : goal.returns
returns c = subst (λ z. EachHas IsPlainest (map graph_of z) c.loop-graph.allocations) (take_all c.loop-graph.graph-index c.args.graphs.now c.loop-graph-test.false) c.loop-graph.invariant
