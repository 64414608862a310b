use Rattle.std.proofs.Common.{length}
use Rattle.lin_gen.specs.Code.Placing.{IsBelow, Placed, Placing, unmarked}
use Rattle.rtl.specs.Code.Views.{graph_of}
use Rattle.lin_gen.proofs.placing.place_run.Given as goal

abbrev pub invariant-loop-next : goal.invariant-loop-next
invariant-loop-next l = record {
  placing : Placing (graph_of l.graph) l.placement.placed.items l.placement.order.items;
  done : Placed l.p l.fn.placement.order.items l.placement.order.items l.fn.placement.placed.items l.placement.placed.items;
  next : IsBelow l.next (length l.graph.nodes);
}

abbrev pub decreases-loop-next : goal.decreases-loop-next
decreases-loop-next l = unmarked l.placement.placed.items
