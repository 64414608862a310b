use Rattle.std.proofs.Common.{◌≡◌, Some}
use Rattle.lin_gen.specs.Code.Placing.{Placing}
use Rattle.lin_gen.specs.Ordering.{head_of}
use Rattle.rtl.specs.Code.Views.{graph_of}
use Rattle.lin_gen.proofs.PlacingSteps.{Done}
use Rattle.lin_gen.proofs.placing.order.Given as goal

abbrev pub invariant-loop-p : goal.invariant-loop-p
invariant-loop-p l = record {
  placing : Placing (graph_of l.graph) l.placement.placed.items l.placement.order.items;
  first : head_of l.placement.order.items ≡ Some l.graph.entry;
  done : Done l.followers.items l.placement.order.items l.p;
}
