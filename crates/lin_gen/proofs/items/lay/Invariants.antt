use Rattle.std.proofs.Common.{◌≡◌, ◌++◌, drop}
use Rattle.std.proofs.Common.{map}
use Rattle.lin_gen.specs.Ordering.{laid}
use Rattle.rtl.specs.Code.Views.{graph_of, item_of}
use Rattle.lin_gen.proofs.items.lay.Given as goal

abbrev pub invariant-loop-k : goal.invariant-loop-k
invariant-loop-k l = map item_of l.items ++ laid (graph_of l.graph) (drop l.k l.order) ≡ laid (graph_of l.graph) l.order
