use Rattle.call_graph.specs.Code.Largest.{AreSums}
use Rattle.call_graph.proofs.sums.largest_sums.Given as goal

abbrev pub invariant-loop-i : goal.invariant-loop-i
invariant-loop-i l = AreSums l.order l.sizes l.i l.before.items l.largest
