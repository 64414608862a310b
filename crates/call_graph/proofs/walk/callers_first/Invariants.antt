use Rattle.std.proofs.Common.{◌≡◌, ℕ, ◌<◌, []}
use Rattle.call_graph.specs.Code.Nodes.{callers_of}
use Rattle.call_graph.specs.Code.Walks.{mark_of, IsWalkOf}
use Rattle.call_graph.specs.declared.walk.Mark.TheVariants.{Placed}
use Rattle.call_graph.proofs.walk.callers_first.Given as goal

abbrev pub invariant-loop-function : goal.invariant-loop-function
invariant-loop-function l = IsWalkOf (callers_of l.nodes) l.walk × (l.walk.stack.items ≡ []) × ((f : ℕ) → f < l.function → mark_of l.walk.marks.items f ≡ Placed)
