use Rattle.std.proofs.Common.{◌≡◌, ℕ, ◌-◌, ◌<◌, ◌≤◌, length, slice_index}
use Rattle.call_graph.specs.Code.Walks.{mark_of}
use Rattle.call_graph.specs.declared.walk.Mark.TheVariants.{Placed}
use Rattle.call_graph.proofs.walk.first_missing.Given as goal

abbrev pub invariant-loop-at : goal.invariant-loop-at
invariant-loop-at l = (l.at ≤ length l.callers) × ((j : ℕ) → j < l.at → mark_of l.marks (slice_index l.callers j) ≡ Placed)

abbrev pub decreases-loop-at : goal.decreases-loop-at
decreases-loop-at l = length l.callers - l.at
