use Rattle.std.proofs.Common.{◌≡◌, ℕ, length, map, true}
use Rattle.rtl.specs.Code.Views.{node_of}
use Rattle.colouring.specs.Code.Rows.{mark_at}
use Rattle.colouring.specs.Code.Neighbours.{IsGoneTo}
use Rattle.colouring.proofs.marks.covered.Given as goal

abbrev pub invariant-loop-p : goal.invariant-loop-p
invariant-loop-p l = record {
  long : length l.marks.items ≡ length l.nodes;
  only : (q : ℕ) → mark_at l.marks.items q ≡ true → IsGoneTo (map node_of l.nodes) l.p q;
}
