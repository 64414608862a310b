use Rattle.std.proofs.Common.{◌≡◌, ℕ, ◌↔◌, length, map, true}
use Rattle.rtl.specs.Code.Views.{node_of}
use Rattle.colouring.specs.Code.Rows.{mark_at}
use Rattle.colouring.specs.Code.Neighbours.{IsAfterCallOf}
use Rattle.colouring.proofs.marks.live_across.Given as goal

abbrev pub invariant-loop-node : goal.invariant-loop-node
invariant-loop-node l = record {
  long : length l.marks.items ≡ l.count;
  marked : (v : ℕ) → (mark_at l.marks.items v ≡ true) ↔ IsAfterCallOf (map node_of l.nodes) l.live l.node-index v;
}
