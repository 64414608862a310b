use Rattle.std.proofs.Common.{◌≡◌, ℕ, ◌⊎◌, ◌↔◌, length, take, true}
use Rattle.cerco_traces.specs.LabelledGraphs.{In}
use Rattle.colouring.specs.Code.Rows.{mark_at}
use Rattle.colouring.specs.Code.Neighbours.{numbers}
use Rattle.colouring.proofs.marks.mark_each.Given as goal

abbrev pub invariant-loop-v : goal.invariant-loop-v
invariant-loop-v l = record {
  long : length l.marks.items ≡ length l.fn.marks.items;
  marked : (x : ℕ) → (mark_at l.marks.items x ≡ true) ↔ ((mark_at l.fn.marks.items x ≡ true) ⊎ In x (numbers (take l.v-index l.vregs)));
}
