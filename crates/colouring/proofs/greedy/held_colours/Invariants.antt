use Rattle.std.proofs.Common.{◌≡◌, ℕ, ◌↔◌, length, take, true}
use Rattle.colouring.specs.Code.Rows.{mark_at, Holds}
use Rattle.colouring.proofs.greedy.held_colours.Given as goal

abbrev pub invariant-loop-w : goal.invariant-loop-w
invariant-loop-w l = record {
  long : length l.held.items ≡ l.end;
  held : (c : ℕ) → (mark_at l.held.items c ≡ true) ↔ Holds l.given (take l.w-index l.row) c;
}
