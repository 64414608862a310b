use Rattle.std.proofs.Common.{◌≡◌, ◌≤◌, ◌^◌, length}
use Rattle.colouring.specs.Code.Rows.{mark_at, near_of, AreGiven}
use Rattle.colouring.proofs.greedy.colour_rows.Given as goal

abbrev pub invariant-loop-v : goal.invariant-loop-v
invariant-loop-v l = record {
  long : length l.colours ≡ l.v;
  end_low : 12 ≤ l.end;
  end_high : l.end ≤ l.v;
  few : l.end ≤ 2 ^ 32;
  given : AreGiven (near_of l.rows) (mark_at l.across) l.colours l.end;
}
