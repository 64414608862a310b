use Rattle.std.proofs.Common.{◌≡◌, ℕ, [], length}
use Rattle.liveness.specs.Code.Rows.{ways_of}
use Rattle.liveness.proofs.ways.empty_rows.Given as goal

abbrev pub invariant-loop-x : goal.invariant-loop-x
invariant-loop-x l = record {
  long : length l.ways.items ≡ l._x;
  none : (y : ℕ) → ways_of l.ways.items y ≡ [];
}
