use Rattle.std.proofs.Common.{◌-◌, ◌≡◌, ℕ, ◌<◌, ◌≤◌, true}
use Rattle.colouring.specs.Code.Rows.{mark_at}
use Rattle.colouring.proofs.greedy.first_free.Given as goal

abbrev pub invariant-loop-k : goal.invariant-loop-k
invariant-loop-k l = record {
  at_least : l.from ≤ l.k;
  at_most : l.k ≤ l.end;
  first : (k : ℕ) → l.from ≤ k → k < l.k → mark_at l.held k ≡ true;
}

abbrev pub decreases-loop-k : goal.decreases-loop-k
decreases-loop-k l = l.end - l.k
