use Rattle.std.proofs.Common.{◌≡◌, ℕ, ◌≤◌, ◌^◌, ◌+◌, ◌-◌, length}
use Rattle.liveness.specs.Code.Rows.{ways_of}
use Rattle.liveness.proofs.occurrences.grow.Given as goal

abbrev pub invariant-loop-alloc : goal.invariant-loop-alloc
invariant-loop-alloc l = record {
  few : length l.ways.items ≤ 2 ^ 32;
  same : (y : ℕ) → ways_of l.ways.items y ≡ ways_of l.fn.ways.items y;
}

abbrev pub decreases-loop-alloc : goal.decreases-loop-alloc
decreases-loop-alloc l = l.x + 1 - length l.ways.items
