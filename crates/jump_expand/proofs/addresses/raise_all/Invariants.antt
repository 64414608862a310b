use Rattle.std.proofs.Common.{◌≡◌, ℕ, ◌+◌, ◌<◌, ◌≤◌, slice_index}
use Rattle.jump_expand.proofs.addresses.raise_all.Given as goal

abbrev pub invariant-loop-k : goal.invariant-loop-k
invariant-loop-k l = record {
  raised : (k : ℕ) → l.fn.from ≤ k → k < l.k → slice_index l.numbers k ≡ slice_index l.initial.numbers k + l.fn.by;
  below : (k : ℕ) → k < l.fn.from → slice_index l.numbers k ≡ slice_index l.initial.numbers k;
  above : (k : ℕ) → l.k ≤ k → slice_index l.numbers k ≡ slice_index l.initial.numbers k;
}
