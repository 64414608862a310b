use Rattle.std.proofs.Common.{◌≡◌, ℕ, ◌<◌, true, length, slice_index}
use Rattle.asm51.specs.Items.{is_jump}
use Rattle.asm51.proofs.Addresses.{item_at}
use Rattle.jump_expand.proofs.targets.jumps.Given as goal

abbrev pub invariant-loop-k : goal.invariant-loop-k
invariant-loop-k l = record {
  below : (j : ℕ) → j < length l.jumps.items → slice_index l.jumps.items j < length l.items;
  all : (k : ℕ) → k < l.k → is_jump (item_at l.items k) ≡ true → (j : ℕ) × (j < length l.jumps.items) × (slice_index l.jumps.items j ≡ k);
}
