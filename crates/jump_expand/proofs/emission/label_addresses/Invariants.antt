use Rattle.std.proofs.Common.{◌≡◌, ℕ, ◌<◌, ◌≤◌, length, slice_index}
use Rattle.asm51.specs.Items.{mark_count}
use Rattle.jump_expand.specs.Code.Emission.{label_from}
use Rattle.jump_expand.proofs.emission.label_addresses.Given as goal

abbrev pub invariant-loop-k : goal.invariant-loop-k
invariant-loop-k l = record {
  within : l.k ≤ length l.items;
  length : length l.labels.items ≡ mark_count l.items;
  placed : (n : ℕ) → n < mark_count l.items → slice_index l.labels.items n ≡ label_from l.items l.layout.forms l.k n;
}

abbrev pub decreases-loop-k : goal.decreases-loop-k
decreases-loop-k l = l.k
