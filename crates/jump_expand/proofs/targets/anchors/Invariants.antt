use Rattle.std.proofs.Common.{◌≡◌, ℕ, ◌≤◌, length, drop}
use Rattle.std.specs.HashMap.{get}
use Rattle.std.specs.List.{position_from}
use Rattle.jump_expand.specs.Code.Anchors.{key_eq, is_anchor}
use Rattle.jump_expand.proofs.targets.anchors.Given as goal

abbrev pub invariant-loop-k : goal.invariant-loop-k
invariant-loop-k l = record {
  within : l.k ≤ length l.items;
  found : (q : ℕ × ℕ × ℕ) → get key_eq l.map q ≡ position_from (is_anchor q) l.k (drop l.k l.items);
}

abbrev pub decreases-loop-k : goal.decreases-loop-k
decreases-loop-k l = l.k
