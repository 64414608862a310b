use Rattle.std.proofs.Common.{◌≡◌, ◌≤◌, take}
use Rattle.asm51.specs.Items.{mark_count}
use Rattle.jump_expand.proofs.emission.count_marks.Given as goal

abbrev pub invariant-loop-item : goal.invariant-loop-item
invariant-loop-item l = record {
  counted : l.marks ≡ mark_count (take l.item-index l.items);
  few : l.marks ≤ l.item-index;
}
