use Rattle.std.proofs.Common.{◌≡◌, map, take}
use Rattle.asm51.specs.Items.{target_of}
use Rattle.jump_expand.proofs.targets.targets.Given as goal

abbrev pub invariant-loop-item : goal.invariant-loop-item
invariant-loop-item l = l.targets.items ≡ map (target_of l.items) (take l.item-index l.items)
