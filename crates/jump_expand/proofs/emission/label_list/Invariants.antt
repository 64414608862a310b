use Rattle.std.proofs.Common.{◌≡◌, take}
use Rattle.jump_expand.proofs.emission.label_list.Given as goal

abbrev pub invariant-loop-at : goal.invariant-loop-at
invariant-loop-at l = l.labels ≡ take l.at-index l.addresses
