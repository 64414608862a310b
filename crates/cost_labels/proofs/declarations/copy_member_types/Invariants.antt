use Rattle.std.proofs.Common.{◌≡◌, map, take}
use Rattle.c_types.specs.Types.{member_of}
use Rattle.cost_labels.proofs.declarations.copy_member_types.Given as goal

abbrev pub invariant-loop-x : goal.invariant-loop-x
invariant-loop-x l = map member_of l.copies.items ≡ map member_of (take l.x-index l.xs)
