use Rattle.std.proofs.Common.{◌≡◌, map, take}
use Rattle.c_types.specs.Types.{struct_type_of}
use Rattle.cost_labels.proofs.declarations.copy_struct_types.Given as goal

abbrev pub invariant-loop-x : goal.invariant-loop-x
invariant-loop-x l = map struct_type_of l.copies.items ≡ map struct_type_of (take l.x-index l.xs)
