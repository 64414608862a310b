use Rattle.std.proofs.Common.{◌≡◌, drop}
use Rattle.c_types.specs.Types.{type_of}
use Rattle.clight_types.specs.Declarations.{pointers_to as pointers_to_lem}
use Rattle.clight_types.proofs.declared.pointers_to.Given as goal

abbrev pub invariant-loop-star : goal.invariant-loop-star
invariant-loop-star l = pointers_to_lem l.stars (type_of l.fn.ty) ≡ pointers_to_lem (drop l._star-index l.stars) (type_of l.pointer)
