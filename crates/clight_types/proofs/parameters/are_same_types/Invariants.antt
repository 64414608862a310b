use Rattle.std.proofs.Common.{◌≡◌, map, drop}
use Rattle.c_types.specs.Types.{type_of}
use Rattle.clight_types.specs.Declarations.{types_eq}
use Rattle.clight_types.proofs.parameters.are_same_types.Given as goal

abbrev pub invariant-loop-one : goal.invariant-loop-one
invariant-loop-one l = record {
  counted : l.next ≡ l.one-index;
  rest : types_eq (map type_of l.left) (map type_of l.right) ≡ types_eq (map type_of (drop l.one-index l.left)) (map type_of (drop l.one-index l.right));
}
