use Rattle.std.proofs.Common.{◌≡◌, map, drop}
use Rattle.c_types.specs.Types.{type_of}
use Rattle.clight_syntax.specs.Code.TypedViews.{expr_of, earlier_argument_of}
use Rattle.clight_types.specs.Assignable.{values_onto, are_assignable as are_assignable_lem}
use Rattle.clight_types.proofs.assignable.are_listed_assignable.Given as goal

abbrev pub invariant-loop-x : goal.invariant-loop-x
invariant-loop-x l = record {
  counted : l.parameter ≡ l.x-index;
  rest : are_assignable_lem (values_onto (map earlier_argument_of l.earlier) (expr_of l.last)) (map type_of l.types)
      ≡ are_assignable_lem (values_onto (map earlier_argument_of (drop l.x-index l.earlier)) (expr_of l.last)) (map type_of (drop l.x-index l.types));
}
