use Rattle.std.proofs.Common.{◌≡◌, map, drop}
use Rattle.clight_source.specs.Code.Views.{earlier_argument_of as earlier_source_of}
use Rattle.clight_syntax.specs.Code.TypedViews.{earlier_argument_of}
use Rattle.clight_typing.specs.Code.HeldScopes.{scope_of}
use Rattle.clight_typing.specs.TypedStatements.{typed_earlier as typed_earlier_lem}
use Rattle.clight_typing.proofs.Walks.{ahead}
use Rattle.clight_typing.proofs.scope.Scope.typed_earlier.Given as goal

abbrev pub invariant-loop-x : goal.invariant-loop-x
invariant-loop-x l =
    typed_earlier_lem (scope_of l.self) (map earlier_source_of l.xs)
    ≡ ahead (map earlier_argument_of l.typed.items) (typed_earlier_lem (scope_of l.self) (map earlier_source_of (drop l.x-index l.xs)))
