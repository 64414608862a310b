use Rattle.std.proofs.Common.{◌≡◌, ◌++◌, map, drop}
use Rattle.clight_source.specs.Code.Views.{earlier_argument_of}
use Rattle.clight_typing.specs.Code.HeldScopes.{scope_of}
use Rattle.clight_typing.specs.TypedStatements.{earlier_taken}
use Rattle.clight_typing.proofs.scope.Scope.add_earlier.Given as goal

abbrev pub invariant-loop-x : goal.invariant-loop-x
invariant-loop-x l =
    l.initial.taken.items ++ earlier_taken (scope_of l.self) (map earlier_argument_of l.xs)
    ≡ l.taken.items ++ earlier_taken (scope_of l.self) (map earlier_argument_of (drop l.x-index l.xs))
