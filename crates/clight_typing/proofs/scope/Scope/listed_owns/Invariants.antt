use Rattle.std.proofs.Common.{◌≡◌, ◌++◌, map, drop}
use Rattle.clight_typing.specs.Functions.{parameter_own}
use Rattle.clight_typing.specs.Code.HeldOwn.{own_of, listed}
use Rattle.clight_typing.specs.Code.HeldScopes.{scope_of}
use Rattle.clight_typing.proofs.scope.Scope.listed_owns.Given as goal

abbrev pub invariant-loop-x : goal.invariant-loop-x
invariant-loop-x l =
    map (parameter_own (scope_of l.self).structs) (listed l.earlier l.last)
    ≡ map own_of l.owns.items ++ map (parameter_own (scope_of l.self).structs) (listed (drop l.x-index l.earlier) l.last)
