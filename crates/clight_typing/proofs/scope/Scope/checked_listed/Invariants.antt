use Rattle.std.proofs.Common.{◌≡◌, drop}
use Rattle.clight_typing.specs.Code.HeldOwn.{listed}
use Rattle.clight_typing.specs.Code.HeldScopes.{scope_of}
use Rattle.clight_typing.specs.TypedPrograms.{checked_parameters as checked_parameters_lem}
use Rattle.clight_typing.proofs.scope.Scope.checked_listed.Given as goal

abbrev pub invariant-loop-x : goal.invariant-loop-x
invariant-loop-x l =
    checked_parameters_lem (scope_of l.self).structs (listed l.earlier l.last) ≡ checked_parameters_lem (scope_of l.self).structs (listed (drop l.x-index l.earlier) l.last)
