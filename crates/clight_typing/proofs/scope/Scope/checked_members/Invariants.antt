use Rattle.std.proofs.Common.{◌≡◌, map, drop}
use Rattle.clight_source.specs.Code.Views.{member_of}
use Rattle.clight_typing.specs.Code.HeldScopes.{scope_of}
use Rattle.clight_typing.specs.TypedPrograms.{checked_members as checked_members_lem}
use Rattle.clight_typing.proofs.scope.Scope.checked_members.Given as goal

abbrev pub invariant-loop-x : goal.invariant-loop-x
invariant-loop-x l =
    checked_members_lem (scope_of l.self).structs (map member_of l.xs) ≡ checked_members_lem (scope_of l.self).structs (map member_of (drop l.x-index l.xs))
