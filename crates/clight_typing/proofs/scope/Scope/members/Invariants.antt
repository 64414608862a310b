use Rattle.std.proofs.Common.{◌≡◌, ◌++◌, map, drop}
use Rattle.clight_source.specs.Code.Views.{member_of}
use Rattle.c_types.specs.Types.{member_of as member_type_of}
use Rattle.clight_types.specs.Declarations.{members_from as members_from_lem}
use Rattle.clight_typing.specs.Code.HeldScopes.{scope_of}
use Rattle.clight_typing.proofs.scope.Scope.members.Given as goal

abbrev pub invariant-loop-x : goal.invariant-loop-x
invariant-loop-x l =
    members_from_lem (scope_of l.self).structs 0 (map member_of l.xs)
    ≡ map member_type_of l.members.items ++ members_from_lem (scope_of l.self).structs l.offset (map member_of (drop l.x-index l.xs))
