use Rattle.std.proofs.Common.{◌≡◌, ◌+◌, ◌≤◌, map, drop}
use Rattle.std.specs.Prelude.{min}
use Rattle.clight_source.specs.Code.Views.{member_of}
use Rattle.clight_types.specs.Declarations.{size_of_members}
use Rattle.clight_types.specs.Code.Held.{size_cap}
use Rattle.clight_typing.specs.Code.HeldScopes.{scope_of}
use Rattle.clight_typing.proofs.scope.Scope.members_size.Given as goal

abbrev pub invariant-loop-x : goal.invariant-loop-x
invariant-loop-x l = record {
  capped : l.size ≤ size_cap;
  rest : min (size_of_members (scope_of l.self).structs (map member_of l.xs)) size_cap
      ≡ min (l.size + size_of_members (scope_of l.self).structs (map member_of (drop l.x-index l.xs))) size_cap;
}
