use Rattle.std.proofs.Common.{◌≡◌, ◌++◌, map, drop}
use Rattle.c_types.specs.Types.{member_of}
use Rattle.clight_types.specs.FoundStructs.{names_of}
use Rattle.clight_types.proofs.names.MemberNames.new.Given as goal

abbrev pub invariant-loop-member : goal.invariant-loop-member
invariant-loop-member l =
    names_of (map member_of l.members) ≡ l.names ++ names_of (map member_of (drop l.member-index l.members))
