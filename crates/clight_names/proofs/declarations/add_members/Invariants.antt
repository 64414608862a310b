use Rattle.std.proofs.Common.{◌≡◌, ◌++◌, map, take}
use Rattle.std.specs.List.{flat_map}
use Rattle.clight_source.specs.Code.Views.{member_of}
use Rattle.clight_names.specs.Occurrences.{member_names}
use Rattle.clight_names.proofs.declarations.add_members.Given as goal

abbrev pub invariant-loop-member : goal.invariant-loop-member
invariant-loop-member l = l.names.items ≡ l.initial.names.items ++ flat_map (member_names l.item l.tag) (map member_of (take l.member-index l.members))
