use Rattle.clight_source.specs.Code.Views.{member_of}
use Rattle.clight_names.specs.Occurrences.{member_names}
use Rattle.clight_names.proofs.Appending.{listed_on}
use Rattle.clight_names.proofs.declarations.add_members.Goals as goal

pub loop-member-preserved : goal.loop-member-preserved
loop-member-preserved c =
    listed_on (member_names c.args.item c.args.tag) member_of _ _ _ c.args.members.now c.loop-member.member-index c.member-item.result c.loop-member-test.true c.member-item.is
    c.loop-member.invariant c.in_ok-add_declared.ensures
