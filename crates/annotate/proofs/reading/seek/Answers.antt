use Rattle.annotate.proofs.Seeking.{from_there, found_here, none_here, one_less, other_here}
use Rattle.annotate.proofs.reading.seek.Goals as goal
use Rattle.annotate.proofs.reading.seek.Goals.{in-Some+else-left-eq0, in_default}

pub returns-then-left-eq0 : goal.returns-then-left-eq0
returns-then-left-eq0 c =
    found_here _ c.args.annotation.now c.loop-at.at _ _ c.loop-at-test.true c.loop-at.invariant c.in-Some.cost (from_there c.args.annotation.now c.loop-at.at _ c.in-Some.ensures) c.if-left-eq0.true

pub loop-at-preserved : goal.loop-at-preserved
loop-at-preserved c =
    elim c.match-leading_cost.branch [
      | in-Some+else-left-eq0 w ↦ other_here _ c.args.annotation.now c.loop-at.at _ _ c.loop-at-test.true c.loop-at.invariant w.in-Some.cost _ (from_there c.args.annotation.now c.loop-at.at _ w.in-Some.ensures) (one_less c.loop-at.left _ w.if-left-eq0.false w.left-is)
      | in_default w ↦ rw w.left-is (none_here _ c.args.annotation.now c.loop-at.at _ _ c.loop-at-test.true c.loop-at.invariant (from_there c.args.annotation.now c.loop-at.at _ w.in_default.ensures))
    ]
