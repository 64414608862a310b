use Rattle.clight_names.proofs.Judging.{defined_on}
use Rattle.clight_names.proofs.judge.defined_names.Goals as goal

pub loop-x-preserved : goal.loop-x-preserved
loop-x-preserved c = defined_on c.loop-x.defined c.add_defined.new.defined c.args.names.now c.loop-x.x-index _ c.loop-x-test.true c.loop-x.invariant c.in_ok-add_defined.ensures
