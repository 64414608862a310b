use Rattle.std.proofs.Common.{◌∙◌}
use Rattle.sim51.proofs.Skipping.{skips_further, less_left, skipped, stopped}
use Rattle.sim51.proofs.machine.Machine.skip.Goals as goal

pub loop-self-init : goal.loop-self-init
loop-self-init c = record { code_is = c.run_quiet.ensures.code; labels_are = c.run_quiet.ensures.labels; skips = c.run_quiet.ensures.skips }

pub loop-self-smaller : goal.loop-self-smaller
loop-self-smaller c =
    less_left c.args.self.now _ c.loop-self.self c.step_silent.new.self c.run_quiet-in-loop-self.new.self c.loop-self-test.ensures.made c.run_quiet-in-loop-self.ensures.skips

pub loop-self-preserved : goal.loop-self-preserved
loop-self-preserved c =
    skips_further c.args.self.now _ c.loop-self.self c.step_silent.new.self c.run_quiet-in-loop-self.new.self c.loop-self.invariant c.loop-self-test.ensures.made c.step_silent.ensures.code c.step_silent.ensures.labels
    c.run_quiet-in-loop-self.ensures.code c.run_quiet-in-loop-self.ensures.labels c.run_quiet-in-loop-self.ensures.skips

pub returns-clause-code : goal.returns-clause-code
returns-clause-code c = c.step_silent.ensures.code ∙ c.loop-self.invariant.code_is

pub returns-clause-labels : goal.returns-clause-labels
returns-clause-labels c = c.step_silent.ensures.labels ∙ c.loop-self.invariant.labels_are

pub returns-clause-skips : goal.returns-clause-skips
returns-clause-skips c = skipped c.args.self.now _ c.loop-self.self c.step_silent.new.self c.step_silent.new.self c.loop-self.invariant c.loop-self-test.ensures.made

pub returns-clause-stops : goal.returns-clause-stops
returns-clause-stops c = stopped c.args.self.now _ c.loop-self.self c.step_silent.new.self c.step_silent.new.self c.loop-self.invariant c.loop-self-test.ensures.made
