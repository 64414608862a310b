use Rattle.std.proofs.Common.{◌-◌}
use Rattle.sim51.proofs.Skipping.{SkipsIn}
use Rattle.sim51.proofs.machine.Machine.skip.Given as goal

abbrev pub invariant-loop-self : goal.invariant-loop-self
invariant-loop-self l = SkipsIn l.fn.self l.limit l.self

abbrev pub decreases-loop-self : goal.decreases-loop-self
decreases-loop-self l = l.limit - l.self.state.cycles
