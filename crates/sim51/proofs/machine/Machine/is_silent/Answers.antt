use Rattle.std.proofs.Common.{◌∙◌, ap, sym, rules}
use Rattle.sim51.specs.Skips.{is_silent}
use Rattle.sim51.proofs.Steps.{step_at, step_in}
use Rattle.sim51.proofs.Skipping.{silent_runs}
use Rattle.sim51.proofs.machine.Machine.is_silent.Goals as goal

pub returns-in-Halt : goal.returns-in-Halt
returns-in-Halt c = sym (ap is_silent (step_in _ _ c.self.view_is ∙ step_at _ _ _ _ _ _ c.self.invariant.slots_are (search rules) c.index.ensures c.in-Halt.is))

pub returns-in-Reserved : goal.returns-in-Reserved
returns-in-Reserved c = sym (ap is_silent (step_in _ _ c.self.view_is ∙ step_at _ _ _ _ _ _ c.self.invariant.slots_are (search rules) c.index.ensures c.in-Reserved.is))

pub returns-in-Runs : goal.returns-in-Runs
returns-in-Runs c =
    let m = c.self.inside in
    c.is_silent.ensures
    ∙ (silent_runs m.code.items c.in-Runs.planned (record { core = m.processor; pc = m.pc; cycles = m.cycles }) ∙ sym (ap is_silent (step_in _ _ c.self.view_is ∙ step_at _ _ _ _ _ _ c.self.invariant.slots_are (search rules) c.index.ensures c.in-Runs.is)))
