use Rattle.std.proofs.Common.{◌∙◌, ap, rules}
use Rattle.sim51.specs.Effect.{effect}
use Rattle.sim51.proofs.Steps.{step_at, step_runs, step_in}
use Rattle.sim51.proofs.machine.Machine.step.Goals as goal

pub returns-in-Halt-clause-moved : goal.returns-in-Halt-clause-moved
returns-in-Halt-clause-moved c =
    step_in _ _ c.self.view_is ∙ step_at _ _ _ _ _ _ c.self.invariant.slots_are (search rules) c.index.ensures c.in-Halt.is

pub returns-in-Reserved-clause-moved : goal.returns-in-Reserved-clause-moved
returns-in-Reserved-clause-moved c =
    step_in _ _ c.self.view_is ∙ step_at _ _ _ _ _ _ c.self.invariant.slots_are (search rules) c.index.ensures c.in-Reserved.is

pub returns-in-Runs-clause-moved : goal.returns-in-Runs-clause-moved
returns-in-Runs-clause-moved c =
    let p = c.in-Runs.planned in
    let made = c.execute-executed.ensures ∙ ap (λ code. effect code p.instr p.next c.self.inside.processor) c.deref.ensures.value in
    step_in _ _ c.self.view_is ∙ step_runs _ _ _ _ _ p _ c.self.invariant.slots_are (search rules) c.index.ensures c.in-Runs.is made
