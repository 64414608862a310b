use Rattle.std.proofs.Common.{sym, ap, ◌∙◌}
use Rattle.clight_nodes.specs.Code.States.{newest}
use Rattle.clight_nodes.specs.Code.Statements.{finish}
use Rattle.clight_recognise.proofs.Branches.{to_state, finish_other}
use Rattle.clight_recognise.proofs.closing.finish.Goals as goal

pub returns-in_default-form : goal.returns-in_default-form
returns-in_default-form c =
    to_state _ _ _ _ _
    (finish_other _ _ _ c.in_default-form.not-If c.in_default-form.not-Else c.in_default-form.not-While c.in_default-form.not-For
    ∙ (sym (ap (λ k. finish k (newest c.loop-form.nodes.items)) c.in-Some.ensures.value) ∙ c.loop-form.invariant))
    c.gather.ensures
