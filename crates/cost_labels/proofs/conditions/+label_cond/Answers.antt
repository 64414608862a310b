use Rattle.std.proofs.Common.{sym, ap, ◌∙◌}
use Rattle.clight_syntax.specs.Code.TypedViews.{cond_of}
use Rattle.clight_syntax.specs.Labelling.{cond_from, cond_to}
use Rattle.cost_labels.proofs.Appending.{part_added}
use Rattle.cost_labels.proofs.SamePlaces.{cond_from_is}
use Rattle.cost_labels.proofs.conditions.+label_cond.Goals as goal

pub label_operand-returns-clause-points : goal.label_operand-returns-clause-points
label_operand-returns-clause-points t c =
    part_added _ _ _ _ _ _ _ _ _ _ _ (cond_from_is _ _ _ (c.cond_from.ensures ∙ ap (λ x. cond_from (cond_of x)) (c.deref.ensures ∙ sym c.into_inner.ensures)) c.in_ok-operand.ensures.alone)
    (c.cond_to.ensures ∙ ap (λ x. cond_to (cond_of x)) c.deref-2.ensures)
    c.in_ok-add.ensures c.in_ok-operand.ensures.points c.in_ok-on_true.ensures
