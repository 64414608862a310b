use Rattle.std.proofs.Common.{sym, ap, ◌∙◌}
use Rattle.cerco_base.specs.declared.events.Label.{Label}
use Rattle.clight_syntax.specs.declared.typed.Test.{Test}
use Rattle.clight_syntax.specs.TypedTrees as p
use Rattle.clight_syntax.specs.Code.TypedViews.{cond_of}
use Rattle.clight_syntax.specs.Labelling.{cond_from, cond_to}
use Rattle.cost_labels.proofs.Appending.{part_added}
use Rattle.cost_labels.proofs.SamePlaces.{cond_from_is}
use Rattle.cost_labels.proofs.statements.label_repeat.Goals as goal

pub returns-clause-points : goal.returns-clause-points
returns-clause-points c =
    part_added _ _ _ _ _ _ _ _ _ _ _
    (cond_from_is _ _ _ (c.cond_from.ensures ∙ ap (λ (x : Test (Unit {0})). cond_from (cond_of x.condition)) (c.deref.ensures ∙ sym c.into_inner.ensures))
    (ap (λ (x : p.Test (Unit {0})). x.condition) c.in_ok-test.ensures.alone))
    (c.cond_to.ensures ∙ ap (λ (x : Test Label). cond_to (cond_of x.condition)) c.deref-2.ensures)
    c.in_ok-add.ensures c.in_ok-test.ensures.points c.in_ok-again.ensures
