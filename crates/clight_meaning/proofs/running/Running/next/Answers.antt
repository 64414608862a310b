use Rattle.std.proofs.Common.{subst, sym, ◌∙◌}
use Rattle.clight_meaning.specs.Code.Holding.{Does}
use Rattle.clight_meaning.specs.Code.Turns.{Tells, rest_held}
use Rattle.clight_meaning.proofs.Telling.{the_move, step_tells, step_silent, step_lessens}
use Rattle.clight_meaning.proofs.running.Running.next.Goals as goal

pub returns-in-Some : goal.returns-in-Some
returns-in-Some c =
    let old = c.unseen.self in
    let new = c.step.new.self in
    subst (λ r. Tells c.in-Some.turn r (rest_held new)) (sym c.unseen.invariant)
    (step_tells c.in-Some.turn old new (subst (λ o. Does (the_move old) o old new) c.in-Some.is c.in_ok-answer.ensures))

pub unseen-smaller : goal.unseen-smaller
unseen-smaller c =
    let old = c.unseen.self in
    let new = c.step.new.self in
    step_lessens old new (subst (λ o. Does (the_move old) o old new) c.in-None.is c.in_ok-answer.ensures)

pub unseen-preserved : goal.unseen-preserved
unseen-preserved c =
    let old = c.unseen.self in
    let new = c.step.new.self in
    c.unseen.invariant ∙ step_silent old new (subst (λ o. Does (the_move old) o old new) c.in-None.is c.in_ok-answer.ensures)
