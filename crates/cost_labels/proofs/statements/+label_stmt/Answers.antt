use Rattle.std.proofs.Common.{◌++◌, sym, ap, ◌∙◌}
use Rattle.std.proofs.lemmas.Result.{IfOk-weaker}
use Rattle.clight_syntax.specs.TypedTrees as p
use Rattle.clight_syntax.specs.Code.TypedViews.{stmt_of}
use Rattle.clight_syntax.specs.Labelling.{stmt_without, stmt_points, stmt_from, stmt_to}
use Rattle.clight_syntax.proofs.TypedRows.{block_is}
use Rattle.cost_labels.proofs.Appending.{part_added}
use Rattle.cost_labels.proofs.SamePlaces.{stmt_from_is}
use Rattle.cost_labels.proofs.Lists.{labelled_on, points_on}
use Rattle.cost_labels.proofs.statements.+label_stmt.Goals as goal

pub label_arm-returns-clause-points : goal.label_arm-returns-clause-points
label_arm-returns-clause-points t c =
    part_added _ _ _ _ _ _ _ _ _ _ _ (stmt_from_is _ _ _ (c.stmt_from.ensures ∙ ap (λ x. stmt_from (stmt_of x)) (c.deref.ensures ∙ sym c.into_inner.ensures)) c.in_ok-arm.ensures.alone) (c.stmt_to.ensures ∙ ap (λ x. stmt_to (stmt_of x)) c.deref-2.ensures)
    c.in_ok-one.ensures c.in_ok-arm.ensures.points c.in_ok-add.ensures

pub label_between-returns-clause-points : goal.label_between-returns-clause-points
label_between-returns-clause-points t c =
    part_added _ _ _ _ _ _ _ _ _ _ _ (stmt_from_is _ _ _ (c.stmt_from.ensures ∙ ap (λ x. stmt_from (stmt_of x)) (c.deref.ensures ∙ sym c.into_inner.ensures)) c.in_ok-part.ensures.alone) (c.stmt_to.ensures ∙ ap (λ x. stmt_to (stmt_of x)) c.deref-2.ensures)
    c.in_ok-one.ensures c.in_ok-part.ensures.points c.in_ok-other.ensures

pub label_do_body-returns-clause-points : goal.label_do_body-returns-clause-points
label_do_body-returns-clause-points t c =
    part_added _ _ _ _ _ _ _ _ _ _ _ (stmt_from_is _ _ _ (c.stmt_from.ensures ∙ ap (λ x. stmt_from (stmt_of x)) (c.deref.ensures ∙ sym c.into_inner.ensures)) c.in_ok-body.ensures.alone) (c.stmt_to.ensures ∙ ap (λ x. stmt_to (stmt_of x)) c.deref-2.ensures)
    c.in_ok-add.ensures c.in_ok-body.ensures.points c.in_ok-add-2.ensures

pub label_stmt-returns-in_ok-body-in-Block-clause-alone : goal.label_stmt-returns-in_ok-body-in-Block-clause-alone
label_stmt-returns-in_ok-body-in-Block-clause-alone t c =
    let left = c.in-Block.left in
    let right = c.in-Block.right in
    let body = c.in_ok-body-in-Block.body in
    IfOk-weaker c.boxed-in-Block.result _ _
    (λ b h. ap (λ x. stmt_without (stmt_of x)) h
    ∙ ap stmt_without (block_is left right body)
    ∙ ap (λ body. p.Block left body right) c.in_ok-body-in-Block.ensures.alone
    ∙ sym (ap stmt_of c.in-Block.is ∙ block_is left right c.in-Block.body))
    c.boxed-in-Block.ensures

pub label_stmt-returns-in_ok-body-in-Block-clause-points : goal.label_stmt-returns-in_ok-body-in-Block-clause-points
label_stmt-returns-in_ok-body-in-Block-clause-points t c =
    let left = c.in-Block.left in
    let right = c.in-Block.right in
    let body = c.in_ok-body-in-Block.body in
    IfOk-weaker c.boxed-in-Block.result _ _
    (λ b h. c.in_ok-body-in-Block.ensures.points
    ∙ ap (λ s. c.args.marker.now.points ++ stmt_points s) (sym (ap stmt_of h ∙ block_is left right body)))
    c.boxed-in-Block.ensures

pub label_stmts-loop-statement-preserved : goal.label_stmts-loop-statement-preserved
label_stmts-loop-statement-preserved t c =
    let copies = c.loop-statement.labelled.items in
    let all = c.push.new.self.items in
    let x = c.into_inner.result in (
      labelled_on copies all x c.loop-statement.yielded c.in-Some.statement c.loop-statement.invariant.0 (ap (λ s. stmt_without (stmt_of s)) c.into_inner.ensures ∙ c.in_ok-statement.ensures.alone) c.in_ok-push.ensures.items,
      points_on c.args.marker.now.points c.loop-statement.marker.points c.label_stmt.new.marker.points copies all x c.loop-statement.invariant.1 (c.in_ok-statement.ensures.points ∙ ap (λ s. c.loop-statement.marker.points ++ stmt_points (stmt_of s)) (sym c.into_inner.ensures)) c.in_ok-push.ensures.items,
    )
