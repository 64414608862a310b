use Rattle.std.proofs.Common.{sym, ap, ◌∙◌}
use Rattle.std.proofs.lemmas.Result.{IfOk-weaker}
use Rattle.clight_syntax.specs.TypedTrees as p
use Rattle.clight_syntax.specs.Code.TypedViews.{stmt_of, stmts_of}
use Rattle.clight_syntax.specs.Labelling.{stmt_without, stmts_without}
use Rattle.clight_syntax.proofs.TypedRows.{block_is}
use Rattle.cost_labels.proofs.Lists.{alone_on}
use Rattle.cost_labels.proofs.unlabelled.+stmt_alone.Goals as goal

pub stmts_alone-loop-statement-preserved : goal.stmts_alone-loop-statement-preserved
stmts_alone-loop-statement-preserved t c =
    alone_on c.loop-statement.copies.items c.push.new.self.items c.into_inner.result c.args.statements.now c.loop-statement.statement-index c.statement-item.result
    c.loop-statement-test.true c.loop-statement.invariant (ap stmt_of c.into_inner.ensures ∙ c.in_ok-statement.ensures ∙ ap (λ s. stmt_without (stmt_of s)) c.statement-item.is) c.in_ok-push.ensures.items

pub stmt_alone-returns-in_ok-body-in-Block : goal.stmt_alone-returns-in_ok-body-in-Block
stmt_alone-returns-in_ok-body-in-Block t c =
    let left = c.in-Block.left in
    let right = c.in-Block.right in
    let body = c.in_ok-body-in-Block.body in
    IfOk-weaker c.boxed-in-Block.result _ _
    (λ b h. ap stmt_of h
    ∙ block_is left right body
    ∙ ap (λ body. p.Block left body right) (c.in_ok-body-in-Block.ensures ∙ ap (λ xs. stmts_without (stmts_of xs)) c.as_slice.ensures.value)
    ∙ sym (ap (λ s. stmt_without (stmt_of s)) c.in-Block.is ∙ ap stmt_without (block_is left right c.in-Block.body)))
    c.boxed-in-Block.ensures
