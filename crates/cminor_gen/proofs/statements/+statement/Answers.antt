use Rattle.std.proofs.Common.{◌≡◌, IfOk, sym, ap, ◌∙◌, subst}
use Rattle.cerco_middle.specs.Cminor.Trees as m
use Rattle.cerco_middle.specs.Code.Views.{stmt_of as cm_stmt_of, stmts_of as cm_stmts_of}
use Rattle.clight_syntax.specs.Code.TypedViews.{stmt_of, stmts_of, program_of}
use Rattle.clight_syntax.proofs.TypedRows.{block_is}
use Rattle.cminor_gen.specs.Translation.Statements.{statement, statements_after}
use Rattle.cminor_gen.proofs.Rows.{added_on}
use Rattle.cminor_gen.proofs.statements.+statement.Goals as goal

pub add_statements-loop-x-preserved : goal.add_statements-loop-x-preserved
add_statements-loop-x-preserved t c =
    let p = program_of c.args.program.now in
    added_on p c.loop-x.list.items c.push.new.self.items c.into_inner.result (cm_stmts_of c.args.list.now.items) c.args.statements.now c.loop-x.x-index c.x-item.result
    c.loop-x-test.true c.loop-x.invariant (ap cm_stmt_of c.into_inner.ensures ∙ c.in_ok-x.ensures ∙ ap (λ s. statement p (stmt_of s)) c.x-item.is) c.in_ok-push.ensures.items

pub statement-returns-in_ok-add_statements-in-Block : goal.statement-returns-in_ok-add_statements-in-Block
statement-returns-in_ok-add_statements-in-Block t c =
    let p = program_of c.args.program.now in
    let body = c.in-Block.body in
    let made = c.in_ok-add_statements-in-Block.ensures
    ∙ ap (λ xs. statements_after p (stmts_of xs) (cm_stmts_of c.new-list.result.items)) c.as_slice.ensures.value
    ∙ ap (λ xs. statements_after p (stmts_of body.items) (cm_stmts_of xs)) c.new-list.ensures.items in
    let is = ap (λ s. statement p (stmt_of s)) c.in-Block.is ∙ ap (statement p) (block_is c.in-Block.field-0 c.in-Block.field-2 body) in
    subst (λ z. IfOk c.sequence.result (λ r. cm_stmt_of r.value ≡ z)) (ap m.Seq made ∙ sym is) c.sequence.ensures
