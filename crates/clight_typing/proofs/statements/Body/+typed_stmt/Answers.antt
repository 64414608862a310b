use Rattle.std.proofs.Common.{◌≡◌, ◌∙◌, Result, Ok, Err, Vec, Global, ap, sym, rules}
use Rattle.clight_syntax.specs.declared.typed.Stmt.{Stmt as Held}
use Rattle.clight_syntax.specs.TypedTrees as p
use Rattle.clight_source.specs.Code.Views.{stmt_of as source_of, stmts_of as sources_of}
use Rattle.clight_syntax.specs.Code.TypedViews.{stmt_of, stmts_of}
use Rattle.clight_syntax.proofs.TypedRows as typed
use Rattle.clight_typing.specs.Code.HeldBody.{body_for}
use Rattle.clight_types.specs.TypedExpressions.{Checked, ◌>>=◌}
use Rattle.clight_typing.specs.TypedStatements.{typed_stmt, typed_stmts}
use Rattle.clight_typing.proofs.Gives.{faulted}
use Rattle.clight_typing.proofs.SourceRows.{block_is, typed_next, typed_fails}
use Rattle.clight_typing.proofs.Walks.{parts_at}
use Rattle.clight_typing.proofs.statements.Body.+typed_stmt.Goals as goal

pub typed_stmts-loop-x-preserved : goal.typed_stmts-loop-x-preserved
typed_stmts-loop-x-preserved t c =
    typed_next (body_for c.args.self.now) c.args.xs.now c.loop-x.x-index c.x-item.result c.loop-x.typed.items c.push.new.self.items c.in_ok-typed_stmt.field-0
    c.loop-x-test.true c.x-item.is c.loop-x.invariant c.in_ok-typed_stmt.ensures c.in_ok-push.ensures.items

pub typed_stmts-returns-in_err-typed_stmt : goal.typed_stmts-returns-in_err-typed_stmt
typed_stmts-returns-in_err-typed_stmt t c =
    let same : c.from_residual.result ≡ Err c.in_err-typed_stmt.field-0.0 = first_of (search rules, cc) in
    (faulted same stmt_of _ (typed_stmt (body_for c.args.self.now) (source_of c.x-item.result)) _ c.in_err-typed_stmt.ensures
    (λ f h. typed_fails (body_for c.args.self.now) c.args.xs.now c.loop-x.x-index c.x-item.result (stmts_of c.loop-x.typed.items) f
    (parts_at c.args.xs.now c.loop-x.x-index c.x-item.result c.loop-x-test.true c.x-item.is) c.loop-x.invariant h))

pub typed_stmt-returns-in_err-inner-in-Block : goal.typed_stmt-returns-in_err-inner-in-Block
typed_stmt-returns-in_err-inner-in-Block t c =
    let body = body_for c.args.self.now in
    let left = c.in-Block.left in
    let right = c.in-Block.right in
    let inner = c.in-Block.body in
    let same : c.from_residual.result ≡ Err c.in_err-inner-in-Block.field-0.0 = first_of (search rules, cc) in
    (faulted same (λ (r : Vec (Held (Unit {0})) Global). stmts_of r.items) _ (typed_stmts body (sources_of c.as_slice.result.now)) _ c.in_err-inner-in-Block.ensures
    (λ f h. ap (λ s. typed_stmt body (source_of s)) c.in-Block.is
    ∙ (ap (typed_stmt body) (block_is left right inner)
    ∙ ap (λ o. o >>= λ xs. let z : Checked (p.Stmt (Unit {0})) = Ok (p.Block left xs right) in z) (ap (λ xs. typed_stmts body (sources_of xs)) (sym c.as_slice.ensures.value) ∙ h))))

pub typed_stmt-returns-in_ok-inner-in-Block : goal.typed_stmt-returns-in_ok-inner-in-Block
typed_stmt-returns-in_ok-inner-in-Block t c =
    let body = body_for c.args.self.now in
    let left = c.in-Block.left in
    let right = c.in-Block.right in
    let inner = c.in-Block.body in
    let ok : p.Stmt (Unit {0}) → Checked (p.Stmt (Unit {0})) = λ x. Ok x in
    ap (λ s. typed_stmt body (source_of s)) c.in-Block.is
    ∙ (ap (typed_stmt body) (block_is left right inner)
    ∙ (ap (λ o. o >>= λ xs. ok (p.Block left xs right)) (ap (λ xs. typed_stmts body (sources_of xs)) (sym c.as_slice.ensures.value) ∙ c.in_ok-inner-in-Block.ensures)
    ∙ ap ok (sym (typed.block_is left right c.in_ok-inner-in-Block.inner))))
