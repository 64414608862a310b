use Rattle.std.proofs.Common.{◌≡◌, ◌∙◌, ◌+◌, ◌++◌, take, ap, sym, append_assoc, subst, List, ℕ}
use Rattle.std.specs.Prelude.{OnOk}
use Rattle.clight_source.specs.Code.Views.{stmt_of, stmts_of}
use Rattle.clight_typing.specs.Code.HeldScopes.{scope_of}
use Rattle.clight_typing.specs.TypedStatements.{stmt_taken, stmts_taken}
use Rattle.clight_typing.proofs.SourceRows.{block_is, take_next}
use Rattle.clight_typing.proofs.scope.Scope.+add_stmt.Goals as goal

pub add_stmts-loop-x-preserved : goal.add_stmts-loop-x-preserved
add_stmts-loop-x-preserved t c =
    let scope = scope_of c.args.self.now in
    let i = c.loop-x.x-index in
    let x = c.x-item.result in
    let old = c.args.taken.now.items in
    c.in_ok-add_stmt.ensures
    ∙ (ap (λ xs. xs ++ stmt_taken scope (stmt_of x)) c.loop-x.invariant
    ∙ (append_assoc old (stmts_taken scope (stmts_of (take i c.args.xs.now))) (stmt_taken scope (stmt_of x))
    ∙ ap (λ s. old ++ stmts_taken scope s) (sym (take_next c.args.xs.now i x c.loop-x-test.true c.x-item.is))))

pub add_stmt-returns-in-Block : goal.add_stmt-returns-in-Block
add_stmt-returns-in-Block t c =
    let scope = scope_of c.args.self.now in
    let old = c.args.taken.now.items in
    let P : List ℕ → Type 0 = λ xs. OnOk c.add_stmts.result (c.add_stmts.new.taken.items ≡ old ++ xs) in
    subst P
    (sym (ap (λ s. stmt_taken scope (stmt_of s)) c.in-Block.is
    ∙ (ap (stmt_taken scope) (block_is c.in-Block.field-0 c.in-Block.field-2 c.in-Block.body)
    ∙ ap (λ xs. stmts_taken scope (stmts_of xs)) (sym c.as_slice.ensures.value))))
    c.add_stmts.ensures
