use Rattle.clight_layout.proofs.Appending.{stmts_on, block_added}
use Rattle.clight_layout.proofs.calls.+add_stmt.Goals as goal

pub add_stmts-loop-statement-preserved : goal.add_stmts-loop-statement-preserved
add_stmts-loop-statement-preserved t c =
    stmts_on _ _ _ c.args.statements.now c.loop-statement.statement-index c.statement-item.result c.loop-statement-test.true c.statement-item.is
    c.loop-statement.invariant c.in_ok-add_stmt.ensures

pub add_stmt-returns-in-Block : goal.add_stmt-returns-in-Block
add_stmt-returns-in-Block t c =
    block_added c.args.calls.now.items _ c.args.s.now c.in-Block.field-0 c.in-Block.field-2 c.in-Block.body _ c.add_stmts.result c.in-Block.is c.as_slice.ensures.value c.add_stmts.ensures
