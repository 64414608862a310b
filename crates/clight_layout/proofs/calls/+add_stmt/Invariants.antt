use Rattle.std.proofs.Common.{◌≡◌, ◌++◌, take}
use Rattle.clight_syntax.specs.Code.TypedViews.{stmts_of}
use Rattle.clight_layout.specs.Calls.{stmts_calls}
use Rattle.clight_layout.proofs.calls.+add_stmt.Given as goal

abbrev pub invariant-add_stmts-loop-statement : goal.invariant-add_stmts-loop-statement
invariant-add_stmts-loop-statement l = l.calls.items ≡ l.initial.calls.items ++ stmts_calls (stmts_of (take l.statement-index l.statements))
