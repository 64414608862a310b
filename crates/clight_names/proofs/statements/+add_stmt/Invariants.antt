use Rattle.std.proofs.Common.{◌≡◌, ◌++◌, take}
use Rattle.clight_source.specs.Code.Views.{stmts_of}
use Rattle.clight_names.specs.Occurrences.{stmts_names}
use Rattle.clight_names.proofs.statements.+add_stmt.Given as goal

abbrev pub invariant-add_stmts-loop-statement : goal.invariant-add_stmts-loop-statement
invariant-add_stmts-loop-statement l = l.names.items ≡ l.initial.names.items ++ stmts_names l.item (stmts_of (take l.statement-index l.statements))
