use Rattle.std.proofs.Common.{◌≡◌, take}
use Rattle.clight_syntax.specs.Code.TypedViews.{stmts_of}
use Rattle.clight_syntax.specs.Labelling.{stmts_without}
use Rattle.cost_labels.proofs.unlabelled.+stmt_alone.Given as goal

abbrev pub invariant-stmts_alone-loop-statement : goal.invariant-stmts_alone-loop-statement
invariant-stmts_alone-loop-statement l = stmts_of l.copies.items ≡ stmts_without (stmts_of (take l.statement-index l.statements))
