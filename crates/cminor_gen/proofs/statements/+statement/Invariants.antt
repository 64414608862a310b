use Rattle.std.proofs.Common.{◌≡◌, take}
use Rattle.cerco_middle.specs.Code.Views.{stmts_of as cm_stmts_of}
use Rattle.clight_syntax.specs.Code.TypedViews.{stmts_of, program_of}
use Rattle.cminor_gen.specs.Translation.Statements.{statements_after}
use Rattle.cminor_gen.proofs.statements.+statement.Given as goal

abbrev pub invariant-add_statements-loop-x : goal.invariant-add_statements-loop-x
invariant-add_statements-loop-x l = cm_stmts_of l.list.items ≡ statements_after (program_of l.program) (stmts_of (take l.x-index l.statements)) (cm_stmts_of l.fn.list.items)
