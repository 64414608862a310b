use Rattle.std.proofs.Common.{◌≡◌, take, Ok}
use Rattle.clight_source.specs.Code.Views.{stmts_of as sources_of}
use Rattle.clight_syntax.specs.Code.TypedViews.{stmts_of}
use Rattle.clight_typing.specs.Code.HeldBody.{body_for}
use Rattle.clight_typing.specs.TypedStatements.{typed_stmts as typed_stmts_lem}
use Rattle.clight_typing.proofs.statements.Body.+typed_stmt.Given as goal

abbrev pub invariant-typed_stmts-loop-x : goal.invariant-typed_stmts-loop-x
invariant-typed_stmts-loop-x l = typed_stmts_lem (body_for l.self) (sources_of (take l.x-index l.xs)) ≡ Ok (stmts_of l.typed.items)
