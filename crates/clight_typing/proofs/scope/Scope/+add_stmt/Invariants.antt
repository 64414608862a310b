use Rattle.std.proofs.Common.{◌≡◌, ◌++◌, take}
use Rattle.clight_source.specs.Code.Views.{stmts_of}
use Rattle.clight_typing.specs.Code.HeldScopes.{scope_of}
use Rattle.clight_typing.specs.TypedStatements.{stmts_taken}
use Rattle.clight_typing.proofs.scope.Scope.+add_stmt.Given as goal

abbrev pub invariant-add_stmts-loop-x : goal.invariant-add_stmts-loop-x
invariant-add_stmts-loop-x l = l.taken.items ≡ l.initial.taken.items ++ stmts_taken (scope_of l.self) (stmts_of (take l.x-index l.xs))
