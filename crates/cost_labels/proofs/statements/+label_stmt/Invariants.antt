use Rattle.std.proofs.Common.{◌≡◌, ◌++◌}
use Rattle.clight_syntax.specs.Code.TypedViews.{stmts_of}
use Rattle.clight_syntax.specs.Labelling.{stmts_without, stmts_points}
use Rattle.cost_labels.proofs.statements.+label_stmt.Given as goal

abbrev pub invariant-label_stmts-loop-statement : goal.invariant-label_stmts-loop-statement
invariant-label_stmts-loop-statement l =
    (stmts_without (stmts_of l.labelled.items) ≡ stmts_of l.yielded)
    × (l.marker.points ≡ l.initial.marker.points ++ stmts_points (stmts_of l.labelled.items))
