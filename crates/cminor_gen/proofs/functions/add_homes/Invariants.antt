use Rattle.std.proofs.Common.{◌≡◌, map, drop}
use Rattle.cerco_middle.specs.Code.Views.{stmts_of}
use Rattle.clight_syntax.specs.Code.TypedViews.{variable_of}
use Rattle.cminor_gen.specs.Translation.Statements.{homes_after}
use Rattle.cminor_gen.proofs.functions.add_homes.Given as goal

abbrev pub invariant-loop-variable : goal.invariant-loop-variable
invariant-loop-variable l =
    homes_after (map variable_of (drop l.variable-index l.variables)) l.number (stmts_of l.list.items) ≡ homes_after (map variable_of l.variables) 0 (stmts_of l.fn.list.items)
