use Rattle.std.proofs.Common.{◌≡◌, ◌++◌, map, drop}
use Rattle.clight_syntax.specs.Code.TypedViews.{variable_of}
use Rattle.cminor_gen.specs.Translation.Statements.{held_scalars}
use Rattle.cminor_gen.proofs.functions.held_scalars.Given as goal

abbrev pub invariant-loop-variable : goal.invariant-loop-variable
invariant-loop-variable l = held_scalars (map variable_of l.variables) ≡ l.held.items ++ held_scalars (map variable_of (drop l.variable-index l.variables))
