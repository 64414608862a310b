use Rattle.std.proofs.Common.{◌≡◌, ◌++◌, drop}
use Rattle.clight_meaning.specs.Meaning.{initials}
use Rattle.clight_values.specs.Code.Views.{variables_held}
use Rattle.clight_meaning.proofs.calls.initials.Given as goal

abbrev pub invariant-loop-variable : goal.invariant-loop-variable
invariant-loop-variable l = initials (variables_held l.variables) ≡ l.values.items ++ initials (variables_held (drop l.variable-index l.variables))
