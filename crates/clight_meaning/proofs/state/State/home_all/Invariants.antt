use Rattle.std.proofs.Common.{◌≡◌, ◌≤◌, drop}
use Rattle.clight_meaning.specs.Meaning.{homed}
use Rattle.clight_meaning.specs.Code.Views.{state_held}
use Rattle.clight_values.specs.Code.Views.{variables_held}
use Rattle.clight_meaning.proofs.state.State.home_all.Given as goal

abbrev pub invariant-loop-variable : goal.invariant-loop-variable
invariant-loop-variable l = record {
  few : l.number ≤ l.variable-index;
  rest : homed (variables_held l.variables) 0 (state_held l.fn.self) ≡ homed (variables_held (drop l.variable-index l.variables)) l.number (state_held l.self);
}
