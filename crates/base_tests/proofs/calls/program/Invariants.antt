use Rattle.std.proofs.Common.{◌≡◌, length}
use Rattle.base_tests.proofs.calls.program.Given as goal

abbrev pub invariant-loop-caller : goal.invariant-loop-caller
invariant-loop-caller l = length l.graph ≡ l.count
