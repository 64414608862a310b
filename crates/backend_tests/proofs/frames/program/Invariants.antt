use Rattle.std.proofs.Common.{◌≡◌, length}
use Rattle.backend_tests.proofs.frames.program.Given as goal

abbrev pub invariant-loop-caller : goal.invariant-loop-caller
invariant-loop-caller l = length l.graph ≡ l.count
