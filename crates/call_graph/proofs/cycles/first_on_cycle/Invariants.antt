use Rattle.std.proofs.Common.{ℕ, ◌<◌, length}
use Rattle.call_graph.specs.CallPaths.{Calls, IsOnCycle}
use Rattle.call_graph.specs.Code.Nodes.{callees_of}
use Rattle.call_graph.proofs.cycles.first_on_cycle.Given as goal

abbrev pub invariant-loop-function : goal.invariant-loop-function
invariant-loop-function l = (g : ℕ) → g < l.function → IsOnCycle (length l.nodes) (Calls (callees_of l.nodes)) g → ⊥
