use Rattle.std.proofs.Common.{take}
use Rattle.call_graph.specs.Code.Largest.{IsLargestWith}
use Rattle.call_graph.proofs.sums.largest_with.Given as goal

abbrev pub invariant-loop-caller : goal.invariant-loop-caller
invariant-loop-caller l = IsLargestWith (take l.caller-index l.callers) l.before l.sizes l.largest
