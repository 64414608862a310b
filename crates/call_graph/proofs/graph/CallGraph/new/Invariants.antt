use Rattle.std.proofs.Common.{◌≡◌, [], replicate}
use Rattle.call_graph.specs.Code.Nodes.{callees_of, callers_of}
use Rattle.call_graph.proofs.graph.CallGraph.new.Given as goal

abbrev pub invariant-loop : goal.invariant-loop
invariant-loop l = (callees_of l.nodes.items ≡ replicate l.counter []) × (callers_of l.nodes.items ≡ replicate l.counter [])
