use Rattle.call_graph.specs.Code.Nodes.{callers_of}
use Rattle.call_graph.specs.Code.Walks.{IsUnderWay, steps_left}
use Rattle.call_graph.proofs.walk.Walk.place_with_callers.Given as goal

abbrev pub invariant-loop-top : goal.invariant-loop-top
invariant-loop-top l = IsUnderWay (callers_of l.nodes) l.function l.fn.self l.self

abbrev pub decreases-loop-top : goal.decreases-loop-top
decreases-loop-top l = steps_left l.self
