use Rattle.std.proofs.Common.{arith}
use Rattle.call_graph.specs.Code.Nodes.{callers_of}
use Rattle.call_graph.proofs.Turns.{order_at_rest, length-callers}
use Rattle.call_graph.proofs.walk.callers_first.Goals as goal

pub returns-clause-order : goal.returns-clause-order
returns-clause-order c =
    let len = length-callers c.args.nodes.now in
    let end = c.loop-function-test.false in
    order_at_rest (callers_of c.args.nodes.now) c.loop-function.walk c.loop-function.invariant.0 (λ f h. c.loop-function.invariant.2 f (omega arith))
