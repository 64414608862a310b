use Rattle.std.proofs.lemmas.List.{take_more}
use Rattle.call_graph.proofs.SumSteps.{with_push, max_is}
use Rattle.call_graph.proofs.sums.largest_with.Goals as goal

pub loop-caller-preserved : goal.loop-caller-preserved
loop-caller-preserved c = rw (take_more c.args.callers.now c.loop-caller.caller-index 0 c.loop-caller-test.true, c.max-largest.ensures, max_is) (with_push _ _ _ _ _ c.loop-caller.invariant)
