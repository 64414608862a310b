use Rattle.std.proofs.Common.{◌∙◌}
use Rattle.clight_layout.proofs.Measures.{graph_on}
use Rattle.clight_layout.proofs.graph.graph_of.Goals as goal

pub loop-caller-preserved : goal.loop-caller-preserved
loop-caller-preserved c = record {
  count = c.in_ok-add_calls.ensures.count ∙ c.loop-caller.invariant.count;
  calls = graph_on c.args.functions.now c.loop-caller.caller c.index-functions-caller.result c.loop-caller.graph c.add_calls.new.graph c.as_slice.result.now
      c.loop-caller-test.true c.index-functions-caller.is c.loop-caller.invariant.count c.loop-caller.invariant.calls
      (c.as_slice.ensures.value ∙ c.in_ok-calls.ensures) c.in_ok-add_calls.ensures.added;
}
