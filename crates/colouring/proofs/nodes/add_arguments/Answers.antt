use Rattle.std.proofs.Common.{◌+◌, take, ◌∙◌}
use Rattle.colouring.specs.Code.Neighbours.{numbers}
use Rattle.colouring.proofs.Adding.{numbers_more}
use Rattle.colouring.proofs.NodePairs.{arguments_more}
use Rattle.colouring.proofs.nodes.add_arguments.Goals as goal

pub loop-v-preserved : goal.loop-v-preserved
loop-v-preserved c = record {
  long = c.in_ok-add_argument.ensures.long ∙ c.loop-v.invariant.long;
  added =
      arguments_more (numbers (take c.loop-v.v-index c.args.live.now)) _ (numbers (take (c.loop-v.v-index + 1) c.args.live.now)) (numbers c.args.live.now) c.args.rows.now.items c.loop-v.rows.items c.add_argument.new.rows.items
      (numbers_more c.args.live.now c.loop-v.v-index (record { 0 = 0 }) c.loop-v-test.true) c.loop-v.invariant.added c.in_ok-add_argument.ensures;
}
