use Rattle.std.proofs.Common.{◌+◌, take, ◌∙◌}
use Rattle.colouring.specs.Code.Neighbours.{numbers}
use Rattle.colouring.proofs.Adding.{numbers_more, more_with}
use Rattle.colouring.proofs.rows.add_pairs.Goals as goal

pub loop-v-preserved : goal.loop-v-preserved
loop-v-preserved c = record {
  long = c.in_ok-add_with.ensures.long ∙ c.loop-v.invariant.long;
  added =
      more_with (numbers (take c.loop-v.v-index c.args.firsts.now)) _ (numbers (take (c.loop-v.v-index + 1) c.args.firsts.now)) (numbers c.args.others.now) c.args.rows.now.items c.loop-v.rows.items c.add_with.new.rows.items
      (numbers_more c.args.firsts.now c.loop-v.v-index (record { 0 = 0 }) c.loop-v-test.true) c.loop-v.invariant.added c.in_ok-add_with.ensures;
}
