use Rattle.std.proofs.Common.{◌+◌, [], ◌∷◌, take, ◌∙◌}
use Rattle.colouring.specs.Code.Neighbours.{numbers}
use Rattle.colouring.proofs.Adding.{numbers_more, with_more}
use Rattle.colouring.proofs.rows.add_with.Goals as goal

pub loop-w-preserved : goal.loop-w-preserved
loop-w-preserved c = record {
  long = c.in_ok-add_pair.ensures.long ∙ c.loop-w.invariant.long;
  added =
      with_more (c.args.v.0 ∷ []) (numbers (take c.loop-w.w-index c.args.others.now)) _ (numbers (take (c.loop-w.w-index + 1) c.args.others.now)) c.args.rows.now.items c.loop-w.rows.items c.add_pair.new.rows.items
      (numbers_more c.args.others.now c.loop-w.w-index (record { 0 = 0 }) c.loop-w-test.true) c.loop-w.invariant.added c.in_ok-add_pair.ensures;
}
