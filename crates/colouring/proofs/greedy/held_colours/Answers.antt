use Rattle.std.proofs.Common.{◌<◌, length, get_or, true, ◌∙◌, arith}
use Rattle.std.proofs.lemmas.List.{length-set}
use Rattle.colouring.specs.Colours.{colour_at}
use Rattle.colouring.proofs.Members.{held_more}
use Rattle.colouring.proofs.greedy.held_colours.Goals as goal

pub loop-w-preserved : goal.loop-w-preserved
loop-w-preserved c =
    let low : get_or c.args.row.now c.loop-w.w-index 0 < length c.args.given.now = c.requires.row c.loop-w.w-index 0 c.loop-w-test.true in
    let below : colour_at c.args.given.now (get_or c.args.row.now c.loop-w.w-index 0) < c.args.end = c.requires.below (get_or c.args.row.now c.loop-w.w-index 0) 0 low in
    let long = c.loop-w.invariant.long in
    let within : colour_at c.args.given.now (get_or c.args.row.now c.loop-w.w-index 0) < length c.loop-w.held.items = omega (arith, below, long) in
    record {
      long = length-set c.loop-w.held.items (colour_at c.args.given.now (get_or c.args.row.now c.loop-w.w-index 0)) true ∙ c.loop-w.invariant.long;
      held = held_more c.loop-w.held.items c.args.given.now c.args.row.now c.loop-w.w-index c.loop-w-test.true within c.loop-w.invariant.held;
    }
