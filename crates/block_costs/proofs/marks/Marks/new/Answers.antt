use Rattle.std.proofs.Common.{◌<◌, get_or, refl, arith, rules}
use Rattle.block_costs.proofs.Marking.{no_flags, one_more, all_flags}
use Rattle.block_costs.proofs.marks.Marks.new.Goals as goal

pub loop-at-init : goal.loop-at-init
loop-at-init c = no_flags _ (c.in_ok-flags.ensures.items_if_clones_equal (search rules))

pub loop-at-preserved : goal.loop-at-preserved
loop-at-preserved c =
    let at = get_or c.args.labels.now c.loop-at.at-index 0 in
    let low : at < 65536 = omega (arith, c.type_inv.labels c.loop-at.at-index) in
    one_more c.args.labels.now c.loop-at.flags.items c.loop-at.at-index at (omega arith) refl low c.loop-at.invariant

pub returns : goal.returns
returns c = all_flags c.args.labels.now c.loop-at.flags.items c.loop-at.at-index (omega arith) c.loop-at.invariant
