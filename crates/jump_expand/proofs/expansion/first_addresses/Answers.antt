use Rattle.std.proofs.Common.{arith}
use Rattle.jump_expand.proofs.Tables.{part_table, row_more}
use Rattle.jump_expand.proofs.expansion.first_addresses.Goals as goal

pub push-requires : goal.push-requires
push-requires c =
    let i = c.loop-k.invariant in
    record { table = (_, _, part_table c.loop-k.addresses c.args.items.now c.args.forms.now c.loop-k.k i.within i.starts i.at, omega arith, omega (arith, c.size_of.ensures.small, c.loop-k-test.true), omega (arith, c.loop-k-test.true)) }

pub loop-k-preserved : goal.loop-k-preserved
loop-k-preserved c =
    let i = c.loop-k.invariant in
    record {
      within = omega (arith, c.in_ok-push.ensures.within, i.within);
      starts = omega (arith, c.in_ok-push.ensures.starts, i.within);
      at = row_more c.loop-k.addresses c.push.new.self c.args.items.now c.args.forms.now c.loop-k.k c.size_of.result c.loop-k-test.true i.within i.at c.size_of.ensures.size c.in_ok-push.ensures.same c.in_ok-push.ensures.last;
    }
