use Rattle.std.proofs.Common.{◌<◌, ◌^◌, slice_index_or, arith}
use Rattle.liveness.proofs.Lists.{in_at}
use Rattle.liveness.proofs.sets.live_point.Goals as goal

pub overflow_cast-v : goal.overflow_cast-v
overflow_cast-v c =
    let lt : slice_index_or c.args.row.now c.loop-v.v-index 0 < 2 ^ 32 = c.requires _ (in_at c.args.row.now c.loop-v.v-index 0 c.loop-v-test.true) in
    omega arith
