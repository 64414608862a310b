use Rattle.std.proofs.Common.{◌<◌, slice_index_or, arith}
use Rattle.liveness.proofs.Lists.{in_at}
use Rattle.liveness.proofs.exits.add_numbered.Goals as goal

pub overflow_cast-v : goal.overflow_cast-v
overflow_cast-v c =
    let lt : slice_index_or c.args.numbers.now c.loop-v.v-index 0 < 12 = c.requires _ (in_at c.args.numbers.now c.loop-v.v-index 0 c.loop-v-test.true) in
    omega arith
