use Rattle.std.proofs.Common.{◌<◌, length, take, slice_index_or, slice_set, sym, subst, arith}
use Rattle.std.proofs.lemmas.Grind.{common_steps}
use Rattle.std.proofs.lemmas.List.{take_more}
use Rattle.liveness.specs.Code.Reach.{AreSet}
use Rattle.liveness.proofs.Lists.{in_at}
use Rattle.liveness.proofs.Reaching.{set_next}
use Rattle.liveness.proofs.reach.set_all.Goals as goal

pub index_mut-requires : goal.index_mut-requires
index_mut-requires c =
    let lt : slice_index_or c.args.list.now c.loop-i.i-index 0 < length c.args.marks.now.items = c.requires _ (in_at c.args.list.now c.loop-i.i-index 0 c.loop-i-test.true) in
    let e = c.loop-i.invariant.long in
    let lt' : slice_index_or c.args.list.now c.loop-i.i-index 0 < length c.loop-i.marks.items = omega (arith, lt, e) in
    grind (arith, common_steps)

pub loop-i-preserved : goal.loop-i-preserved
loop-i-preserved c =
    let k = c.loop-i.i-index in
    let list = c.args.list.now in
    let lt : slice_index_or list k 0 < length c.args.marks.now.items = c.requires _ (in_at list k 0 c.loop-i-test.true) in
    subst (λ z. AreSet c.args.marks.now.items z c.args.value (slice_set c.loop-i.marks.items (slice_index_or list k 0) c.args.value)) (sym (take_more list k 0 c.loop-i-test.true))
    (set_next c.args.marks.now.items c.loop-i.marks.items (take k list) c.args.value (slice_index_or list k 0) lt c.loop-i.invariant)
