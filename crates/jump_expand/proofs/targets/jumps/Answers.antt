use Rattle.std.proofs.Common.{length, sym, ◌∙◌}
use Rattle.jump_expand.proofs.Anchors.{items_more, all_more, all_kept}
use Rattle.jump_expand.proofs.targets.jumps.Goals as goal
use Rattle.jump_expand.proofs.targets.jumps.Goals.{then-is_jump+in_ok-push, else-is_jump}

pub loop-k-preserved : goal.loop-k-preserved
loop-k-preserved c =
    let items = c.args.items.now in
    let ns = c.loop-k.jumps.items in
    let k = c.loop-k.k in
    let i = c.loop-k.invariant in
    elim c.if-is_jump.branch [
      | then-is_jump+in_ok-push w ↦ rw (w.jumps-is, w.in_ok-push.ensures.items) (record { below = items_more ns k (length items) i.below c.loop-k-test.true; all = all_more items ns k i.all })
      | else-is_jump w ↦ rw w.jumps-is (record { below = i.below; all = all_kept items ns k (sym c.is_jump.ensures ∙ w.if-is_jump.false) i.all })
    ]
