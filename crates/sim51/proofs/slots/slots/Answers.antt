use Rattle.std.proofs.Common.{◌<◌, ◌+◌, None, sym, subst, arith}
use Rattle.std.proofs.lemmas.Option.{slice_get-get_or}
use Rattle.sim51.proofs.Tables.{AreSlotsBelow, slots_grow, all_slots, no_slots}
use Rattle.sim51.proofs.slots.slots.Goals as goal

pub loop-at-init : goal.loop-at-init
loop-at-init c =
    no_slots _ _ _ _ _ c.in_ok-table.ensures.count c.in_ok-table.ensures.each c.deref-label-items.ensures.value c.in_ok-slots.ensures.items

pub loop-at-preserved : goal.loop-at-preserved
loop-at-preserved c =
    let low : c.loop-at.at < 65536 = omega (arith, c.loop-at.invariant.addresses) in
    let grown = slots_grow _ _ _ _ _ _ _ c.loop-at.invariant low (slice_get-get_or c.deref-label-items.result.now c.loop-at.at None (omega arith)) c.slot_at.ensures in
    subst (λ items. AreSlotsBelow c.args.code.now c.args.labels.now c.deref-label-items.result.now (c.loop-at.at + 1) items) (sym c.in_ok-push.ensures.items) grown

pub returns : goal.returns
returns c = all_slots _ _ _ _ _ c.loop-at.invariant (omega arith)
