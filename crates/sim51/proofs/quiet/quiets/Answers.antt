use Rattle.std.proofs.Common.{map, refl, ap, ◌∙◌, arith}
use Rattle.std.proofs.lemmas.List.{take_all}
use Rattle.sim51.specs.Code.Quiets.{quiet_of}
use Rattle.sim51.proofs.Skipping.{quiets_grow}
use Rattle.sim51.proofs.quiet.quiets.Goals as goal

pub loop-slot-init : goal.loop-slot-init
loop-slot-init c = c.in_ok-quiets.ensures.items

pub loop-slot-preserved : goal.loop-slot-preserved
loop-slot-preserved c =
    c.in_ok-push.ensures.items ∙ quiets_grow c.args.slots.now _ c.loop-slot.slot-index _ _ _ c.loop-slot.invariant c.loop-slot-test.true refl c.quiet_of.ensures

pub returns : goal.returns
returns c = c.loop-slot.invariant ∙ ap (map quiet_of) (take_all c.loop-slot.slot-index c.args.slots.now (omega arith))
