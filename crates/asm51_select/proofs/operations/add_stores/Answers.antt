use Rattle.std.proofs.Common.{◌++◌, false, refl}
use Rattle.asm51_select.specs.Translation.{plains, store_code, stores_code}
use Rattle.asm51_select.proofs.Adding.{added_place}
use Rattle.asm51_select.proofs.operations.add_stores.Goals as goal

pub loop-place-preserved : goal.loop-place-preserved
loop-place-preserved c =
    added_place store_code stores_code (λ raised p ps. refl) c.loop-place.raised c.args.places.now c.loop-place.place-index _ c.loop-place.asm c.add_store.new.asm (c.args.asm.now ++ plains (stores_code false c.args.places.now)) c.loop-place-test.true c.loop-place.invariant
    c.in_ok-add_store.ensures
