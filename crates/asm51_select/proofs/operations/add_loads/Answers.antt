use Rattle.std.proofs.Common.{◌++◌, false, refl}
use Rattle.asm51_select.specs.Translation.{plains, load_code, loads_code}
use Rattle.asm51_select.proofs.Adding.{added_place}
use Rattle.asm51_select.proofs.operations.add_loads.Goals as goal

pub loop-place-preserved : goal.loop-place-preserved
loop-place-preserved c =
    added_place load_code loads_code (λ raised p ps. refl) c.loop-place.raised c.args.places.now c.loop-place.place-index _ c.loop-place.asm c.add_load.new.asm (c.args.asm.now ++ plains (loads_code false c.args.places.now)) c.loop-place-test.true c.loop-place.invariant
    c.in_ok-add_load.ensures
