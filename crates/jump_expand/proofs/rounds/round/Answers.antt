use Rattle.std.proofs.Common.{◌≡◌, ◌<◌, length, slice_index, arith, refl}
use Rattle.asm51.specs.Relaxation.{round}
use Rattle.asm51.proofs.Addresses.{form_at}
use Rattle.jump_expand.proofs.Steps.{size_grows, partly_grew, partly_stayed, partly_all, partly_other}
use Rattle.jump_expand.proofs.rounds.round.Goals as goal
use Rattle.jump_expand.proofs.rounds.round.Goals.{then-take_form, else-take_form}

pub take_form-requires-clause-size : goal.take_form-requires-clause-size
take_form-requires-clause-size c =
    let k = slice_index c.args.jumps.now c.loop-i.i in
    let lt = c.requires.jumps.below c.loop-i.i c.loop-i-test.true in
    let e = c.loop-j.invariant c.loop-i.i (omega arith) in
    size_grows c.args.items.now c.args.forms.now c.loop-i.forms k (form_at c.loop-j.next c.loop-i.i) c.requires.forms lt (c.loop-i.invariant.partly.each k lt) e

pub loop-i-preserved : goal.loop-i-preserved
loop-i-preserved c =
    let k = slice_index c.args.jumps.now c.loop-i.i in
    let lt = c.requires.jumps.below c.loop-i.i c.loop-i-test.true in
    let e = c.loop-j.invariant c.loop-i.i (omega arith) in
    let form = form_at c.loop-j.next c.loop-i.i in
    let items = c.args.items.now in
    let ns = c.args.jumps.now in
    let old = c.args.forms.now in
    let new = c.loop-i.forms in
    let in_range : k < length new = omega (arith, lt, c.requires.forms, c.loop-i.auto.forms) in
    record {
      addresses = c.take_form.ensures.addresses;
      partly = elim c.if-take_form.branch [
        | then-take_form w ↦ rw (w.changed-is, c.take_form.ensures.forms) (partly_grew items ns old new c.loop-i.i k form in_range refl e c.loop-i.changed c.loop-i.invariant.partly lt (c.take_form.ensures.other w.if-take_form.true))
        | else-take_form w ↦ rw (w.changed-is, c.take_form.ensures.forms) (partly_stayed items ns old new c.loop-i.i k form in_range refl e c.loop-i.changed c.loop-i.invariant.partly (c.take_form.ensures.same w.if-take_form.false))
      ];
    }

pub returns-clause-forms : goal.returns-clause-forms
returns-clause-forms c =
    partly_all c.args.items.now c.args.jumps.now c.args.forms.now c.loop-i.forms c.loop-i.i c.loop-i.changed c.loop-i.invariant.partly c.requires.jumps c.requires.forms (omega (arith, c.loop-i.auto.forms, c.requires.forms)) (omega (arith, c.loop-i-test.false))

pub returns-clause-other : goal.returns-clause-other
returns-clause-other c =
    let items = c.args.items.now in
    let e : c.loop-i.forms ≡ round items c.args.forms.now =
    partly_all items c.args.jumps.now c.args.forms.now c.loop-i.forms c.loop-i.i c.loop-i.changed c.loop-i.invariant.partly c.requires.jumps c.requires.forms (omega (arith, c.loop-i.auto.forms, c.requires.forms)) (omega (arith, c.loop-i-test.false)) in
    partly_other items c.args.jumps.now c.args.forms.now c.loop-i.forms c.loop-i.i c.loop-i.changed c.loop-i.invariant.partly e
