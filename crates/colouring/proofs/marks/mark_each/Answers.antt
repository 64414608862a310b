use Rattle.std.proofs.Common.{◌≡◌, ◌+◌, ◌<◌, length, take, get_or, true, ◌∙◌, arith}
use Rattle.std.proofs.lemmas.List.{length-set}
use Rattle.rtl.specs.declared.locations.Vreg.{Vreg}
use Rattle.colouring.specs.Code.Rows.{mark_at}
use Rattle.colouring.specs.Code.Neighbours.{numbers}
use Rattle.colouring.proofs.Adding.{numbers_more}
use Rattle.colouring.proofs.Marked.{each_marked}
use Rattle.colouring.proofs.marks.mark_each.Goals as goal

pub loop-v-preserved : goal.loop-v-preserved
loop-v-preserved c =
    let any : Vreg = record { 0 = 0 } in
    let low : (get_or c.args.vregs.now c.loop-v.v-index any).0 < length c.args.marks.now.items = c.requires c.loop-v.v-index any c.loop-v-test.true in
    let long = c.loop-v.invariant.long in
    record {
      long = length-set c.loop-v.marks.items (get_or c.args.vregs.now c.loop-v.v-index any).0 true ∙ c.loop-v.invariant.long;
      marked =
          each_marked (λ x. mark_at c.args.marks.now.items x ≡ true) c.loop-v.marks.items (get_or c.args.vregs.now c.loop-v.v-index any).0 (numbers (take c.loop-v.v-index c.args.vregs.now)) (numbers (take (c.loop-v.v-index + 1) c.args.vregs.now))
          (omega (arith, low, long)) (numbers_more c.args.vregs.now c.loop-v.v-index any c.loop-v-test.true) c.loop-v.invariant.marked;
    }
