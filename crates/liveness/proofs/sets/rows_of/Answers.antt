use Rattle.std.proofs.Common.{◌≡◌, ◌<◌, false, true, replicate, sym, ap, ◌∙◌, subst, arith}
use Rattle.std.proofs.lemmas.Grind.{common_steps}
use Rattle.rtl.specs.Effects.{Carry}
use Rattle.liveness.specs.Code.Rows.{AllBelow}
use Rattle.liveness.specs.Code.Reach.{AreClear, AreSet}
use Rattle.liveness.specs.Code.Points.{count}
use Rattle.liveness.specs.Code.Flow.{IsLive}
use Rattle.liveness.proofs.Reaching.{clear_new}
use Rattle.liveness.proofs.LiveRows.{carry_marks}
use Rattle.liveness.proofs.sets.rows_of.Goals as goal

pub set_all-requires : goal.set_all-requires
set_all-requires c =
    let n = count c.args.flow.now.points in
    let marks = c.in_ok-carry.carry.items in
    let counted : c.len-count.result ≡ n = grind (arith, common_steps) in
    let clear = clear_new marks n (c.in_ok-carry.ensures.items_if_clones_equal (λ y e. e) ∙ ap (λ k. replicate k false) counted) in
    subst (AllBelow c.deref.result.now) (sym clear.long) (subst (λ r. AllBelow r n) (sym c.deref.ensures.value) c.in_ok-list.ensures.below)

pub returns : goal.returns
returns c =
    let points = c.args.flow.now.points in
    let marks = c.in_ok-carry.carry.items in
    let carry = c.set_all.new.marks.items in
    let list = c.in_ok-list.list.items in
    let counted : c.len-count.result ≡ count points = grind (arith, common_steps) in
    let clear : AreClear marks (count points) = clear_new marks (count points) (c.in_ok-carry.ensures.items_if_clones_equal (λ y e. e) ∙ ap (λ k. replicate k false) counted) in
    let set : AreSet marks list true carry = subst (λ r. AreSet marks r true carry) c.deref.ensures.value c.set_all.ensures in
    λ g is. record {
      vregs = c.in_ok-vregs.ensures.exact g is;
      rising = c.in_ok-vregs.ensures.rising;
      carry_live = carry_marks marks carry list (count points) (λ i. (i < count points) × IsLive g points i Carry) clear set (c.in_ok-list.ensures.exact g is);
    }
