use Rattle.std.proofs.Common.{◌≡◌, ◌+◌, ◌-◌, ◌<◌, Some, cond, length, arith, ap, ap₂, sym, ◌∙◌, drop}
use Rattle.std.specs.List.{position_from}
use Rattle.jump_expand.specs.Code.Anchors.{has_key, is_anchor, key_eq}
use Rattle.jump_expand.proofs.Anchors.{position_more}
use Rattle.jump_expand.proofs.targets.anchors.Goals as goal

pub loop-k-preserved-in_ok-insert : goal.loop-k-preserved-in_ok-insert
loop-k-preserved-in_ok-insert c =
    let k = c.loop-k.k - 1 in
    let items = c.args.items.now in
    let e : k + 1 ≡ c.loop-k.k = omega (arith, c.loop-k-test.true) in
    let lt : k < length items = omega (arith, c.loop-k-test.true, c.loop-k.invariant.within) in
    record {
      within = omega (arith, c.loop-k.invariant.within);
      found = λ q.
          c.in_ok-insert.ensures.updates.0 q ∙ ap (λ o. cond (key_eq c.in-Some.key q) (Some k) o) (c.loop-k.invariant.found q)
          ∙ sym (position_more (is_anchor q) items k lt ∙ ap₂ (λ a m. cond (has_key q a) (Some k) (position_from (is_anchor q) m (drop m items))) (sym c.in-Some.ensures) e);
    }
