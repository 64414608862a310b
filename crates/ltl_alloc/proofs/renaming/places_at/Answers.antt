use Rattle.std.proofs.Common.{◌≡◌, ℕ, ◌+◌, ◌<◌, ◌≤◌, ◌⊎◌, inl, inr, [], ◌∷◌, length, get_or, Some, None, slice_get, sym, ap, ◌∙◌, subst, arith, length-append}
use Rattle.std.proofs.lemmas.Option.{slice_get_past}
use Rattle.ltl_alloc.specs.Allocations.{spot_or_none, place_or_any, place_in}
use Rattle.ltl_alloc.specs.Translation.{at_base}
use Rattle.ltl_alloc.specs.Code.PlaceTables.{given_or_any}
use Rattle.ltl_alloc.proofs.Lists.{pushed, spot_at}
use Rattle.ltl_alloc.proofs.Places.{any_stays}
use Rattle.ltl_alloc.proofs.renaming.places_at.Goals as goal

pub place_at-requires : goal.place_at-requires
place_at-requires c n e = c.requires c.loop-v.v n (spot_at c.args.a.now.spots c.loop-v.v ∙ ap (λ spots. get_or spots c.loop-v.v None) (sym c.as_slice-spot-items.ensures) ∙ e)

pub loop-v-preserved : goal.loop-v-preserved
loop-v-preserved c = record {
  long = ap length c.in_ok-push.ensures.items ∙ length-append c.loop-v.places.items (c.place_at.result ∷ []) ∙ ap (λ n. n + 1) c.loop-v.invariant.long;
  each = λ w lt. subst (λ xs. slice_get xs w ≡ Some (at_base c.args.base (place_in c.args.a.now w))) (sym c.in_ok-push.ensures.items)
      (pushed (λ v. at_base c.args.base (place_in c.args.a.now v)) c.loop-v.places.items c.place_at.result c.loop-v.v c.loop-v.invariant.long c.loop-v.invariant.each
      (c.place_at.ensures ∙ ap (λ spot. at_base c.args.base (place_or_any c.loop-v.v spot)) (ap (λ spots. get_or spots c.loop-v.v None) c.as_slice-spot-items.ensures ∙ sym (spot_at c.args.a.now.spots c.loop-v.v))) w lt);
}

low_or_past : (v k : ℕ) → (v < k) ⊎ (k ≤ v)
low_or_past v k = grind arith

pub returns : goal.returns
returns c v = by_place (low_or_past v c.loop-v.v)
  where
    by_place : (v < c.loop-v.v) ⊎ (c.loop-v.v ≤ v) → given_or_any v (slice_get c.loop-v.places.items v) ≡ at_base c.args.base (place_in c.args.a.now v)
    by_place (inl lt) = ap (given_or_any v) (c.loop-v.invariant.each v lt)
    by_place (inr past) =
        let long = c.loop-v.invariant.long in
        let end = c.loop-v-test.false in
        let same : length c.as_slice-spot-items.result.now ≡ length c.args.a.now.spots = ap length c.as_slice-spot-items.ensures in
        let over : length c.loop-v.places.items ≤ v = omega (arith, long, past) in
        let beyond : length c.args.a.now.spots ≤ v = omega (arith, end, past, same) in
        ap (given_or_any v) (slice_get_past c.loop-v.places.items v over)
        ∙ sym (any_stays c.args.base v)
        ∙ ap (λ spot. at_base c.args.base (place_or_any v (spot_or_none spot))) (sym (slice_get_past c.args.a.now.spots v beyond))
