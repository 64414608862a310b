use Rattle.std.proofs.Common.{◌≡◌, ℕ, ◌+◌, ◌<◌, List, [], ◌∷◌, ◌++◌, length, map, take, get_or, true, sym, ap, ◌∙◌, arith, add-one, take-suc}
use Rattle.std.proofs.lemmas.List.{map-append, length-set}
use Rattle.rtl.specs.declared.locations.Vreg.{Vreg}
use Rattle.rtl.specs.Locations.{vreg_number}
use Rattle.rtl.specs.Lengths.{stands_in}
use Rattle.ltl_alloc.proofs.Marks.{marks_more}
use Rattle.ltl_alloc.proofs.plainest.marks.Goals as goal

first_vreg : Vreg
first_vreg = record { 0 = 0 }

pub loop-v-preserved : goal.loop-v-preserved
unfolding first_vreg
loop-v-preserved c =
    let list : List Vreg = c.args.list.now in
    let i : ℕ = c.loop-v.v-index in
    let v : Vreg = get_or list i (record { 0 = 0 }) in
    let taken : take (i + 1) list ≡ take i list ++ get_or list i first_vreg ∷ [] = ap (λ k. take k list) (add-one i) ∙ take-suc list i first_vreg c.loop-v-test.true in
    let names : map vreg_number (take (i + 1) list) ≡ map vreg_number (take i list) ++ (get_or list i first_vreg).0 ∷ [] = ap (map vreg_number) taken ∙ map-append vreg_number (take i list) (get_or list i first_vreg ∷ []) in
    let low : (get_or list i first_vreg).0 < c.bound.result = c.bound.ensures.above i first_vreg c.loop-v-test.true in
    let within : (get_or list i first_vreg).0 < length c.loop-v.marks.items = (let long = c.loop-v.invariant.long in let len = c.in_ok-marks.ensures.len in omega (arith, low, long, len)) in
    record {
      long = length-set c.loop-v.marks.items (get_or list i first_vreg).0 true ∙ c.loop-v.invariant.long;
      marked = λ w. marks_more c.loop-v.marks.items (map vreg_number (take i list)) (get_or list i first_vreg).0 within c.loop-v.invariant.marked w ∙ ap (stands_in w) (sym names);
    }
