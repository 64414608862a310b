use Rattle.std.proofs.Common.{◌≡◌, ℕ, ◌+◌, ◌<◌, ◌≤◌, List, [], ◌∷◌, ◌++◌, length, take, take_all, get_or, sym, ap, ◌∙◌, subst, arith, add-one, take-suc}
use Rattle.std.specs.Prelude.{All}
use Rattle.std.proofs.lemmas.List.Elements.{All-push}
use Rattle.rtl.specs.declared.locations.Vreg.{Vreg}
use Rattle.ltl_alloc.proofs.plainest.bound.Goals as goal

-- all are below a number that is raised above one more
raised : (list : List Vreg) (i b b' : ℕ) (zero_vreg : Vreg) → i < length list → All (λ (v : Vreg). v.0 < b) (take i list) → b ≤ b' → (get_or list i zero_vreg).0 < b' → All (λ (v : Vreg). v.0 < b') (take (i + 1) list)
raised list i b b' z lt above more new =
    let taken : take (i + 1) list ≡ take i list ++ get_or list i z ∷ [] = ap (λ k. take k list) (add-one i) ∙ take-suc list i z lt in
    let still : All (λ (v : Vreg). v.0 < b') (take i list) = λ k d within. (let low = above k d within in omega (arith, low, more)) in
    subst (All (λ (v : Vreg). v.0 < b')) (sym taken) (All-push (λ (v : Vreg). v.0 < b') (take i list) (get_or list i z) still new)

pub loop-v-preserved : goal.loop-v-preserved
loop-v-preserved c = record {
  above = raised c.args.list.now c.loop-v.v-index c.loop-v.bound _ (record { 0 = 0 }) c.loop-v-test.true c.loop-v.invariant.above (omega arith) (omega arith);
  few = omega arith;
}

pub returns-clause-above : goal.returns-clause-above
returns-clause-above c =
    subst (All (λ (v : Vreg). v.0 < c.loop-v.bound)) (take_all c.loop-v.v-index c.args.list.now c.loop-v-test.false) c.loop-v.invariant.above
