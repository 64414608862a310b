-- The largest sums before functions, one function after the other in the order of calls.
use Rattle.std.proofs.Common.{◌≡◌, ◌≢◌, ℕ, ◌+◌, ◌<◌, ◌≤◌, ◌^◌, List, [], ◌∷◌, ◌++◌, length, get_or, set, take, max, nat_cmp, ap, sym, ◌∙◌, subst, inl, inr, arith, below_more}
use Rattle.std.specs.Prelude.{Contains, All, ◌↔◌}
use Rattle.std.proofs.lemmas.Bool.{cases_lt}
use Rattle.std.proofs.lemmas.Bool.Decides.{nat_tests}
use Rattle.std.specs.Ordering.{ord_max}
use Rattle.std.proofs.lemmas.List.{get_or-set_same, get_or-set_other, length-set, get_or_default}
use Rattle.std.proofs.lemmas.List.Elements.{Contains-append_left, Contains-push, Contains-push_cases, All-contains}
use Rattle.std.proofs.lemmas.List.Sums.{sum_by_push}
use Rattle.cerco_base.specs.CallOrder.{Called, functions_of, callers_at, IsCallOrder}
use Rattle.call_graph.specs.CallPaths.{CallsIn, IsCallPath, IsLargestSum, IsLargestSumBefore, sum_along}
use Rattle.call_graph.specs.Code.Largest.{IsLargestWith, AreSums}
use Rattle.call_graph.proofs.Entries.{last_cases, contains_at}
use Rattle.call_graph.proofs.Paths.{path-push, path-front, path-last}
use Rattle.call_graph.proofs.OrderPaths.{StandsAt, length-functions, stands, stands_before, contains_standing, not_twice, one_place, last_stands}

-- one caller more
pub with_push : (xs before sizes : List ℕ) (n c : ℕ) → IsLargestWith xs before sizes n → IsLargestWith (xs ++ c ∷ []) before sizes (max n (get_or before c 0 + get_or sizes c 0))
with_push xs before sizes n c w =
    let s : ℕ = get_or before c 0 + get_or sizes c 0 in
    record {
      some =
          elim (cases_lt n (get_or before c 0 + get_or sizes c 0)) [
            | inl h ↦ inr (c, Contains-push xs c, let e : get_or before c 0 + get_or sizes c 0 ≡ max n (get_or before c 0 + get_or sizes c 0) = omega arith in e)
            | inr h ↦
                let e : n ≡ max n (get_or before c 0 + get_or sizes c 0) = omega arith in
                elim w.some [
                  | inl zero ↦ inl (sym e ∙ zero)
                  | inr there ↦ inr (there.0, Contains-append_left xs (c ∷ []) there.0 there.1, there.2 ∙ e)
                ]
          ];
      most = λ d there.
          elim (Contains-push_cases xs c d there) [
            | inl old ↦ let le = w.most d old in omega arith
            | inr same ↦ subst (λ (x : ℕ). get_or before x 0 + get_or sizes x 0 ≤ max n (get_or before c 0 + get_or sizes c 0)) same (omega arith)
          ];
    }

-- the sum along a path and the function at its end
pub sum-end : (sizes path : List ℕ) (f : ℕ) → sum_along sizes (path ++ f ∷ []) ≡ sum_along sizes path + get_or sizes f 0
sum-end sizes path f = sum_by_push (λ (x : ℕ). get_or sizes x 0) path f

-- a caller of the function at a place stands before, with its sum
caller_known : (order : List Called) (sizes before : List ℕ) (i largest c : ℕ) → IsCallOrder order → AreSums order sizes i before largest → i < length order → Contains (callers_at order i) c → IsLargestSumBefore (length sizes) (CallsIn order) sizes c (get_or before c 0)
caller_known order sizes before i largest c o sums h there =
    let at = stands_before order c i (omega arith) (All-contains (Contains (take i (functions_of order))) (callers_at order i) c (o.callers_before i h) there) in
    subst (λ (x : ℕ). IsLargestSumBefore (length sizes) (CallsIn order) sizes x (get_or before x 0)) at.2.is (sums.sums at.0 at.1)

-- the path to a function, with it, is one of those whose sum fits
fits_with : (order : List Called) (sizes : List ℕ) (f n : ℕ) → ((path : List ℕ) → IsCallPath (length sizes) (CallsIn order) path → sum_along sizes path < 2 ^ 32) → IsLargestSumBefore (length sizes) (CallsIn order) sizes f n → n + get_or sizes f 0 < 2 ^ 32
fits_with order sizes f n fits sum =
    let lt = fits (sum.some.0 ++ f ∷ []) sum.some.1 in
    let e = sum-end sizes sum.some.0 f in
    let s = sum.some.2 in
    omega arith

pub callers_fit : (order : List Called) (sizes before : List ℕ) (i largest : ℕ) → IsCallOrder order → AreSums order sizes i before largest → i < length order → ((path : List ℕ) → IsCallPath (length sizes) (CallsIn order) path → sum_along sizes path < 2 ^ 32) → All (λ c. get_or before c 0 + get_or sizes c 0 < 2 ^ 32) (callers_at order i)
callers_fit order sizes before i largest o sums h fits k d lt =
    let c : ℕ = get_or (callers_at order i) k d in
    let there : Contains (callers_at order i) (get_or (callers_at order i) k d) = contains_at (callers_at order i) k (get_or (callers_at order i) k d) lt (get_or_default (callers_at order i) k 0 d lt) in
    fits_with order sizes (get_or (callers_at order i) k d) (get_or before (get_or (callers_at order i) k d) 0) fits (caller_known order sizes before i largest (get_or (callers_at order i) k d) o sums h there)

-- callers have sizes
pub callers_sized : (order : List Called) (sizes before : List ℕ) (i : ℕ) → IsCallOrder order → ((f : ℕ) → Contains (functions_of order) f ↔ (f < length sizes)) → length before ≡ length sizes → i < length order → All (λ c. c < length before) (callers_at order i)
callers_sized order sizes before i o functions len h k d lt =
    let at = stands_before order (get_or (callers_at order i) k d) i (omega arith) (o.callers_before i h k d lt) in
    let within = (functions (get_or (callers_at order i) k d)).0 (contains_standing order (get_or (callers_at order i) k d) at.0 at.2) in
    omega arith

-- the sum before the function at a place, from those before its callers
pub sum_before : (order : List Called) (sizes before : List ℕ) (i largest f n : ℕ) → IsCallOrder order → ((g : ℕ) → Contains (functions_of order) g ↔ (g < length sizes)) → AreSums order sizes i before largest → StandsAt order f i → IsLargestWith (callers_at order i) before sizes n → IsLargestSumBefore (length sizes) (CallsIn order) sizes f n
sum_before order sizes before i largest f n o functions sums at with' =
    record {
      some =
          elim with'.some [
            | inl zero ↦ ([], ((functions f).0 (contains_standing order f i at), tt), sym zero)
            | inr there ↦
                let c = caller_known order sizes before i largest there.0 o sums at.within there.1 in (
                  c.some.0 ++ there.0 ∷ [],
                  path-push (length sizes) (CallsIn order) c.some.0 there.0 f c.some.1 (i, at.within, at.is, there.1),
                  (let e = sum-end sizes c.some.0 there.0 in let s = c.some.2 in let t = there.2 in let g : sum_along sizes (c.some.0 ++ there.0 ∷ []) ≡ n = omega arith in g),
                )
          ];
      most = λ path way.
          elim (last_cases path) [
            | inl none ↦ let zero : sum_along sizes path ≡ 0 = ap (sum_along sizes) none in omega arith
            | inr last ↦
                let along = subst (λ (p : List ℕ). IsCallPath (length sizes) (CallsIn order) (p ++ f ∷ [])) last.2 way in
                let call = path-last (length sizes) (CallsIn order) last.0 last.1 f along in
                let front = path-front (length sizes) (CallsIn order) last.0 last.1 f along in
                let same = one_place order o f call.0 i (record { within = call.1; is = call.2 }) at in
                let there = subst (λ (j : ℕ). Contains (callers_at order j) last.1) same call.3 in
                let c = caller_known order sizes before i largest last.1 o sums at.within there in
                let le = c.most last.0 front in
                let bound = with'.most last.1 there in
                let e : sum_along sizes path ≡ sum_along sizes last.0 + get_or sizes last.1 0 = ap (sum_along sizes) last.2 ∙ sum-end sizes last.0 last.1 in
                omega arith
          ];
    }

pub sum_fits : (order : List Called) (sizes before : List ℕ) (i largest f n : ℕ) → IsCallOrder order → ((g : ℕ) → Contains (functions_of order) g ↔ (g < length sizes)) → AreSums order sizes i before largest → StandsAt order f i → IsLargestWith (callers_at order i) before sizes n → ((path : List ℕ) → IsCallPath (length sizes) (CallsIn order) path → sum_along sizes path < 2 ^ 32) → n + get_or sizes f 0 < 2 ^ 32
sum_fits order sizes before i largest f n o functions sums at with' fits = fits_with order sizes f n fits (sum_before order sizes before i largest f n o functions sums at with')

-- the next function of the order has its sum
pub sums_next : (order : List Called) (sizes before : List ℕ) (i largest f n : ℕ) → IsCallOrder order → ((g : ℕ) → Contains (functions_of order) g ↔ (g < length sizes)) → AreSums order sizes i before largest → StandsAt order f i → IsLargestWith (callers_at order i) before sizes n → AreSums order sizes (i + 1) (set before f n) (max largest (n + get_or sizes f 0))
sums_next order sizes before i largest f n o functions sums at with' =
    let own = sum_before order sizes before i largest f n o functions sums at with' in
    let within = (functions f).0 (contains_standing order f i at) in
    let len = sums.before_length in
    let here : get_or (set before f n) f 0 ≡ n = get_or-set_same before f n 0 (omega arith) in
    let w = at.within in
    let other : (k : ℕ) → k < i → get_or (functions_of order) k 0 ≢ f = λ k h e. not_twice order o f k i (record { within = omega arith; is = e }) at h in
    let still : (k : ℕ) → k < i → get_or (set before f n) (get_or (functions_of order) k 0) 0 ≡ get_or before (get_or (functions_of order) k 0) 0 = λ k h. get_or-set_other before f (get_or (functions_of order) k 0) n 0 (other k h) in
    let P : ℕ → Type 0 = λ k. IsLargestSumBefore (length sizes) (CallsIn order) sizes (get_or (functions_of order) k 0) (get_or (set before f n) (get_or (functions_of order) k 0) 0) in
    let Q : ℕ → Type 0 = λ k. get_or (set before f n) (get_or (functions_of order) k 0) 0 + get_or sizes (get_or (functions_of order) k 0) 0 ≤ max largest (n + get_or sizes f 0) in
    record {
      before_length = length-set before f n ∙ len;
      sums = below_more P i
          (λ k h. subst (IsLargestSumBefore (length sizes) (CallsIn order) sizes (get_or (functions_of order) k 0)) (sym (still k h)) (sums.sums k h))
          (subst (λ (x : ℕ). IsLargestSumBefore (length sizes) (CallsIn order) sizes x (get_or (set before f n) x 0)) (sym at.is) (subst (IsLargestSumBefore (length sizes) (CallsIn order) sizes f) (sym here) own));
      some =
          elim (cases_lt largest (n + get_or sizes f 0)) [
            | inl h ↦ (
              own.some.0 ++ f ∷ [],
              inl own.some.1,
              (let e = sum-end sizes own.some.0 f in let s = own.some.2 in let g : sum_along sizes (own.some.0 ++ f ∷ []) ≡ max largest (n + get_or sizes f 0) = omega arith in g),
            )
            | inr h ↦ (sums.some.0, sums.some.1, sums.some.2 ∙ (let e : largest ≡ max largest (n + get_or sizes f 0) = omega arith in e))
          ];
      most = below_more Q i
          (λ k h. let le = sums.most k h in let e = still k h in omega arith)
          (subst (λ (x : ℕ). get_or (set before f n) x 0 + get_or sizes x 0 ≤ max largest (n + get_or sizes f 0)) (sym at.is) (omega arith));
    }

-- the function at the end of a path stands in the order
end_stands : (order : List Called) (functions : ℕ) → ((f : ℕ) → f < functions → Contains (functions_of order) f) → (path : List ℕ) (f : ℕ) → IsCallPath functions (CallsIn order) (path ++ f ∷ []) → (i : ℕ) × StandsAt order f i
end_stands order functions all [] f way = stands order f (all f way.0)
end_stands order functions all (g ∷ path) f way = last_stands order g path f way.1

pub sums_before : (order : List Called) (sizes before : List ℕ) (n largest f : ℕ) → ((g : ℕ) → Contains (functions_of order) g ↔ (g < length sizes)) → AreSums order sizes n before largest → length order ≤ n → f < length sizes → IsLargestSumBefore (length sizes) (CallsIn order) sizes f (get_or before f 0)
sums_before order sizes before n largest f functions sums whole h =
    let at = stands order f ((functions f).1 h) in
    let w = at.1.within in
    subst (λ (x : ℕ). IsLargestSumBefore (length sizes) (CallsIn order) sizes x (get_or before x 0)) at.1.is (sums.sums at.0 (omega arith))

pub sums_largest : (order : List Called) (sizes before : List ℕ) (n largest : ℕ) → ((g : ℕ) → Contains (functions_of order) g ↔ (g < length sizes)) → AreSums order sizes n before largest → length order ≤ n → IsLargestSum (length sizes) (CallsIn order) sizes largest
sums_largest order sizes before n largest functions sums whole =
    record {
      some = sums.some;
      most = λ path way.
          elim (last_cases path) [
            | inl none ↦ let zero : sum_along sizes path ≡ 0 = ap (sum_along sizes) none in omega arith
            | inr last ↦
                let along = subst (IsCallPath (length sizes) (CallsIn order)) last.2 way in
                let at = end_stands order (length sizes) (λ f h. (functions f).1 h) last.0 last.1 along in
                let w = at.1.within in
                let sum = subst (λ (x : ℕ). IsLargestSumBefore (length sizes) (CallsIn order) sizes x (get_or before x 0)) at.1.is (sums.sums at.0 (omega arith)) in
                let le = sum.most last.0 along in
                let bound = subst (λ (x : ℕ). get_or before x 0 + get_or sizes x 0 ≤ largest) at.1.is (sums.most at.0 (omega arith)) in
                let e : sum_along sizes path ≡ sum_along sizes last.0 + get_or sizes last.1 0 = ap (sum_along sizes) last.2 ∙ sum-end sizes last.0 last.1 in
                omega arith
          ];
    }

-- the greater of two numbers, as `max` of their order gives it
pub max_is : (a b : ℕ) → ord_max nat_cmp a b ≡ max a b
max_is a b = grind (arith, nat_tests)

-- the function that is read at a place of the order
pub at_place : (order : List Called) (fs : List ℕ) (i : ℕ) → fs ≡ functions_of order → i < length fs → StandsAt order (get_or fs i 0) i
at_place order fs i e h =
    let len = length-functions order in
    let same = ap length e in
    record { within = omega arith; is = ap (λ (xs : List ℕ). get_or xs i 0) (sym e) }

pub largest_along : (xs ys before now sizes : List ℕ) (n : ℕ) → xs ≡ ys → before ≡ now → IsLargestWith xs before sizes n → IsLargestWith ys now sizes n
largest_along xs ys before now sizes n e f w = subst (λ (b : List ℕ). IsLargestWith ys b sizes n) f (subst (λ (x : List ℕ). IsLargestWith x before sizes n) e w)
