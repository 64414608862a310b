-- How many elements of a list pass a test, and where the first one stands.
use Rattle.std.proofs.Common.{◌≡◌, ℕ, zero, suc, ◌+◌, ◌≤◌, ◌&&◌, List, [], ◌∷◌, Bool, true, false, cond, refl, ap, ◌∙◌, subst, arith, slice_get, Some, count_by}
use Rattle.std.specs.List.{position_from, AllByRecursion, enumerate_from}
use Rattle.std.proofs.lemmas.List.Sums.{sum_by-cons}

pub both_true : (a b : Bool) → (a && b) ≡ true → (a ≡ true) × (b ≡ true)
both_true true b e = (refl, e)
both_true false b e = cc

pub count_more : {X : Type 0} (test : X → Bool) (x : X) (xs : List X) → count_by test (x ∷ xs) ≡ cond (test x) 1 0 + count_by test xs
count_more test x xs = sum_by-cons (λ x. cond (test x) 1 0) x xs

as_number : {b c : Bool} → b ≡ c → ◌≡◌ {A = ℕ} (cond b 1 0) (cond c 1 0)
as_number e = ap {B = ℕ} (λ b. cond b 1 0) e

-- an element that passes is counted
pub counted : {X : Type 0} (test : X → Bool) (xs : List X) (k : ℕ) (x : X) → slice_get xs k ≡ Some x → test x ≡ true → 1 ≤ count_by test xs
counted test [] k x g e = cc
counted test (y ∷ xs) zero x g e =
    let q : y ≡ x = cc in
    omega (arith, count_more test y xs, as_number (ap test q ∙ e))
counted test (y ∷ xs) (suc k) x g e = omega (arith, count_more test y xs, counted test xs k x g e)

-- the first element that passes
pub record IsFirst {X : Type 0} (test : X → Bool) (i : ℕ) (xs : List X) : Type 0 where
  pub at : ℕ
  pub element : X
  pub found : position_from test i xs ≡ Some (i + at)
  pub is : slice_get xs at ≡ Some element
  pub passes : test element ≡ true

pub first_found : {X : Type 0} (test : X → Bool) (i : ℕ) (xs : List X) → 1 ≤ count_by test xs → IsFirst test i xs
first_found test i [] h = absurd (omega arith)
first_found {X} test i (x ∷ xs) h = by (test x) refl (λ more. first_found test (i + 1) xs more)
  where
    by : (b : Bool) → test x ≡ b → (1 ≤ count_by test xs → IsFirst test (i + 1) xs) → IsFirst test i (x ∷ xs)
    by true e rest =
        let z : i ≡ i + 0 = omega arith in
        record { at = 0; element = x; found = ap (λ b. cond b (Some i) (position_from test (i + 1) xs)) e ∙ ap (λ n. Some n) z; is = refl; passes = e }
    by false e rest =
        let more : 1 ≤ count_by test xs = omega (arith, h, count_more test x xs, as_number e) in
        let r = rest more in
        let s : i + 1 + r.at ≡ i + suc r.at = omega arith in
        record {
          at = suc r.at;
          element = r.element;
          found = ap (λ b. cond b (Some i) (position_from test (i + 1) xs)) e ∙ r.found ∙ ap (λ n. Some n) s;
          is = r.is;
          passes = r.passes;
        }

-- where one element passes, each that passes is the first
pub only_one : {X : Type 0} (test : X → Bool) (i : ℕ) (xs : List X) (k : ℕ) (x : X) → count_by test xs ≡ 1 → slice_get xs k ≡ Some x → test x ≡ true → position_from test i xs ≡ Some (i + k)
only_one test i [] k x c g e = absurd (omega arith)
only_one test i (y ∷ xs) zero x c g e =
    let q : y ≡ x = cc in
    let z : i ≡ i + 0 = omega arith in
    ap (λ b. cond b (Some i) (position_from test (i + 1) xs)) (ap test q ∙ e) ∙ ap (λ n. Some n) z
only_one test i (y ∷ xs) (suc k) x c g e = by (test y) refl (only_one test (i + 1) xs k x)
  where
    by : (b : Bool) → test y ≡ b → (count_by test xs ≡ 1 → slice_get xs k ≡ Some x → test x ≡ true → position_from test (i + 1) xs ≡ Some (i + 1 + k)) → position_from test i (y ∷ xs) ≡ Some (i + suc k)
    by true f rest = absurd (omega (arith, c, count_more test y xs, as_number f, counted test xs k x g e))
    by false f rest =
        let d : count_by test xs ≡ 1 = omega (arith, c, count_more test y xs, as_number f) in
        let s : i + 1 + k ≡ i + suc k = omega arith in
        ap (λ b. cond b (Some i) (position_from test (i + 1) xs)) f ∙ rest d g e ∙ ap (λ n. Some n) s

-- what holds of each element holds of that at an index
pub of_each : {X : Type 0} (P : X → Type 0) (xs : List X) (k : ℕ) (x : X) → AllByRecursion P xs → slice_get xs k ≡ Some x → P x
of_each P [] k x h g = absurd cc
of_each P (y ∷ xs) zero x h g =
    let q : y ≡ x = cc in
    subst P q h.0
of_each P (y ∷ xs) (suc k) x h g = of_each P xs k x h.1 g

-- what holds of the number of each element and the element
pub of_each_numbered : {X : Type 0} (P : ℕ → X → Type 0) (i : ℕ) (xs : List X) (k : ℕ) (x : X) → AllByRecursion (λ p. P p.0 p.1) (enumerate_from i xs) → slice_get xs k ≡ Some x → P (i + k) x
of_each_numbered P i [] k x h g = absurd cc
of_each_numbered P i (y ∷ xs) zero x h g =
    let q : y ≡ x = cc in
    let z : i ≡ i + 0 = omega arith in
    subst (λ n. P n x) z (subst (P i) q h.0)
of_each_numbered P i (y ∷ xs) (suc k) x h g =
    let s : i + 1 + k ≡ i + suc k = omega arith in
    subst (λ n. P n x) s (of_each_numbered P (i + 1) xs k x h.1 g)
