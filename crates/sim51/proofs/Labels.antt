-- Which label stands at an address.
use Rattle.std.proofs.Common.{◌≡◌, ◌≢◌, ℕ, suc, ◌+◌, ◌<◌, ◌≤◌, List, [], ◌∷◌, ◌++◌, Some, None, Bool, true, false, cond, refl, sym, ap, ◌∙◌, arith, get_or, take, drop, length, nat_eq, length-take}
use Rattle.std.specs.Prelude.{◌==◌, option_map}
use Rattle.std.specs.List.{IsDistinct, position_from}
use Rattle.std.proofs.Math.Seq.{drop-cons}
use Rattle.std.proofs.lemmas.List.{get_or-take, take-append-drop}
use Rattle.std.proofs.lemmas.Iterator.Adapters.{position_from-zero}
use Rattle.std.proofs.lemmas.Map.Keys.{apart_from_distinct, IsDistinct-from_apart}
use Rattle.std.proofs.lemmas.Bool.{eq-eqb, ne_eqb}
use Rattle.sim51.specs.Step.{label_at}

position_from-push : (p : ℕ → Bool) (k : ℕ) (xs : List ℕ) (y : ℕ) → p y ≡ false → position_from p k (xs ++ y ∷ []) ≡ position_from p k xs
position_from-push p k [] y other = ap (λ b. cond b (Some k) None) other
position_from-push p k (x ∷ xs) y other = ap (λ r. cond (p x) (Some k) r) (position_from-push p (k + 1) xs y other)

position_from-first : (p : ℕ → Bool) (k : ℕ) (xs : List ℕ) (y : ℕ) (ys : List ℕ) → ((j : ℕ) → j < length xs → p (get_or xs j 0) ≡ false) → p y ≡ true → position_from p k (xs ++ y ∷ ys) ≡ Some (k + length xs)
position_from-first p k [] y ys before here = ap (λ b. cond b (Some k) (position_from p (k + 1) ys)) here ∙ ap Some (omega arith)
position_from-first p k (x ∷ xs) y ys before here =
    ap (λ b. cond b (Some k) (position_from p (k + 1) (xs ++ y ∷ ys))) (before 0 (omega arith))
    ∙ position_from-first p (k + 1) xs y ys (λ j lt. before (suc j) (omega arith)) here
    ∙ ap Some (omega arith)

position_from-none : (p : ℕ → Bool) (k : ℕ) (xs : List ℕ) → ((j : ℕ) → j < length xs → p (get_or xs j 0) ≡ false) → position_from p k xs ≡ None
position_from-none p k [] others = refl
position_from-none p k (x ∷ xs) others =
    ap (λ b. cond b (Some k) (position_from p (k + 1) xs)) (others 0 (omega arith)) ∙ position_from-none p (k + 1) xs (λ j lt. others (suc j) (omega arith))

label_at-position_from : (labels : List ℕ) (a : ℕ) → label_at labels a ≡ option_map (λ k. record { 0 = k }) (position_from (λ x. x == a) 0 labels)
label_at-position_from labels a = ap (λ o. option_map (λ k. record { 0 = k }) o) (position_from-zero (λ x. x == a) labels)

-- one more label, at another address
pub label_at-push : (labels : List ℕ) (y a : ℕ) → y ≢ a → label_at (labels ++ y ∷ []) a ≡ label_at labels a
label_at-push labels y a other =
    label_at-position_from (labels ++ y ∷ []) a
    ∙ ap (λ o. option_map (λ k. record { 0 = k }) o) (position_from-push (λ x. x == a) 0 labels y (ne_eqb y a other))
    ∙ sym (label_at-position_from labels a)

-- the first of the labels with an address stands there
pub label_at-first : (front : List ℕ) (a : ℕ) (behind : List ℕ) → ((j : ℕ) → j < length front → get_or front j 0 == a ≡ false) → label_at (front ++ a ∷ behind) a ≡ Some (record { 0 = length front })
label_at-first front a behind before =
    label_at-position_from (front ++ a ∷ behind) a
    ∙ ap (λ o. option_map (λ k. record { 0 = k }) o) (position_from-first (λ x. x == a) 0 front a behind before (eq-eqb a a refl) ∙ ap Some (omega arith))

-- no label stands where none of them has the address
pub label_at-None : (labels : List ℕ) (a : ℕ) → ((k : ℕ) → k < length labels → get_or labels k 0 ≢ a) → label_at labels a ≡ None
label_at-None labels a others =
    label_at-position_from labels a
    ∙ ap (λ o. option_map (λ k. record { 0 = k }) o) (position_from-none (λ x. x == a) 0 labels (λ k lt. ne_eqb (get_or labels k 0) a (others k lt)))

-- of distinct labels each stands at its address
pub label_at-Some : (labels : List ℕ) (k a : ℕ) → IsDistinct nat_eq labels → k < length labels → get_or labels k 0 ≡ a → label_at labels a ≡ Some (record { 0 = k })
label_at-Some labels k a distinct within here =
    let count_of_front : length (take k labels) ≡ k = length-take k labels ∙ omega arith in
    let parts : labels ≡ take k labels ++ a ∷ drop (suc k) labels = sym (take-append-drop k labels) ∙ ap (λ l. take k labels ++ l) (drop-cons labels k 0 within ∙ ap (λ x. x ∷ drop (suc k) labels) here) in
    let apart : (j : ℕ) → j < length (take k labels) → get_or (take k labels) j 0 == a ≡ false =
    λ j lt. let lower : j < k = omega arith in
    ap (λ x. x == a) (get_or-take k labels j 0 lower) ∙ ap (λ x. get_or labels j 0 == x) (sym here) ∙ apart_from_distinct nat_eq labels j k 0 distinct lower within in
    ap (λ l. label_at l a) parts ∙ label_at-first (take k labels) a (drop (suc k) labels) apart ∙ ap (λ n. Some (record { 0 = n })) count_of_front

-- one label is distinct from the others, and so is none
pub distinct_short : (labels : List ℕ) → length labels ≤ 1 → IsDistinct nat_eq labels
distinct_short labels short = IsDistinct-from_apart nat_eq labels (λ i j d before within. absurd (omega arith))
