-- Where fewer numbers stand, no more of them count.
use Rattle.std.proofs.Common.{◌≡◌, ℕ, ◌+◌, ◌≤◌, List, [], ◌∷◌, Bool, true, false, ◌||◌, nat_eq, nat_lt, if◌then◌else◌, inl, inr, refl, sym, ap, ap₂, ◌∙◌, arith, eq-eqb, eqb-true}
use Rattle.cerco_traces.specs.LabelledGraphs.{In}
use Rattle.rtl.specs.Lengths.{stands_in, own_count}

-- one, or none where the test holds
abbrev none_if : Bool → ℕ
none_if b = if b then 0 else 1

-- all of these numbers but v
abbrev but : ℕ → List ℕ → List ℕ
but v [] = []
but v (w ∷ ws) = if nat_eq w v then but v ws else w ∷ but v ws

or_right : (a b : Bool) → b ≡ true → (a || b) ≡ true
or_right true b e = refl
or_right false b e = e

no_both : true ≡ false → ⊥
no_both e = cc

-- another number still stands there
stands_still : (w v : ℕ) (ws : List ℕ) → (w ≡ v → ⊥) → stands_in w (but v ws) ≡ stands_in w ws
stands_still w v [] other = refl
stands_still w v (x ∷ xs) other = by_test (nat_eq x v) refl (stands_still w v xs other)
  where
    by_test : (b : Bool) → nat_eq x v ≡ b → stands_in w (but v xs) ≡ stands_in w xs → stands_in w (if b then but v xs else x ∷ but v xs) ≡ (nat_eq x w || stands_in w xs)
    by_test true e later = later ∙ by_other (nat_eq x w) refl
      where
        by_other : (c : Bool) → nat_eq x w ≡ c → stands_in w xs ≡ (c || stands_in w xs)
        by_other true e' = absurd (other (sym (eqb-true x w e') ∙ eqb-true x v e))
        by_other false e' = refl
    by_test false e later = ap (λ b. nat_eq x w || b) later

differ : (x v : ℕ) → nat_eq x v ≡ false → x ≡ v → ⊥
differ x v e same = no_both (sym (eq-eqb x v same) ∙ e)

no_more : (v : ℕ) (ws : List ℕ) → own_count (but v ws) ≤ own_count ws
no_more v [] = omega arith
no_more v (x ∷ xs) = by_test (nat_eq x v) refl (no_more v xs)
  where
    by_test : (b : Bool) → nat_eq x v ≡ b → own_count (but v xs) ≤ own_count xs → own_count (if b then but v xs else x ∷ but v xs) ≤ own_count (x ∷ xs)
    by_test true e less = omega (arith, less)
    by_test false e less =
        let count : none_if (nat_lt x 24 || stands_in x (but v xs)) ≡ none_if (nat_lt x 24 || stands_in x xs) = ap (λ b. none_if (nat_lt x 24 || b)) (stands_still x v xs (differ x v e)) in
        omega (arith, less, count)

one_less : (v : ℕ) (ws : List ℕ) → nat_lt v 24 ≡ false → stands_in v ws ≡ true → own_count (but v ws) + 1 ≤ own_count ws
one_less v [] own stands = absurd (no_both (sym stands))
one_less v (x ∷ xs) own stands = by_test (nat_eq x v) refl stands (one_less v xs own)
  where
    by_test : (b : Bool) → nat_eq x v ≡ b → (b || stands_in v xs) ≡ true → (stands_in v xs ≡ true → own_count (but v xs) + 1 ≤ own_count xs) → own_count (if b then but v xs else x ∷ but v xs) + 1 ≤ own_count (x ∷ xs)
    by_test true e is later = by_later (stands_in v xs) refl
      where
        by_later : (c : Bool) → stands_in v xs ≡ c → own_count (but v xs) + 1 ≤ own_count (x ∷ xs)
        by_later true e' = let less = later e' in omega (arith, less)
        by_later false e' =
            let less = no_more v xs in
            let count : none_if (nat_lt x 24 || stands_in x xs) ≡ 1 = ap (λ w. none_if (nat_lt w 24 || stands_in w xs)) (eqb-true x v e) ∙ ap₂ (λ a b. none_if (a || b)) own e' in
            omega (arith, less, count)
    by_test false e is later =
        let less = later is in
        let count : none_if (nat_lt x 24 || stands_in x (but v xs)) ≡ none_if (nat_lt x 24 || stands_in x xs) = ap (λ b. none_if (nat_lt x 24 || b)) (stands_still x v xs (differ x v e)) in
        omega (arith, less, count)

all_stand : (vs ws : List ℕ) → ((v : ℕ) → stands_in v vs ≡ true → stands_in v ws ≡ true) → own_count vs ≤ own_count ws
all_stand [] ws all = omega arith
all_stand (v ∷ vs) ws all = by_test (nat_lt v 24) (stands_in v vs) refl refl (all_stand vs ws (λ w e. all w (or_right (nat_eq v w) (stands_in w vs) e))) (λ rest. all_stand vs (but v ws) rest)
  where
    stands : stands_in v ws ≡ true
    stands = all v (ap (λ b. b || stands_in v vs) (eq-eqb v v refl))

    by_test : (low twice : Bool) → nat_lt v 24 ≡ low → stands_in v vs ≡ twice → own_count vs ≤ own_count ws → (((w : ℕ) → stands_in w vs ≡ true → stands_in w (but v ws) ≡ true) → own_count vs ≤ own_count (but v ws)) → own_count (v ∷ vs) ≤ own_count ws
    by_test true twice e e' rest once = let z : none_if (nat_lt v 24 || stands_in v vs) ≡ 0 = ap (λ b. none_if (b || stands_in v vs)) e in omega (arith, z, rest)
    by_test false true e e' rest once = let z : none_if (nat_lt v 24 || stands_in v vs) ≡ 0 = ap₂ (λ a b. none_if (a || b)) e e' in omega (arith, z, rest)
    by_test false false e e' rest once =
        let z : none_if (nat_lt v 24 || stands_in v vs) ≡ 1 = ap₂ (λ a b. none_if (a || b)) e e' in
        let fewer = once (λ w is. stands_still w v ws (λ same. no_both (sym is ∙ ap (λ u. stands_in u vs) same ∙ e')) ∙ all w (or_right (nat_eq v w) (stands_in w vs) is)) in
        let less = one_less v ws e stands in
        omega (arith, z, fewer, less)

-- standing in a list, and being in it
is_in : (v : ℕ) (ws : List ℕ) → stands_in v ws ≡ true → In v ws
is_in v [] e = absurd (no_both (sym e))
is_in v (w ∷ ws) e = by_test (nat_eq w v) refl e (is_in v ws)
  where
    by_test : (b : Bool) → nat_eq w v ≡ b → (b || stands_in v ws) ≡ true → (stands_in v ws ≡ true → In v ws) → In v (w ∷ ws)
    by_test true e' is later = inl (eqb-true w v e')
    by_test false e' is later = inr (later is)

stands_there : (v : ℕ) (ws : List ℕ) → In v ws → stands_in v ws ≡ true
stands_there v [] i = absurd i
stands_there v (w ∷ ws) (inl e) = ap (λ b. b || stands_in v ws) (eq-eqb w v e)
stands_there v (w ∷ ws) (inr i) = or_right (nat_eq w v) (stands_in v ws) (stands_there v ws i)

pub count_less : (vs ws : List ℕ) → ((v : ℕ) → In v vs → In v ws) → own_count vs ≤ own_count ws
count_less vs ws all = all_stand vs ws (λ v e. stands_there v ws (all v (is_in v vs e)))
