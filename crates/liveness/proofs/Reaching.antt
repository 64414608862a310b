-- Marking what can be reached.
use Rattle.std.proofs.Common.{◌≡◌, ◌≢◌, ℕ, zero, suc, ◌+◌, ◌<◌, ◌≤◌, List, [], ◌∷◌, ◌++◌, length, Bool, true, false, if◌then◌else◌, slice_set, ◌⊎◌, inl, inr, refl, sym, ap, ◌∙◌, subst, arith, length-append, length-set, replicate, get_or}
use Rattle.std.proofs.lemmas.List.{get_or_append_left, get_or-set_same, get_or-set_other, length-replicate}
use Rattle.cerco_traces.specs.LabelledGraphs.{In}
use Rattle.liveness.specs.Code.Rows.{AllBelow}
use Rattle.liveness.specs.Code.Reach.{is_marked, Reached, seed, onward, AreClear, AreSet, AreListed, unmarked, AreMarked}
use Rattle.liveness.proofs.Lists.{same_or_not, not_below_zero, below_suc, in_first, in_second, in_either, in_last, in_one, in_cases, in_or_not, in_at, place_in, distinct_last}

pub true_false : false ≡ true → ⊥
true_false e = cc

append_nothing : (xs : List ℕ) → xs ++ [] ≡ xs
append_nothing [] = refl
append_nothing (x ∷ xs) = ap (λ ys. x ∷ ys) (append_nothing xs)

append_twice : (xs ys zs : List ℕ) → (xs ++ ys) ++ zs ≡ xs ++ (ys ++ zs)
append_twice [] ys zs = refl
append_twice (x ∷ xs) ys zs = ap (λ ys. x ∷ ys) (append_twice xs ys zs)

-- ---- setting marks

pub set_none : (m : List Bool) (value : Bool) → AreSet m [] value m
set_none m value = record {
  long = refl;
  inside = λ i h. absurd h;
  outside = λ i out. refl;
}

pub set_next : (m m1 : List Bool) (done : List ℕ) (value : Bool) (x : ℕ) → x < length m → AreSet m done value m1 → AreSet m (done ++ x ∷ []) value (slice_set m1 x value)
set_next m m1 done value x lt s = record {
  long = length-set m1 x value ∙ s.long;
  inside = λ i h. inside i (same_or_not i x) h;
  outside = λ i out. get_or-set_other m1 x i value false (λ e. out (subst (λ z. In z (done ++ x ∷ [])) (sym e) (in_last x done))) ∙ s.outside i (λ h. out (in_first i done (x ∷ []) h));
}
  where
    lt1 : x < length m1
    lt1 = let e = s.long in omega (arith, lt, e)

    before : (i : ℕ) → i ≢ x → In i done ⊎ (x ≡ i) → is_marked m1 i ≡ value
    before i ne (inl h) = s.inside i h
    before i ne (inr e) = absurd (ne (sym e))

    inside : (i : ℕ) → (i ≡ x) ⊎ (i ≢ x) → In i (done ++ x ∷ []) → is_marked (slice_set m1 x value) i ≡ value
    inside i (inl e) h = ap (is_marked (slice_set m1 x value)) e ∙ get_or-set_same m1 x value false lt1
    inside i (inr ne) h = get_or-set_other m1 x i value false ne ∙ before i ne (in_cases i x done h)

-- what was marked is cleared
pub clear_again : (m m' : List Bool) (list : List ℕ) (n : ℕ) → length m ≡ n → ((i : ℕ) → is_marked m i ≡ true → In i list) → AreSet m list false m' → AreClear m' n
clear_again m m' list n long listed s = record {
  long = s.long ∙ long;
  none = λ i. by_place i (in_or_not i list);
}
  where
    unset : (b : Bool) → (b ≡ true → ⊥) → b ≡ false
    unset true out = absurd (out refl)
    unset false out = refl

    by_place : (i : ℕ) → In i list ⊎ (In i list → ⊥) → is_marked m' i ≡ false
    by_place i (inl h) = s.inside i h
    by_place i (inr out) = s.outside i out ∙ unset (is_marked m i) (λ e. out (listed i e))

-- exactly these are marked after they have been set
pub set_from_clear : (m m' : List Bool) (list : List ℕ) (n : ℕ) → AreClear m n → AreSet m list true m' → (i : ℕ) → is_marked m' i ≡ true → In i list
set_from_clear m m' list n clear s i e = by_place (in_or_not i list)
  where
    by_place : In i list ⊎ (In i list → ⊥) → In i list
    by_place (inl h) = h
    by_place (inr out) = absurd (true_false (sym (s.outside i out ∙ clear.none i) ∙ e))

pub none_marked : (n i : ℕ) → is_marked (replicate n false) i ≡ false
none_marked zero i = refl
none_marked (suc n) zero = refl
none_marked (suc n) (suc i) = none_marked n i

pub marked_below : (m : List Bool) (i : ℕ) → is_marked m i ≡ true → i < length m
marked_below [] i h = absurd (true_false h)
marked_below (b ∷ bs) zero h = omega arith
marked_below (b ∷ bs) (suc i) h = let l = marked_below bs i h in omega arith

-- ---- marking a row

marked_less : (m : List Bool) (j : ℕ) → j < length m → is_marked m j ≡ false → unmarked (slice_set m j true) + 1 ≡ unmarked m
marked_less [] j lt e = absurd (not_below_zero j lt)
marked_less (b ∷ bs) zero lt e = rw e (omega arith)
marked_less (b ∷ bs) (suc j) lt e =
    let h = marked_less bs j (omega arith) e in
    let x : ℕ = if b then 0 else 1 in
    omega arith

-- one more mark
pub mark_new : (walls m : List Bool) (list : List ℕ) (j : ℕ) → j < length m → AreListed m list → is_marked walls j ≡ false → is_marked m j ≡ false → AreMarked walls m list (j ∷ []) (slice_set m j true) (list ++ j ∷ [])
mark_new walls m list j lt l unwalled e = record {
  long = length-set m j true;
  exact = record {
    listed = λ i h. listed i h (same_or_not i j);
    marked = λ i h. marked i (in_cases i j list h) (same_or_not i j);
    distinct = distinct_last list j l.distinct (λ h. true_false (sym e ∙ l.marked j h));
  };
  added = j ∷ [];
  more = refl;
  only = λ i h. (h, subst (λ z. is_marked walls z ≡ false) (in_one i j h) unwalled);
  done = λ i h o. in_second i list (j ∷ []) h;
  less = let a = marked_less m j lt e in let b = length-append list (j ∷ []) in omega arith;
}
  where
    listed : (i : ℕ) → is_marked (slice_set m j true) i ≡ true → (i ≡ j) ⊎ (i ≢ j) → In i (list ++ j ∷ [])
    listed i h (inl e') = subst (λ z. In z (list ++ j ∷ [])) (sym e') (in_last j list)
    listed i h (inr ne) = in_first i list (j ∷ []) (l.listed i (sym (get_or-set_other m j i true false ne) ∙ h))

    old : (i : ℕ) → In i list ⊎ (j ≡ i) → i ≢ j → is_marked m i ≡ true
    old i (inl h) ne = l.marked i h
    old i (inr e') ne = absurd (ne (sym e'))

    marked : (i : ℕ) → In i list ⊎ (j ≡ i) → (i ≡ j) ⊎ (i ≢ j) → is_marked (slice_set m j true) i ≡ true
    marked i h (inl e') = ap (is_marked (slice_set m j true)) e' ∙ get_or-set_same m j true false lt
    marked i h (inr ne) = get_or-set_other m j i true false ne ∙ old i h ne

-- a number that is a wall, or marked
pub mark_old : (walls m : List Bool) (list : List ℕ) (j : ℕ) → AreListed m list → (is_marked walls j ≡ true) ⊎ (is_marked m j ≡ true) → AreMarked walls m list (j ∷ []) m list
mark_old walls m list j l which = record {
  long = refl;
  exact = l;
  added = [];
  more = sym (append_nothing list);
  only = λ i h. absurd h;
  done = λ i h o. subst (λ z. In z list) (in_one i j h) (there (subst (λ z. is_marked walls z ≡ false) (sym (in_one i j h)) o) which);
  less = omega arith;
}
  where
    there : is_marked walls j ≡ false → (is_marked walls j ≡ true) ⊎ (is_marked m j ≡ true) → In j list
    there o (inl w) = absurd (true_false (sym o ∙ w))
    there o (inr h) = l.listed j h

pub mark_none : (walls m : List Bool) (list : List ℕ) → AreListed m list → AreMarked walls m list [] m list
mark_none walls m list l = record {
  long = refl;
  exact = l;
  added = [];
  more = sym (append_nothing list);
  only = λ i h. absurd h;
  done = λ i h o. absurd h;
  less = omega arith;
}

pub mark_more : (walls m : List Bool) (l row : List ℕ) (m1 : List Bool) (l1 : List ℕ) (j : ℕ) (m2 : List Bool) (l2 : List ℕ) → AreMarked walls m l row m1 l1 → AreMarked walls m1 l1 (j ∷ []) m2 l2 → AreMarked walls m l (row ++ j ∷ []) m2 l2
mark_more walls m l row m1 l1 j m2 l2 a b = record {
  long = b.long ∙ a.long;
  exact = b.exact;
  added = a.added ++ b.added;
  more = b.more ∙ ap (λ z. z ++ b.added) a.more ∙ append_twice l a.added b.added;
  only = λ i h. only i (in_either i a.added b.added h);
  done = λ i h o. done i o (in_cases i j row h);
  less = let x = a.less in let y = b.less in omega arith;
}
  where
    only : (i : ℕ) → In i a.added ⊎ In i b.added → In i (row ++ j ∷ []) × (is_marked walls i ≡ false)
    only i (inl h) = (in_first i row (j ∷ []) (a.only i h).0, (a.only i h).1)
    only i (inr h) = (in_second i row (j ∷ []) (b.only i h).0, (b.only i h).1)

    done : (i : ℕ) → is_marked walls i ≡ false → In i row ⊎ (j ≡ i) → In i l2
    done i o (inl h) = subst (In i) (sym b.more) (in_first i l1 b.added (a.done i h o))
    done i o (inr e) = b.done i (inl e) o

-- ---- the search

-- what has been reached when the first ones of the list have been gone on from
pub record Spreads (seeds : List ℕ) (ways : ℕ → List ℕ) (walls : List Bool) (n : ℕ) (marks : List Bool) (list : List ℕ) (next : ℕ) : Type 0 where
  pub long : length marks ≡ n
  pub exact : AreListed marks list
  pub sound : (i : ℕ) → In i list → Reached seeds ways walls i
  pub begun : (i : ℕ) → In i seeds → In i list
  pub closed : (k j : ℕ) → k < next → In j (ways (get_or list k 0)) → is_marked walls j ≡ false → In j list
  pub within : next ≤ length list

pub spread_first : (seeds : List ℕ) (ways : ℕ → List ℕ) (walls : List Bool) (n : ℕ) (m m' : List Bool) (list : List ℕ) → AreClear m n → AreMarked [] m [] seeds m' list → Spreads seeds ways walls n m' list 0
spread_first seeds ways walls n m m' list clear k = record {
  long = k.long ∙ clear.long;
  exact = k.exact;
  sound = λ i h. seed i (k.only i (subst (In i) k.more h)).0;
  begun = λ i h. k.done i h refl;
  closed = λ q j lt. absurd (not_below_zero q lt);
  within = omega arith;
}

pub no_marks : (m : List Bool) (n : ℕ) → AreClear m n → AreListed m []
no_marks m n clear = record {
  listed = λ i h. absurd (true_false (sym (clear.none i) ∙ h));
  marked = λ i h. absurd h;
  distinct = tt;
}

-- one number more has been gone on from
pub spread_next : (seeds : List ℕ) (ways : ℕ → List ℕ) (walls : List Bool) (n : ℕ) (m : List Bool) (list : List ℕ) (next i : ℕ) (m' : List Bool) (list' : List ℕ) → Spreads seeds ways walls n m list next → next < length list → get_or list next 0 ≡ i → AreMarked walls m list (ways i) m' list' → Spreads seeds ways walls n m' list' (next + 1)
spread_next seeds ways walls n m list next i m' list' s lt is k = record {
  long = k.long ∙ s.long;
  exact = k.exact;
  sound = λ q h. sound q (in_either q list k.added (subst (In q) k.more h));
  begun = λ q h. kept q (s.begun q h);
  closed = λ q j below l o. closed q j l o (below_suc q next below);
  within = let e = ap length k.more ∙ length-append list k.added in omega (arith, e, lt);
}
  where
    kept : (q : ℕ) → In q list → In q list'
    kept q h = subst (In q) (sym k.more) (in_first q list k.added h)

    taken : In i list
    taken = subst (λ z. In z list) is (in_at list next 0 lt)

    sound : (q : ℕ) → In q list ⊎ In q k.added → Reached seeds ways walls q
    sound q (inl h) = s.sound q h
    sound q (inr h) = onward i q (s.sound i taken) (k.only q h).0 (k.only q h).1

    same : (q : ℕ) → q < length list → get_or list' q 0 ≡ get_or list q 0
    same q below = ap (λ z. get_or z q 0) k.more ∙ get_or_append_left list k.added 0 q below

    closed : (q j : ℕ) → In j (ways (get_or list' q 0)) → is_marked walls j ≡ false → (q < next) ⊎ (next ≡ q) → In j list'
    closed q j l o (inl below) = kept j (s.closed q j below (subst (λ z. In j (ways z)) (same q (omega (arith, below, lt))) l) o)
    closed q j l o (inr e) =
        let here : get_or list' q 0 ≡ i = ap (λ z. get_or list' z 0) (sym e) ∙ same next lt ∙ is in
        k.done j (subst (λ z. In j (ways z)) here l) o

pub whole : {seeds : List ℕ} {ways : ℕ → List ℕ} {walls : List Bool} {i : ℕ} (n : ℕ) (m : List Bool) (list : List ℕ) (next : ℕ) → Spreads seeds ways walls n m list next → length list ≤ next → Reached seeds ways walls i → In i list
whole n m list next s all (seed i h) = s.begun i h
whole {ways = ways} n m list next s all (onward i j r h o) =
    let p = place_in list i (whole n m list next s all r) in
    let lt = p.1 in
    s.closed p.0 j (omega (arith, lt, all)) (subst (λ z. In j (ways z)) (sym p.2) h) o

pub all_below : (m : List Bool) (list : List ℕ) (n : ℕ) → length m ≡ n → AreListed m list → AllBelow list n
all_below m list n long l i h = let lt = marked_below m i (l.marked i h) in omega (arith, lt, long)

pub clear_new : (m : List Bool) (n : ℕ) → m ≡ replicate n false → AreClear m n
clear_new m n e = record {
  long = ap length e ∙ length-replicate n false;
  none = λ i. ap (λ z. is_marked z i) e ∙ none_marked n i;
}
