-- Marks that grow, and the lists of those that are marked.
use Rattle.std.proofs.Common.{◌≡◌, ◌≢◌, ℕ, zero, suc, ◌+◌, ◌<◌, ◌⊎◌, inl, inr, ◌↔◌, List, [], ◌∷◌, ◌++◌, length, Bool, true, false, if◌then◌else◌, slice_set, refl, sym, ap, ◌∙◌, subst, arith, length-set}
use Rattle.std.proofs.lemmas.List.{get_or-set_same, get_or-set_other}
use Rattle.cerco_traces.specs.LabelledGraphs.{In}
use Rattle.liveness.specs.declared.points.Points.{Points}
use Rattle.liveness.specs.Code.Reach.{is_marked, unmarked}
use Rattle.liveness.proofs.Lists.{same_or_not, not_below_zero, in_first, in_last, in_cases}
use Rattle.liveness.proofs.Reaching.{true_false}
use Rattle.dropping.specs.declared.marks.Needed.{Needed}
use Rattle.dropping.specs.Code.Marks.{bit, HasGrown, ComesBefore, AreMarkedBefore}

-- ---- one mark

-- it was there
pub set_again : (m : List Bool) (j : ℕ) → is_marked m j ≡ true → slice_set m j true ≡ m
set_again [] j e = refl
set_again (b ∷ bs) zero e = ap (λ x. x ∷ bs) (sym e)
set_again (b ∷ bs) (suc j) e = ap (λ xs. b ∷ xs) (set_again bs j e)

one_less : (m : List Bool) (j : ℕ) → j < length m → is_marked m j ≡ false → unmarked (slice_set m j true) + 1 ≡ unmarked m
one_less [] j lt e = absurd (not_below_zero j lt)
one_less (b ∷ bs) zero lt e = rw e (omega arith)
one_less (b ∷ bs) (suc j) lt e =
    let h = one_less bs j (omega arith) e in
    let x : ℕ = if b then 0 else 1 in
    omega arith

pub marked_still : (m : List Bool) (j i : ℕ) → j < length m → is_marked m i ≡ true → is_marked (slice_set m j true) i ≡ true
marked_still m j i lt e = by_place (same_or_not i j)
  where
    by_place : (i ≡ j) ⊎ (i ≢ j) → is_marked (slice_set m j true) i ≡ true
    by_place (inl same) = ap (is_marked (slice_set m j true)) same ∙ get_or-set_same m j true false lt
    by_place (inr ne) = get_or-set_other m j i true false ne ∙ e

-- ---- growing

pub grown_same : (old new : Needed) → new.marks.items ≡ old.marks.items → new.changed ≡ old.changed → HasGrown old new
grown_same old new marks changed = record {
  long = ap length marks;
  kept = λ j e. ap (λ m. is_marked m j) marks ∙ e;
  same = λ e. (sym changed ∙ e, marks);
  less = let a = ap unmarked marks in let b = ap bit changed in omega (arith, a, b);
}

pub grown_new : (old new : Needed) (j : ℕ) → j < length old.marks.items → is_marked old.marks.items j ≡ false → new.marks.items ≡ slice_set old.marks.items j true → new.changed ≡ true → HasGrown old new
grown_new old new j lt unset marks changed = record {
  long = ap length marks ∙ length-set old.marks.items j true;
  kept = λ i e. ap (λ m. is_marked m i) marks ∙ marked_still old.marks.items j i lt e;
  same = λ e. absurd (true_false (sym e ∙ changed));
  less =
      let a : unmarked new.marks.items + 1 ≡ unmarked old.marks.items = ap (λ m. unmarked m + 1) marks ∙ one_less old.marks.items j lt unset in
      let b : bit new.changed ≡ 1 = ap bit changed in
      omega (arith, a, b);
}

pub grown_more : (a b c : Needed) → HasGrown a b → HasGrown b c → HasGrown a c
grown_more a b c h k = record {
  long = k.long ∙ h.long;
  kept = λ j e. k.kept j (h.kept j e);
  same = λ e. let s = k.same e in let r = h.same s.0 in (r.0, s.1 ∙ r.1);
  less = let x = h.less in let y = k.less in omega (arith, x, y);
}

-- ---- what comes before points

pub before_none : (points : Points) (walls : List Bool) (P : ℕ → Type 0) (m : List Bool) → ((j : ℕ) → ComesBefore points walls P j → ⊥) → AreMarkedBefore points walls P m m
before_none points walls P m none = record {
  kept = λ j e. e;
  added = λ j h. absurd (none j h);
  only = λ j e. inl e;
}

pub before_one : (points : Points) (walls m : List Bool) (i j : ℕ) → j < length m → suc j ≡ i → ComesBefore points walls (λ k. i ≡ k) j → AreMarkedBefore points walls (λ k. i ≡ k) m (slice_set m j true)
before_one points walls m i j lt next there = record {
  kept = λ k e. marked_still m j k lt e;
  added = λ k h. added k (ap_pred k h.0);
  only = λ k e. only k e (same_or_not k j);
}
  where
    ap_pred : (k : ℕ) → i ≡ suc k → k ≡ j
    ap_pred k e = omega (arith, e, next)

    added : (k : ℕ) → k ≡ j → is_marked (slice_set m j true) k ≡ true
    added k e = ap (is_marked (slice_set m j true)) e ∙ get_or-set_same m j true false lt

    only : (k : ℕ) → is_marked (slice_set m j true) k ≡ true → (k ≡ j) ⊎ (k ≢ j) → (is_marked m k ≡ true) ⊎ ComesBefore points walls (λ k. i ≡ k) k
    only k e (inl same) = inr (subst (ComesBefore points walls (λ k. i ≡ k)) (sym same) there)
    only k e (inr ne) = inl (sym (get_or-set_other m j k true false ne) ∙ e)

pub before_start : (points : Points) (walls m : List Bool) → AreMarkedBefore points walls (λ k. In k []) m m
before_start points walls m = before_none points walls (λ k. In k []) m (λ j h. h.0)

pub before_more :
    (points : Points) (walls : List Bool) (done : List ℕ) (x : ℕ) (a b c : List Bool)
    → AreMarkedBefore points walls (λ k. In k done) a b → AreMarkedBefore points walls (λ k. x ≡ k) b c → AreMarkedBefore points walls (λ k. In k (done ++ x ∷ [])) a c
before_more points walls done x a b c h k = record {
  kept = λ j e. k.kept j (h.kept j e);
  added = λ j there. added j there (in_cases (suc j) x done there.0);
  only = λ j e. only j (k.only j e);
}
  where
    added : (j : ℕ) → ComesBefore points walls (λ k. In k (done ++ x ∷ [])) j → In (suc j) done ⊎ (x ≡ suc j) → is_marked c j ≡ true
    added j there (inl i) = k.kept j (h.added j (i, there.1, there.2))
    added j there (inr e) = k.added j (e, there.1, there.2)

    earlier : (j : ℕ) → (is_marked a j ≡ true) ⊎ ComesBefore points walls (λ k. In k done) j → (is_marked a j ≡ true) ⊎ ComesBefore points walls (λ k. In k (done ++ x ∷ [])) j
    earlier j (inl e) = inl e
    earlier j (inr there) = inr (in_first (suc j) done (x ∷ []) there.0, there.1, there.2)

    only : (j : ℕ) → (is_marked b j ≡ true) ⊎ ComesBefore points walls (λ k. x ≡ k) j → (is_marked a j ≡ true) ⊎ ComesBefore points walls (λ k. In k (done ++ x ∷ [])) j
    only j (inl e) = earlier j (h.only j e)
    only j (inr there) = inr (subst (λ z. In z (done ++ x ∷ [])) there.0 (in_last x done), there.1, there.2)

-- ---- those of a list that are marked

abbrev pub AreKept : List Bool → List ℕ → List ℕ → Type 0
AreKept marks list kept = (i : ℕ) → In i kept ↔ (In i list × (is_marked marks i ≡ true))

pub kept_none : (marks : List Bool) → AreKept marks [] []
kept_none marks i = (λ h. absurd h, λ h. h.0)

pub kept_marked : (marks : List Bool) (list kept : List ℕ) (x : ℕ) → AreKept marks list kept → is_marked marks x ≡ true → AreKept marks (list ++ x ∷ []) (kept ++ x ∷ [])
kept_marked marks list kept x are e i = (λ h. to (in_cases i x kept h), λ h. from h.1 (in_cases i x list h.0))
  where
    to : In i kept ⊎ (x ≡ i) → In i (list ++ x ∷ []) × (is_marked marks i ≡ true)
    to (inl h) = let r = (are i).0 h in (in_first i list (x ∷ []) r.0, r.1)
    to (inr same) = (subst (λ z. In z (list ++ x ∷ [])) same (in_last x list), subst (λ z. is_marked marks z ≡ true) same e)

    from : is_marked marks i ≡ true → In i list ⊎ (x ≡ i) → In i (kept ++ x ∷ [])
    from m (inl h) = in_first i kept (x ∷ []) ((are i).1 (h, m))
    from m (inr same) = subst (λ z. In z (kept ++ x ∷ [])) same (in_last x kept)

pub kept_other : (marks : List Bool) (list kept : List ℕ) (x : ℕ) → AreKept marks list kept → is_marked marks x ≡ false → AreKept marks (list ++ x ∷ []) kept
kept_other marks list kept x are e i = (λ h. let r = (are i).0 h in (in_first i list (x ∷ []) r.0, r.1), λ h. from h.1 (in_cases i x list h.0))
  where
    from : is_marked marks i ≡ true → In i list ⊎ (x ≡ i) → In i kept
    from m (inl h) = (are i).1 (h, m)
    from m (inr same) = absurd (true_false (sym (subst (λ z. is_marked marks z ≡ false) same e) ∙ m))
