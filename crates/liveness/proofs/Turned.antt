-- Rows to which numbers are added one by one, and relations turned around.
use Rattle.std.proofs.Common.{◌≡◌, ◌≢◌, ℕ, zero, suc, ◌+◌, ◌<◌, List, [], ◌∷◌, ◌++◌, length, Some, slice_get, slice_set, ◌⊎◌, inl, inr, ◌↔◌, refl, sym, ap, ◌∙◌, subst, arith}
use Rattle.cerco_traces.specs.LabelledGraphs.{In}
use Rattle.rtl.specs.Liveness.{AreRising}
use Rattle.liveness.specs.declared.ways.Ways.{Ways}
use Rattle.liveness.specs.Code.Rows.{ways_in, ways_of, IsAddedAt, AddedTo, AddedOnce, AreTurned}
use Rattle.liveness.proofs.Lists.{same_or_not, below_suc, not_below_zero, in_first, in_last, in_cases, rising_last}

-- ---- one more number in a row

slice_get-set_same : (rows : List Ways) (v : ℕ) (r : Ways) → v < length rows → slice_get (slice_set rows v r) v ≡ Some r
slice_get-set_same [] v r lt = absurd (not_below_zero v lt)
slice_get-set_same (x ∷ xs) zero r lt = refl
slice_get-set_same (x ∷ xs) (suc v) r lt = slice_get-set_same xs v r (omega arith)

slice_get-set_other : (rows : List Ways) (v x : ℕ) (r : Ways) → x ≢ v → slice_get (slice_set rows v r) x ≡ slice_get rows x
slice_get-set_other [] v x r ne = refl
slice_get-set_other (y ∷ ys) zero zero r ne = absurd (ne refl)
slice_get-set_other (y ∷ ys) zero (suc x) r ne = refl
slice_get-set_other (y ∷ ys) (suc v) zero r ne = refl
slice_get-set_other (y ∷ ys) (suc v) (suc x) r ne = slice_get-set_other ys v x r (λ e. ne (ap suc e))

pub way_added : (rows : List Ways) (v w : ℕ) (old new : Ways) → v < length rows → slice_get rows v ≡ Some old → new.to.items ≡ old.to.items ++ w ∷ [] → IsAddedAt (ways_of rows) v w (ways_of (slice_set rows v new))
way_added rows v w old new lt is pushed = record {
  here = ap ways_in (slice_get-set_same rows v new lt) ∙ pushed ∙ ap (λ z. ways_in z ++ w ∷ []) (sym is);
  elsewhere = λ x ne. ap ways_in (slice_get-set_other rows v x new ne);
}

-- one more row, which is empty
pub empty_more : (rows : List Ways) (new : Ways) → new.to.items ≡ [] → (x : ℕ) → ways_of (rows ++ new ∷ []) x ≡ ways_of rows x
empty_more [] new e zero = e
empty_more [] new e (suc x) = refl
empty_more (r ∷ rs) new e zero = refl
empty_more (r ∷ rs) new e (suc x) = empty_more rs new e x

-- ---- numbers added to rows

pub added_at : (rows rows' : ℕ → List ℕ) (x i : ℕ) → IsAddedAt rows x i rows' → AddedTo rows (λ y. x ≡ y) i rows'
added_at rows rows' x i a = record {
  only = λ y z h. only y z h (same_or_not y x);
  kept = λ y z h. kept y z h (same_or_not y x);
  added = λ y e. subst (λ y. In i (rows' y)) e (subst (In i) (sym a.here) (in_last i (rows x)));
  untouched = λ y out. a.elsewhere y (λ e. out (sym e));
}
  where
    here : (z : ℕ) → In z (rows x) ⊎ (i ≡ z) → In z (rows x) ⊎ ((x ≡ x) × (i ≡ z))
    here z (inl h) = inl h
    here z (inr e) = inr (refl, e)

    only : (y z : ℕ) → In z (rows' y) → (y ≡ x) ⊎ (y ≢ x) → In z (rows y) ⊎ ((x ≡ y) × (i ≡ z))
    only y z h (inl e) = subst (λ y. In z (rows y) ⊎ ((x ≡ y) × (i ≡ z))) (sym e) (here z (in_cases z i (rows x) (subst (In z) (ap rows' e ∙ a.here) h)))
    only y z h (inr ne) = inl (subst (In z) (a.elsewhere y ne) h)

    kept : (y z : ℕ) → In z (rows y) → (y ≡ x) ⊎ (y ≢ x) → In z (rows' y)
    kept y z h (inl e) = subst (In z) (sym (ap rows' e ∙ a.here)) (in_first z (rows x) (i ∷ []) (subst (λ y. In z (rows y)) e h))
    kept y z h (inr ne) = subst (In z) (sym (a.elsewhere y ne)) h

module _ {X : Type 0} where
  pub added_none : (rows : X → List ℕ) (i : ℕ) → AddedTo rows (λ x. ⊥) i rows
  added_none rows i = record {
    only = λ x y h. inl h;
    kept = λ x y h. h;
    added = λ x p. absurd p;
    untouched = λ x out. refl;
  }

  pub added_more : (rows rows' rows'' : X → List ℕ) (P Q : X → Type 0) (i : ℕ) → AddedTo rows P i rows' → AddedTo rows' Q i rows'' → AddedTo rows (λ x. P x ⊎ Q x) i rows''
  added_more rows rows' rows'' P Q i a b = record {
    only = λ x y h. only x y (b.only x y h);
    kept = λ x y h. b.kept x y (a.kept x y h);
    added = λ x pq. added x pq;
    untouched = λ x out. b.untouched x (λ q. out (inr q)) ∙ a.untouched x (λ p. out (inl p));
  }
    where
      before : (x : X) (y : ℕ) → In y (rows x) ⊎ (P x × (i ≡ y)) → In y (rows x) ⊎ ((P x ⊎ Q x) × (i ≡ y))
      before x y (inl h) = inl h
      before x y (inr h) = inr (inl h.0, h.1)

      only : (x : X) (y : ℕ) → In y (rows' x) ⊎ (Q x × (i ≡ y)) → In y (rows x) ⊎ ((P x ⊎ Q x) × (i ≡ y))
      only x y (inl h) = before x y (a.only x y h)
      only x y (inr h) = inr (inr h.0, h.1)

      added : (x : X) → P x ⊎ Q x → In i (rows'' x)
      added x (inl p) = b.kept x i (a.added x p)
      added x (inr q) = b.added x q

  pub added_as : (rows rows' : X → List ℕ) (P Q : X → Type 0) (i : ℕ) → ((x : X) → P x → Q x) → ((x : X) → Q x → P x) → AddedTo rows P i rows' → AddedTo rows Q i rows'
  added_as rows rows' P Q i to from a = record {
    only = λ x y h. only x y (a.only x y h);
    kept = a.kept;
    added = λ x q. a.added x (from x q);
    untouched = λ x out. a.untouched x (λ p. out (to x p));
  }
    where
      only : (x : X) (y : ℕ) → In y (rows x) ⊎ (P x × (i ≡ y)) → In y (rows x) ⊎ (Q x × (i ≡ y))
      only x y (inl h) = inl h
      only x y (inr h) = inr (to x h.0, h.1)

  -- the same rows by another name
  pub added_same : (rows rows' rows'' : X → List ℕ) (P : X → Type 0) (i : ℕ) → ((x : X) → rows' x ≡ rows x) → AddedTo rows' P i rows'' → AddedTo rows P i rows''
  added_same rows rows' rows'' P i same a = record {
    only = λ x y h. subst (λ z. In y z ⊎ (P x × (i ≡ y))) (same x) (a.only x y h);
    kept = λ x y h. a.kept x y (subst (In y) (sym (same x)) h);
    added = a.added;
    untouched = λ x out. a.untouched x out ∙ same x;
  }

  -- ---- relations turned around

  pub turned_none : (Leads : ℕ → X → Type 0) (rows : X → List ℕ) → ((x : X) → rows x ≡ []) → AreTurned Leads 0 rows
  turned_none Leads rows none = record {
    only = λ x y h. absurd (subst (In y) (none x) h);
    every = λ x y lt l. absurd (not_below_zero y lt);
  }

  pub turned_next : (Leads : ℕ → X → Type 0) (n : ℕ) (rows rows' : X → List ℕ) → AreTurned Leads n rows → AddedTo rows (Leads n) n rows' → AreTurned Leads (n + 1) rows'
  turned_next Leads n rows rows' t a = record {
    only = λ x y h. only x y (a.only x y h);
    every = λ x y lt l. every x y l (below_suc y n lt);
  }
    where
      only : (x : X) (y : ℕ) → In y (rows x) ⊎ (Leads n x × (n ≡ y)) → (y < n + 1) × Leads y x
      only x y (inl h) = let r = t.only x y h in (let lt = r.0 in omega (arith, lt), r.1)
      only x y (inr h) = let e = h.1 in (omega (arith, e), subst (λ y. Leads y x) e h.0)

      every : (x : X) (y : ℕ) → Leads y x → (y < n) ⊎ (n ≡ y) → In y (rows' x)
      every x y l (inl lt) = a.kept x y (t.every x y lt l)
      every x y l (inr e) = subst (λ y. In y (rows' x)) e (a.added x (subst (λ y. Leads y x) (sym e) l))

-- ---- each of some rows

pub each_none : (rows : ℕ → List ℕ) (i : ℕ) → AddedTo rows (λ x. In x []) i rows
each_none rows i = added_none rows i

pub each_next : (rows rows' rows'' : ℕ → List ℕ) (done : List ℕ) (x i : ℕ) → AddedTo rows (λ y. In y done) i rows' → IsAddedAt rows' x i rows'' → AddedTo rows (λ y. In y (done ++ x ∷ [])) i rows''
each_next rows rows' rows'' done x i a b =
    added_as rows rows'' (λ y. In y done ⊎ (x ≡ y)) (λ y. In y (done ++ x ∷ [])) i to (λ y h. in_cases y x done h)
    (added_more rows rows' rows'' (λ y. In y done) (λ y. x ≡ y) i a (added_at rows' rows'' x i b))
  where
    to : (y : ℕ) → In y done ⊎ (x ≡ y) → In y (done ++ x ∷ [])
    to y (inl h) = in_first y done (x ∷ []) h
    to y (inr e) = subst (λ y. In y (done ++ x ∷ [])) e (in_last x done)

pub once_next : (rows rows' rows'' : ℕ → List ℕ) (done : List ℕ) (x i : ℕ) → (In x done → ⊥) → AddedTo rows (λ y. In y done) i rows' → AddedOnce rows i rows' → IsAddedAt rows' x i rows'' → AddedOnce rows i rows''
once_next rows rows' rows'' done x i out a once b y = by_case (same_or_not y x)
  where
    by_case : (y ≡ x) ⊎ (y ≢ x) → (rows'' y ≡ rows y) ⊎ (rows'' y ≡ rows y ++ i ∷ [])
    by_case (inl e) = inr (ap rows'' e ∙ b.here ∙ ap (λ z. z ++ i ∷ []) (a.untouched x out ∙ ap rows (sym e)))
    by_case (inr ne) = subst (λ z. (z ≡ rows y) ⊎ (z ≡ rows y ++ i ∷ [])) (sym (b.elsewhere y ne)) (once y)

-- rows stay rising, where a number above all of them is added
pub rising_next : (rows rows' : ℕ → List ℕ) (n : ℕ) → ((x : ℕ) → AreRising (rows x)) → ((x y : ℕ) → In y (rows x) → y < n) → AddedOnce rows n rows' → (x : ℕ) → AreRising (rows' x)
rising_next rows rows' n rising below once x = by_case (once x)
  where
    by_case : (rows' x ≡ rows x) ⊎ (rows' x ≡ rows x ++ n ∷ []) → AreRising (rows' x)
    by_case (inl e) = subst AreRising (sym e) (rising x)
    by_case (inr e) = subst AreRising (sym e) (rising_last (rows x) n (rising x) (λ y h. below x y h))

-- a relation that says the same
pub turned_as : {X : Type 0} (Leads More : ℕ → X → Type 0) (m n : ℕ) (rows : X → List ℕ) → m ≡ n → ((y : ℕ) (x : X) → y < n → Leads y x ↔ More y x) → AreTurned Leads m rows → AreTurned More n rows
turned_as {X = X} Leads More m n rows same alike t = record {
  only = λ x y h. only x y (t.only x y h);
  every = λ x y lt l. t.every x y (subst (λ k. y < k) (sym same) lt) ((alike y x lt).1 l);
}
  where
    only : (x : X) (y : ℕ) → (y < m) × Leads y x → (y < n) × More y x
    only x y h = let lt : y < n = subst (λ k. y < k) same h.0 in (lt, (alike y x lt).0 h.1)
