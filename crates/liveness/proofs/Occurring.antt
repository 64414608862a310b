-- Where storages occur: one more of them, and all of a list.
use Rattle.std.proofs.Common.{◌≡◌, ℕ, ◌+◌, List, [], ◌∷◌, ◌++◌, ◌⊎◌, inl, inr, refl, sym, ap, ◌∙◌, subst}
use Rattle.cerco_traces.specs.LabelledGraphs.{In}
use Rattle.rtl.specs.Effects.{Storage, Loc, Carry}
use Rattle.rtl.specs.Liveness.{IsAmong}
use Rattle.liveness.specs.declared.ways.Ways.{Ways}
use Rattle.liveness.specs.declared.occurrences.Occurrences.{Occurrences}
use Rattle.liveness.specs.Code.Rows.{ways_of, IsAddedAt, AddedTo, AreTurned}
use Rattle.liveness.specs.Code.Views.{occurrences_of}
use Rattle.liveness.specs.Code.Flow.{AreExactly}
use Rattle.liveness.proofs.Lists.{in_first, in_last, in_cases}
use Rattle.liveness.proofs.Turned.{added_at, added_more, added_as, added_none, turned_next}
use Rattle.liveness.proofs.ExitLists.{among_first, among_second, among_either, among_one}

pub occurs_vreg : (o o' : Occurrences) (grown : List Ways) (v i : ℕ) → ((y : ℕ) → ways_of grown y ≡ ways_of o.vregs.items y) → IsAddedAt (ways_of grown) v i (ways_of o'.vregs.items) → o'.carry.to.items ≡ o.carry.to.items → AddedTo (occurrences_of o) (λ s. Loc v ≡ s) i (occurrences_of o')
occurs_vreg o o' grown v i same at carry = record {
  only = λ s y h. only s y h;
  kept = λ s y h. kept s y h;
  added = λ s e. subst (λ s. In i (occurrences_of o' s)) e (a.added v refl);
  untouched = λ s out. untouched s out;
}
  where
    a : AddedTo (ways_of grown) (λ w. v ≡ w) i (ways_of o'.vregs.items)
    a = added_at (ways_of grown) (ways_of o'.vregs.items) v i at

    name : (w y : ℕ) → In y (ways_of grown w) ⊎ ((v ≡ w) × (i ≡ y)) → In y (ways_of o.vregs.items w) ⊎ ((Loc v ≡ Loc w) × (i ≡ y))
    name w y (inl h) = inl (subst (In y) (same w) h)
    name w y (inr h) = inr (ap Loc h.0, h.1)

    only : (s : Storage) (y : ℕ) → In y (occurrences_of o' s) → In y (occurrences_of o s) ⊎ ((Loc v ≡ s) × (i ≡ y))
    only (Loc w) y h = name w y (a.only w y h)
    only Carry y h = inl (subst (In y) carry h)

    kept : (s : Storage) (y : ℕ) → In y (occurrences_of o s) → In y (occurrences_of o' s)
    kept (Loc w) y h = a.kept w y (subst (In y) (sym (same w)) h)
    kept Carry y h = subst (In y) (sym carry) h

    untouched : (s : Storage) → (Loc v ≡ s → ⊥) → occurrences_of o' s ≡ occurrences_of o s
    untouched (Loc w) out = a.untouched w (λ e. out (ap Loc e)) ∙ same w
    untouched Carry out = carry

pub occurs_carry : (o o' : Occurrences) (i : ℕ) → o'.vregs.items ≡ o.vregs.items → o'.carry.to.items ≡ o.carry.to.items ++ i ∷ [] → AddedTo (occurrences_of o) (λ s. Carry ≡ s) i (occurrences_of o')
occurs_carry o o' i vregs carry = record {
  only = λ s y h. only s y h;
  kept = λ s y h. kept s y h;
  added = λ s e. subst (λ s. In i (occurrences_of o' s)) e (subst (In i) (sym carry) (in_last i o.carry.to.items));
  untouched = λ s out. untouched s out;
}
  where
    last : (y : ℕ) → In y o.carry.to.items ⊎ (i ≡ y) → In y o.carry.to.items ⊎ ((Carry ≡ Carry) × (i ≡ y))
    last y (inl h) = inl h
    last y (inr e) = inr (refl, e)

    only : (s : Storage) (y : ℕ) → In y (occurrences_of o' s) → In y (occurrences_of o s) ⊎ ((Carry ≡ s) × (i ≡ y))
    only (Loc w) y h = inl (subst (λ ways. In y (ways_of ways w)) vregs h)
    only Carry y h = last y (in_cases y i o.carry.to.items (subst (In y) carry h))

    kept : (s : Storage) (y : ℕ) → In y (occurrences_of o s) → In y (occurrences_of o' s)
    kept (Loc w) y h = subst (λ ways. In y (ways_of ways w)) (sym vregs) h
    kept Carry y h = subst (In y) (sym carry) (in_first y o.carry.to.items (i ∷ []) h)

    untouched : (s : Storage) → (Carry ≡ s → ⊥) → occurrences_of o' s ≡ occurrences_of o s
    untouched (Loc w) out = ap (λ ways. ways_of ways w) vregs
    untouched Carry out = absurd (out refl)

-- nothing has been added yet
pub occurs_none : (rows : Storage → List ℕ) (i : ℕ) → AddedTo rows (λ s. IsAmong s []) i rows
occurs_none rows i = added_none rows i

-- one storage more
pub occurs_next : (rows rows' rows'' : Storage → List ℕ) (done : List Storage) (x : Storage) (i : ℕ) → AddedTo rows (λ s. IsAmong s done) i rows' → AddedTo rows' (λ s. x ≡ s) i rows'' → AddedTo rows (λ s. IsAmong s (done ++ x ∷ [])) i rows''
occurs_next rows rows' rows'' done x i a b =
    added_as rows rows'' (λ s. IsAmong s done ⊎ (x ≡ s)) (λ s. IsAmong s (done ++ x ∷ [])) i to from
    (added_more rows rows' rows'' (λ s. IsAmong s done) (λ s. x ≡ s) i a b)
  where
    to : (s : Storage) → IsAmong s done ⊎ (x ≡ s) → IsAmong s (done ++ x ∷ [])
    to s (inl h) = among_first s done (x ∷ []) h
    to s (inr e) = among_second s done (x ∷ []) (inl e)

    split : (s : Storage) → IsAmong s done ⊎ IsAmong s (x ∷ []) → IsAmong s done ⊎ (x ≡ s)
    split s (inl h) = inl h
    split s (inr h) = inr (among_one s x h)

    from : (s : Storage) → IsAmong s (done ++ x ∷ []) → IsAmong s done ⊎ (x ≡ s)
    from s h = split s (among_either s done (x ∷ []) h)

-- one number more, at which exactly these storages occur
pub occurrences_next : (Leads : ℕ → Storage → Type 0) (n : ℕ) (rows rows' : Storage → List ℕ) (list : List Storage) → AreExactly list (Leads n) → AreTurned Leads n rows → AddedTo rows (λ s. IsAmong s list) n rows' → AreTurned Leads (n + 1) rows'
occurrences_next Leads n rows rows' list exact t a = turned_next Leads n rows rows' t (added_as rows rows' (λ s. IsAmong s list) (Leads n) n (λ s. (exact s).0) (λ s. (exact s).1) a)
