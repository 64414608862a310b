-- Members of lists of numbers.
use Rattle.std.proofs.Common.{◌≡◌, ℕ, zero, suc, ◌+◌, ◌<◌, ◌⊎◌, inl, inr, ◌↔◌, ◌≢◌, List, [], ◌∷◌, ◌++◌, length, take, get_or, refl, sym, ap, ◌∙◌, subst, arith, add-one, take-suc}
use Rattle.std.specs.Prelude.{All, Bool, true, false, slice_set}
use Rattle.std.proofs.lemmas.List.{get_or-set_same, get_or-set_other}
use Rattle.cerco_traces.specs.LabelledGraphs.{In}
use Rattle.colouring.specs.Colours.{colour_at}
use Rattle.colouring.specs.Code.Rows.{mark_at, Holds}

pub in_front : (v : ℕ) (xs ys : List ℕ) → In v xs → In v (xs ++ ys)
in_front v [] ys i = absurd i
in_front v (x ∷ xs) ys (inl e) = inl e
in_front v (x ∷ xs) ys (inr i) = inr (in_front v xs ys i)

pub in_back : (v : ℕ) (xs ys : List ℕ) → In v ys → In v (xs ++ ys)
in_back v [] ys i = i
in_back v (x ∷ xs) ys i = inr (in_back v xs ys i)

pub in_either : (v : ℕ) (xs ys : List ℕ) → In v (xs ++ ys) → In v xs ⊎ In v ys
in_either v [] ys i = inr i
in_either v (x ∷ xs) ys (inl e) = inl (inl e)
in_either v (x ∷ xs) ys (inr i) = one_more (in_either v xs ys i)
  where
    one_more : In v xs ⊎ In v ys → In v (x ∷ xs) ⊎ In v ys
    one_more (inl i) = inl (inr i)
    one_more (inr i) = inr i

-- the item at a place is one
pub in_at : (xs : List ℕ) (k d : ℕ) → k < length xs → In (get_or xs k d) xs
in_at [] k d lt = absurd (omega arith)
in_at (x ∷ xs) zero d lt = inl refl
in_at (x ∷ xs) (suc k) d lt = inr (in_at xs k d (omega arith))

-- what holds of each one holds at each place
pub all_in : (P : ℕ → Type 0) (xs : List ℕ) → ((v : ℕ) → In v xs → P v) → All P xs
all_in P xs each k d lt = each (get_or xs k d) (in_at xs k d lt)

pub same_or_not : (i j : ℕ) → (i ≡ j) ⊎ (i ≢ j)
same_or_not i j = grind arith

pub mark_here : (marks : List Bool) (k : ℕ) → k < length marks → mark_at (slice_set marks k true) k ≡ true
mark_here marks k lt = get_or-set_same marks k true false lt

pub mark_elsewhere : (marks : List Bool) (k j : ℕ) → j ≢ k → mark_at (slice_set marks k true) j ≡ mark_at marks j
mark_elsewhere marks k j ne = get_or-set_other marks k j true false ne

-- one more of a row holds its colour
pub held_more :
    (held : List Bool) (given row : List ℕ) (i : ℕ) → i < length row → colour_at given (get_or row i 0) < length held → ((c : ℕ) → (mark_at held c ≡ true) ↔ Holds given (take i row) c)
    → (c : ℕ) → (mark_at (slice_set held (colour_at given (get_or row i 0)) true) c ≡ true) ↔ Holds given (take (i + 1) row) c
held_more held given row i lt within so_far c = (λ marked. subst (λ r. Holds given r c) (sym taken) (forth (same_or_not c (colour_at given (get_or row i 0))) marked), λ h. back (same_or_not c (colour_at given (get_or row i 0))) (subst (λ r. Holds given r c) taken h))
  where
    taken : take (i + 1) row ≡ take i row ++ get_or row i 0 ∷ []
    taken = ap (λ k. take k row) (add-one i) ∙ take-suc row i 0 lt

    forth : (c ≡ colour_at given (get_or row i 0)) ⊎ (c ≢ colour_at given (get_or row i 0)) → mark_at (slice_set held (colour_at given (get_or row i 0)) true) c ≡ true → Holds given (take i row ++ get_or row i 0 ∷ []) c
    forth (inl e) marked = (get_or row i 0, in_back (get_or row i 0) (take i row) (get_or row i 0 ∷ []) (inl refl), sym e)
    forth (inr ne) marked = let h = (so_far c).0 (sym (mark_elsewhere held (colour_at given (get_or row i 0)) c ne) ∙ marked) in (h.0, in_front h.0 (take i row) (get_or row i 0 ∷ []) h.1, h.2)

    here : c ≡ colour_at given (get_or row i 0) → mark_at (slice_set held (colour_at given (get_or row i 0)) true) c ≡ true
    here e = subst (λ k. mark_at (slice_set held (colour_at given (get_or row i 0)) true) k ≡ true) (sym e) (mark_here held (colour_at given (get_or row i 0)) within)

    old_or_last : (c ≢ colour_at given (get_or row i 0)) → (u : ℕ) → colour_at given u ≡ c → In u (take i row) ⊎ In u (get_or row i 0 ∷ []) → mark_at held c ≡ true
    old_or_last ne u e (inl old) = (so_far c).1 (u, old, e)
    old_or_last ne u e (inr (inl same)) = absurd (ne (sym e ∙ ap (colour_at given) (sym same)))
    old_or_last ne u e (inr (inr none)) = absurd none

    back : (c ≡ colour_at given (get_or row i 0)) ⊎ (c ≢ colour_at given (get_or row i 0)) → Holds given (take i row ++ get_or row i 0 ∷ []) c → mark_at (slice_set held (colour_at given (get_or row i 0)) true) c ≡ true
    back (inl e) h = here e
    back (inr ne) h = mark_elsewhere held (colour_at given (get_or row i 0)) c ne ∙ old_or_last ne h.0 h.2 (in_either h.0 (take i row) (get_or row i 0 ∷ []) h.1)
