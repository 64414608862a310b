-- Lists of numbers: what is in them, each once, rising.
use Rattle.std.proofs.Common.{◌≡◌, ◌≢◌, ℕ, zero, suc, ◌+◌, ◌<◌, List, [], ◌∷◌, ◌++◌, length, take, get_or, ◌⊎◌, inl, inr, refl, sym, subst, arith}
use Rattle.std.proofs.lemmas.Option.{slice_get_read, get_or_from_slice_get}
use Rattle.cerco_traces.specs.LabelledGraphs.{In}
use Rattle.rtl.specs.Liveness.{AreRising}
use Rattle.liveness.specs.Code.Rows.{AreDistinct}

pub same_or_not : (i j : ℕ) → (i ≡ j) ⊎ (i ≢ j)
same_or_not i j = grind arith

pub below_suc : (v n : ℕ) → v < n + 1 → (v < n) ⊎ (n ≡ v)
below_suc v n lt = grind arith

pub not_below_zero : (x : ℕ) → x < 0 → ⊥
not_below_zero x lt = omega arith

pub in_first : (v : ℕ) (xs ys : List ℕ) → In v xs → In v (xs ++ ys)
in_first v [] ys i = absurd i
in_first v (x ∷ xs) ys (inl e) = inl e
in_first v (x ∷ xs) ys (inr i) = inr (in_first v xs ys i)

pub in_second : (v : ℕ) (xs ys : List ℕ) → In v ys → In v (xs ++ ys)
in_second v [] ys i = i
in_second v (x ∷ xs) ys i = inr (in_second v xs ys i)

pub in_either : (v : ℕ) (xs ys : List ℕ) → In v (xs ++ ys) → In v xs ⊎ In v ys
in_either v [] ys i = inr i
in_either v (x ∷ xs) ys (inl e) = inl (inl e)
in_either v (x ∷ xs) ys (inr i) = by_case (in_either v xs ys i)
  where
    by_case : In v xs ⊎ In v ys → In v (x ∷ xs) ⊎ In v ys
    by_case (inl h) = inl (inr h)
    by_case (inr h) = inr h

pub in_last : (v : ℕ) (xs : List ℕ) → In v (xs ++ v ∷ [])
in_last v xs = in_second v xs (v ∷ []) (inl refl)

pub in_one : (v x : ℕ) → In v (x ∷ []) → x ≡ v
in_one v x (inl e) = e
in_one v x (inr i) = absurd i

pub in_cases : (v x : ℕ) (xs : List ℕ) → In v (xs ++ x ∷ []) → In v xs ⊎ (x ≡ v)
in_cases v x xs i = by_case (in_either v xs (x ∷ []) i)
  where
    by_case : In v xs ⊎ In v (x ∷ []) → In v xs ⊎ (x ≡ v)
    by_case (inl h) = inl h
    by_case (inr h) = inr (in_one v x h)

pub in_or_not : (v : ℕ) (xs : List ℕ) → In v xs ⊎ (In v xs → ⊥)
in_or_not v [] = inr (λ i. i)
in_or_not v (x ∷ xs) = by_case (same_or_not x v) (in_or_not v xs)
  where
    neither : x ≢ v → (In v xs → ⊥) → In v (x ∷ xs) → ⊥
    neither ne out (inl e) = ne e
    neither ne out (inr i) = out i

    by_case : (x ≡ v) ⊎ (x ≢ v) → In v xs ⊎ (In v xs → ⊥) → In v (x ∷ xs) ⊎ (In v (x ∷ xs) → ⊥)
    by_case (inl e) rest = inl (inl e)
    by_case (inr ne) (inl i) = inl (inr i)
    by_case (inr ne) (inr out) = inr (neither ne out)

-- what is in a list stands somewhere, and the other way round
pub in_at : (xs : List ℕ) (k d : ℕ) → k < length xs → In (get_or xs k d) xs
in_at [] k d lt = absurd (not_below_zero k lt)
in_at (x ∷ xs) zero d lt = inl refl
in_at (x ∷ xs) (suc k) d lt = inr (in_at xs k d (omega arith))

pub place_in : (xs : List ℕ) (x : ℕ) → In x xs → (k : ℕ) × (k < length xs) × (get_or xs k 0 ≡ x)
place_in [] x i = absurd i
place_in (y ∷ ys) x (inl e) = (0, omega arith, e)
place_in (y ∷ ys) x (inr i) =
    let h = place_in ys x i in
    let lt = h.1 in
    (suc h.0, omega (arith, lt), h.2)

-- what is read within a list is there whatever stands outside
pub read_is : {X : Type 0} (xs : List X) (i : ℕ) (x d : X) → i < length xs → x ≡ get_or xs i x → get_or xs i d ≡ x
read_is xs i x d lt e = get_or_from_slice_get xs i x d (slice_get_read xs (length xs) i x refl lt e)

-- ---- each once

pub distinct_last : (xs : List ℕ) (x : ℕ) → AreDistinct xs → (In x xs → ⊥) → AreDistinct (xs ++ x ∷ [])
distinct_last [] x d out = ((λ i. i), tt)
distinct_last (y ∷ ys) x d out = (first, distinct_last ys x d.1 (λ i. out (inr i)))
  where
    by_case : In y ys ⊎ (x ≡ y) → ⊥
    by_case (inl i) = d.0 i
    by_case (inr e) = out (inl (sym e))

    first : In y (ys ++ x ∷ []) → ⊥
    first i = by_case (in_cases y x ys i)

-- what stands at a place doesn't stand before it
pub distinct_before : (xs : List ℕ) (k d : ℕ) → AreDistinct xs → k < length xs → In (get_or xs k d) (take k xs) → ⊥
distinct_before [] k d dist lt i = not_below_zero k lt
distinct_before (x ∷ xs) zero d dist lt i = i
distinct_before (x ∷ xs) (suc k) d dist lt (inl e) = dist.0 (subst (λ z. In z xs) (sym e) (in_at xs k d (omega arith)))
distinct_before (x ∷ xs) (suc k) d dist lt (inr i) = distinct_before xs k d dist.1 (omega arith) i

-- ---- rising

-- a number above all is the last of a rising list
pub rising_last : (xs : List ℕ) (n : ℕ) → AreRising xs → ((v : ℕ) → In v xs → v < n) → AreRising (xs ++ n ∷ [])
rising_last [] n r below = tt
rising_last (x ∷ []) n r below = (below x (inl refl), tt)
rising_last (x ∷ (y ∷ ys)) n r below = (r.0, rising_last (y ∷ ys) n r.1 (λ v i. below v (inr i)))
