-- Lists of numbers, and where a number stands in them.
use Rattle.std.proofs.Common.{◌≡◌, ℕ, zero, suc, ◌<◌, length, get_or, arith, List, [], ◌∷◌, ◌++◌, Some, None, ◌⊎◌, inl, inr, refl, sym, ap, ⊎_elim}
use Rattle.cerco_traces.specs.LabelledGraphs.{In}
use Rattle.lin_gen.specs.Ordering.{head_of}
use Rattle.rtl.specs.WellFormed.{NoneTwice}

-- a number of a list stands between a front and a rest
pub record Split (q : ℕ) (xs : List ℕ) : Type 0 where
  pub front : List ℕ
  pub rest : List ℕ
  pub whole : xs ≡ front ++ q ∷ rest

pub split : (q : ℕ) (xs : List ℕ) → In q xs → Split q xs
split q [] i = absurd i
split q (x ∷ xs) (inl e) = record { front = []; rest = xs; whole = ap (λ z. z ∷ xs) e }
split q (x ∷ xs) (inr i) = let s = split q xs i in record { front = x ∷ s.front; rest = s.rest; whole = ap (λ z. x ∷ z) s.whole }

pub in_back : (q : ℕ) (xs ys : List ℕ) → In q ys → In q (xs ++ ys)
in_back q [] ys i = i
in_back q (x ∷ xs) ys i = inr (in_back q xs ys i)

pub in_front : (q : ℕ) (xs ys : List ℕ) → In q xs → In q (xs ++ ys)
in_front q [] ys i = absurd i
in_front q (x ∷ xs) ys (inl e) = inl e
in_front q (x ∷ xs) ys (inr i) = inr (in_front q xs ys i)

-- what stands once isn't in front of itself
pub once_front : (q : ℕ) (front rest : List ℕ) → NoneTwice (front ++ q ∷ rest) → In q front → ⊥
once_front q [] rest once i = i
once_front q (x ∷ front) rest once (inl e) = once.0 (in_back x front (q ∷ rest) (inl (sym e)))
once_front q (x ∷ front) rest once (inr i) = once_front q front rest once.1 i

pub head_split : (q : ℕ) (xs : List ℕ) → head_of xs ≡ Some q → (rest : List ℕ) × (xs ≡ q ∷ rest)
head_split q [] e = absurd (never e)
  where
    never : None ≡ Some q → ⊥
    never e = cc
head_split q (x ∷ xs) e = (xs, ap (λ z. z ∷ xs) (same e))
  where
    same : Some x ≡ Some q → x ≡ q
    same e = cc

pub in_cases : (q : ℕ) (xs ys : List ℕ) → In q (xs ++ ys) → In q xs ⊎ In q ys
in_cases q [] ys i = inr i
in_cases q (x ∷ xs) ys (inl e) = inl (inl e)
in_cases q (x ∷ xs) ys (inr i) = ⊎_elim (λ j. inl (inr j)) (λ j. inr j) (in_cases q xs ys i)

pub once_more : (xs : List ℕ) (p : ℕ) → NoneTwice xs → (In p xs → ⊥) → NoneTwice (xs ++ p ∷ [])
once_more [] p once out = (λ i. i, tt)
once_more (x ∷ xs) p once out = (λ i. by (in_cases x xs (p ∷ []) i), once_more xs p once.1 (λ i. out (inr i)))
  where
    by : In x xs ⊎ In x (p ∷ []) → ⊥
    by (inl i) = once.0 i
    by (inr (inl e)) = out (inl (sym e))
    by (inr (inr i)) = i

pub in_at : (xs : List ℕ) (k : ℕ) → k < length xs → In (get_or xs k 0) xs
in_at [] k lt = absurd (no lt)
  where
    no : k < 0 → ⊥
    no lt = omega arith
in_at (x ∷ xs) zero lt = inl refl
in_at (x ∷ xs) (suc k) lt = inr (in_at xs k (omega arith))
