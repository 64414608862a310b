-- What is known of single numbers and of the elements of lists.
use Rattle.std.proofs.Common.{◌≡◌, ◌≢◌, ℕ, zero, suc, ◌<◌, ◌⊎◌, List, [], ◌∷◌, ◌++◌, length, get_or, refl, ap, subst, inl, inr, arith}
use Rattle.std.specs.Prelude.{Contains}
use Rattle.std.proofs.lemmas.Bool.{cases_lt}
use Rattle.std.proofs.lemmas.List.{get_or_default}

pub same_or_not : (a b : ℕ) → (a ≡ b) ⊎ (a ≢ b)
same_or_not a b =
    elim (cases_lt a b) [
      | inl h ↦ inr (let ne : a ≢ b = omega arith in ne)
      | inr h ↦
          elim (cases_lt b a) [
            | inl g ↦ inr (let ne : a ≢ b = omega arith in ne)
            | inr g ↦ inl (let e : a ≡ b = omega arith in e)
          ]
    ]

pub contains_here : (x : ℕ) (xs : List ℕ) → Contains (x ∷ xs) x
contains_here x xs = (0, omega arith, refl)

pub contains_there : (x y : ℕ) (xs : List ℕ) → Contains xs y → Contains (x ∷ xs) y
contains_there x y xs c = let h = c.1 in (suc c.0, omega arith, c.2)

pub contains_cases : (x y : ℕ) (xs : List ℕ) → Contains (x ∷ xs) y → (x ≡ y) ⊎ Contains xs y
contains_cases x y xs (zero, h, e) = inl e
contains_cases x y xs (suc k, h, e) = inr (k, omega arith, e)

pub contains_none : (y : ℕ) → Contains [] y → ⊥
contains_none y c = let h = c.1 in omega arith

-- an element by its place, read with 0 past the end
pub contains_at : (xs : List ℕ) (k x : ℕ) → k < length xs → get_or xs k 0 ≡ x → Contains xs x
contains_at xs k x h e = (k, h, subst (λ (y : ℕ). y ≡ x) (get_or_default xs k 0 x h) e)

pub at_contains : (xs : List ℕ) (x : ℕ) → Contains xs x → (k : ℕ) × (k < length xs) × (get_or xs k 0 ≡ x)
at_contains xs x c = (c.0, c.1, subst (λ (y : ℕ). y ≡ x) (get_or_default xs c.0 x 0 c.1) c.2)

-- a list is empty, or has a last element
pub last_cases : (xs : List ℕ) → (xs ≡ []) ⊎ ((front : List ℕ) × (x : ℕ) × (xs ≡ front ++ x ∷ []))
last_cases [] = inl refl
last_cases (x ∷ xs) =
    elim (last_cases xs) [
      | inl e ↦ inr ([], x, ap (λ (ys : List ℕ). x ∷ ys) e)
      | inr h ↦ inr (x ∷ h.0, h.1, ap (λ (ys : List ℕ). x ∷ ys) h.2)
    ]
