-- What holds of each element of a list, as a tuple of what holds of its elements in turn.
use Rattle.std.proofs.Common.{◌≡◌, inl, inr, ℕ, zero, suc, List, [], ◌∷◌, Some, subst}
use Rattle.std.specs.Prelude.{slice_get}
use Rattle.std.proofs.lemmas.Option.{none-some, same_Some}
use Rattle.cerco_traces.specs.LabelledGraphs.{In}

-- it holds of each element with its place
abbrev pub Each : {A : Type 0} → (ℕ → A → Type 0) → List A → Type 0
Each Holds [] = Unit {0}
Each Holds (x ∷ xs) = Holds 0 x × Each (λ i. Holds (suc i)) xs

infixr 5 ◌&◌
-- a fact of the first element, and those of the others
pub ◌&◌ : {A B : Type 0} → A → B → A × B
first & others = (first, others)

pub each_at : {A : Type 0} (Holds : ℕ → A → Type 0) (xs : List A) → Each Holds xs → (i : ℕ) (x : A) → slice_get xs i ≡ Some x → Holds i x
each_at Holds [] all i x is = absurd (none-some x is)
each_at Holds (y ∷ ys) all zero x is = subst (Holds 0) (same_Some y x is) all.0
each_at Holds (y ∷ ys) all (suc i) x is = each_at (λ i. Holds (suc i)) ys all.1 i x is

abbrev pub AllOf : (ℕ → Type 0) → List ℕ → Type 0
AllOf Holds [] = Unit {0}
AllOf Holds (q ∷ qs) = Holds q × AllOf Holds qs

pub all_of : (Holds : ℕ → Type 0) (qs : List ℕ) → AllOf Holds qs → (q : ℕ) → In q qs → Holds q
all_of Holds [] all q is = absurd is
all_of Holds (r ∷ qs) all q (inl same) = subst Holds same all.0
all_of Holds (r ∷ qs) all q (inr is) = all_of Holds qs all.1 q is
