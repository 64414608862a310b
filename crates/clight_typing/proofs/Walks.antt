-- Walks along lists, one step after the other.
use Rattle.std.proofs.Common.{◌≡◌, ◌∙◌, ℕ, suc, ◌+◌, ◌<◌, List, [], ◌∷◌, ◌++◌, length, map, get_or, take, drop, Result, Ok, Err, refl, sym, ap, arith, append_assoc, add-one, drop-cons}
use Rattle.std.proofs.lemmas.List.{append-nil, take-append-drop}
use Rattle.clight_types.specs.TypedExpressions.{Checked, ◌>>=◌}

-- what a step gives, before what the rest gives
abbrev pub ahead : {B : Type 0} → List B → Checked (List B) → Checked (List B)
ahead before rest = rest >>= λ ys. Ok (before ++ ys)

pub ahead_none : {B : Type 0} (rest : Checked (List B)) → ahead [] rest ≡ rest
ahead_none (Ok ys) = refl
ahead_none (Err f) = refl

pub ahead_more : {B : Type 0} (before all : List B) (y : B) (rest : Checked (List B)) → all ≡ before ++ y ∷ [] → ahead before (rest >>= λ ys. Ok (y ∷ ys)) ≡ ahead all rest
ahead_more before all y (Ok ys) is = let f : List _ → Checked (List _) = λ zs. Ok zs in ap f (sym (append_assoc before (y ∷ []) ys)) ∙ ap (λ b. f (b ++ ys)) (sym is)
ahead_more before all y (Err f) is = refl

-- the list from the place of an element on
pub from_here : {A : Type 0} (xs : List A) (i : ℕ) (x : A) → i < length xs → x ≡ get_or xs i x → drop i xs ≡ x ∷ drop (i + 1) xs
from_here xs i x within is = rw (add-one, drop-cons xs i x within) (ap (λ y. y ∷ drop (suc i) xs) (sym is))

pub parts_at : {A : Type 0} (xs : List A) (i : ℕ) (x : A) → i < length xs → x ≡ get_or xs i x → xs ≡ take i xs ++ x ∷ drop (i + 1) xs
parts_at xs i x within is = sym (take-append-drop i xs) ∙ ap (λ ys. take i xs ++ ys) (from_here xs i x within is)

pub ahead_end : {B : Type 0} (before : List B) → ahead before (Ok []) ≡ Ok before
ahead_end before = let f : List _ → Checked (List _) = λ zs. Ok zs in ap f (append-nil before)

-- what is walked over, where all that it depends on has equal values
pub moved : {S A R : Type 0} (W : S → ℕ → List A → R) (s t : S) (m n : ℕ) (xs : List A) (i j : ℕ) → s ≡ t → m ≡ n → i ≡ j → W s m (drop i xs) ≡ W t n (drop j xs)
moved W s t m n xs i j one other place = ap (λ s. W s m (drop i xs)) one ∙ (ap (λ m. W t m (drop i xs)) other ∙ ap (λ i. W t n (drop i xs)) place)

-- some more behind others
pub added : {A : Type 0} (old more rest new : List A) → new ≡ old ++ more → old ++ (more ++ rest) ≡ new ++ rest
added old more rest new is = sym (append_assoc old more rest) ∙ ap (λ xs. xs ++ rest) (sym is)
