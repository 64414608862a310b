-- What holds of every punctuator.
use Rattle.std.proofs.Common.{◌≡◌, ◌≤◌, ℕ, Bool, true, false, List, [], ◌∷◌, take, length, get_or, refl, subst, arith}
use Rattle.std.specs.Prelude.{not, ◌&&◌, ◌||◌, nat_le}
use Rattle.std.specs.List.{list_all, list_any}
use Rattle.std.specs.Str.{bytes_eq}
use Rattle.std.proofs.lemmas.Bool.Decides.{nat_tests}
use Rattle.std.proofs.lemmas.Slice.Eq.{bytes_eq-Decides}
use Rattle.clight_tokens.specs.Lexemes.{is_blank, is_digit, is_letter, punctuators, is_punctuator}
use Rattle.clight_tokens.specs.Code.Views.{begins_comment}

pub and_left : (a b : Bool) → (a && b) ≡ true → a ≡ true
and_left true b h = refl
and_left false b h = h

pub and_right : (a b : Bool) → (a && b) ≡ true → b ≡ true
and_right true b h = h
and_right false b h = cc

table_by : (q : List ℕ → Bool) (p s : List ℕ) (v more : Bool) → bytes_eq p s ≡ v → q p ≡ true → (more ≡ true → q s ≡ true) → (v || more) ≡ true → q s ≡ true
table_by q p s true more e here later h = let same : p ≡ s = (bytes_eq-Decides p s).0 e in subst (λ x. q x ≡ true) same here
table_by q p s false more e here later h = later h

of_table : (q : List ℕ → Bool) (t : List (List ℕ)) (s : List ℕ) → list_all q t ≡ true → list_any (λ p. bytes_eq p s) t ≡ true → q s ≡ true
of_table q [] s a h = cc
of_table q (p ∷ t) s a h = table_by q p s (bytes_eq p s) (list_any (λ x. bytes_eq x s) t) refl (and_left _ _ a) (of_table q t s (and_right _ _ a)) h

-- a test that each entry of the table passes is passed by each punctuator
punctuator_passes : (q : List ℕ → Bool) (s : List ℕ) → list_all q punctuators ≡ true → is_punctuator s ≡ true → q s ≡ true
unfolding is_punctuator
punctuator_passes q s a h = of_table q punctuators s a h

-- the first byte of a punctuator is one
pub first_alone : (b : ℕ) (s : List ℕ) → is_punctuator (b ∷ s) ≡ true → is_punctuator (b ∷ []) ≡ true
unfolding is_punctuator
first_alone b s h = punctuator_passes (λ y. is_punctuator (take 1 y)) (b ∷ s) refl h

not_true : (v : Bool) → not v ≡ true → v ≡ false
not_true true h = cc
not_true false h = refl

pub no_letter : (b : ℕ) (s : List ℕ) → is_punctuator (b ∷ s) ≡ true → is_letter b ≡ false
no_letter b s h = not_true (is_letter b) (punctuator_passes (λ y. not (is_letter (get_or y 0 0))) (b ∷ s) refl h)

pub no_digit : (b : ℕ) (s : List ℕ) → is_punctuator (b ∷ s) ≡ true → is_digit b ≡ false
no_digit b s h = not_true (is_digit b) (punctuator_passes (λ y. not (is_digit (get_or y 0 0))) (b ∷ s) refl h)

pub no_blank : (b : ℕ) (s : List ℕ) → is_punctuator (b ∷ s) ≡ true → is_blank b ≡ false
no_blank b s h = not_true (is_blank b) (punctuator_passes (λ y. not (is_blank (get_or y 0 0))) (b ∷ s) refl h)

pub no_comment : (s : List ℕ) → is_punctuator s ≡ true → begins_comment s ≡ false
no_comment s h = not_true (begins_comment s) (punctuator_passes (λ y. not (begins_comment y)) s refl h)

-- a punctuator has three bytes at most
pub at_most_three : (s : List ℕ) → is_punctuator s ≡ true → length s ≤ 3
at_most_three s h = let e = punctuator_passes (λ y. nat_le (length y) 3) s refl h in grind (arith, nat_tests)

pub not_empty : is_punctuator [] ≡ false
unfolding is_punctuator
not_empty = refl
