-- Sizes that are powers of 2, and constants.
use Rattle.std.proofs.Common.{◌≡◌, ◌≢◌, ℕ, zero, suc, ◌+◌, ◌^◌, ◌<◌, ◌≤◌, Some, None, Bool, true, false, refl, sym, ap, ◌∙◌, subst, arith, eq-eqb, ne_eqb, ◌⊎◌, inl, inr}
use Rattle.std.specs.Prelude.{nat_eq, if◌then◌else◌}
use Rattle.std.proofs.lemmas.Option.{none-some, same_Some}
use Rattle.std.proofs.Math.Pow.{pow-lt}
use Rattle.clight_syntax.specs.Bounds.{exponent_from}
use Rattle.clight_programs.specs.Numbers.{shift_for}

same_numbers : (a b : ℕ) → nat_eq a b ≡ true → a ≡ b
same_numbers a b e = grind arith

by_order : (i k : ℕ) → i ≤ k → (i ≡ k) ⊎ (suc i ≤ k)
by_order i k le = by (nat_eq i k) refl
  where
    by : (t : Bool) → nat_eq i k ≡ t → (i ≡ k) ⊎ (suc i ≤ k)
    by true e = inl (grind arith)
    by false e = inr (let ne : i ≢ k = grind arith in omega arith)

found_here : (tries i k : ℕ) → i ≡ k → exponent_from (suc tries) i (2 ^ k) ≡ k
found_here tries i k e = ap (λ t. if t then i else exponent_from tries (suc i) (2 ^ k)) (eq-eqb (2 ^ i) (2 ^ k) (ap (λ z. 2 ^ z) e)) ∙ e

found_later : (tries i k : ℕ) → suc i ≤ k → exponent_from tries (suc i) (2 ^ k) ≡ k → exponent_from (suc tries) i (2 ^ k) ≡ k
found_later tries i k le later =
    let less : 2 ^ i < 2 ^ k = pow-lt (omega arith) in
    let ne : 2 ^ i ≢ 2 ^ k = λ e. omega arith in
    ap (λ t. if t then i else exponent_from tries (suc i) (2 ^ k)) (ne_eqb (2 ^ i) (2 ^ k) ne) ∙ later

found_from : (tries i k : ℕ) → i ≤ k → k < i + tries → exponent_from tries i (2 ^ k) ≡ k
found_from zero i k le lt = absurd (omega arith)
found_from (suc tries) i k le lt =
    elim (by_order i k le) [ inl e ↦ found_here tries i k e | inr le' ↦ found_later tries i k le' (found_from tries (suc i) k le' (omega arith)) ]

none_below : (tries i n : ℕ) → exponent_from tries i n < i + tries ⊎ exponent_from tries i n ≡ 0
none_below zero i n = inr refl
none_below (suc tries) i n = by (nat_eq (2 ^ i) n) (none_below tries (suc i) n)
  where
    by : (t : Bool) → (exponent_from tries (suc i) n < suc i + tries ⊎ exponent_from tries (suc i) n ≡ 0) → (if t then i else exponent_from tries (suc i) n) < i + suc tries ⊎ (if t then i else exponent_from tries (suc i) n) ≡ 0
    by true h = inl (omega arith)
    by false (inl h) = inl (omega arith)
    by false (inr h) = inr h

pub no_shift_for : (size : ℕ) → ((k : ℕ) → k < 16 → 2 ^ k ≡ size → ⊥) → shift_for size ≡ None
unfolding shift_for
no_shift_for size none = by (nat_eq (2 ^ exponent_from 16 0 size) size) refl (none_below 16 0 size)
  where
    by : (t : Bool) → nat_eq (2 ^ exponent_from 16 0 size) size ≡ t → (exponent_from 16 0 size < 0 + 16 ⊎ exponent_from 16 0 size ≡ 0) → (if t then Some (exponent_from 16 0 size) else None) ≡ None
    by true t (inl lt) = absurd (none (exponent_from 16 0 size) (omega arith) (same_numbers _ _ t))
    by true t (inr lt) = absurd (none (exponent_from 16 0 size) (omega arith) (same_numbers _ _ t))
    by false t lt = refl

pub shift_for_power : (k size : ℕ) → k < 16 → 2 ^ k ≡ size → shift_for size ≡ Some k
unfolding shift_for
shift_for_power k size lt is = subst (λ z. (if nat_eq (2 ^ exponent_from 16 0 z) z then Some (exponent_from 16 0 z) else None) ≡ Some k) is
    (let e = found_from 16 0 k (omega arith) (omega arith) in
    subst (λ z. (if nat_eq (2 ^ z) (2 ^ k) then Some z else None) ≡ Some k) (sym e) (ap (λ t. if t then Some k else None) (eq-eqb (2 ^ k) (2 ^ k) refl)))

pub shift_for_is : (size k : ℕ) → shift_for size ≡ Some k → 2 ^ k ≡ size
unfolding shift_for
shift_for_is size k e = by (nat_eq (2 ^ exponent_from 16 0 size) size) refl e
  where
    by : (t : Bool) → nat_eq (2 ^ exponent_from 16 0 size) size ≡ t → (if t then Some (exponent_from 16 0 size) else None) ≡ Some k → 2 ^ k ≡ size
    by true t e = ap (λ z. 2 ^ z) (sym (same_Some _ _ e)) ∙ same_numbers _ _ t
    by false t e = absurd (none-some k e)
