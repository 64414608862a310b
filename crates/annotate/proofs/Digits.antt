-- The digits that a text begins with, and their value.
use Rattle.std.proofs.Common.{◌≡◌, ℕ, zero, suc, ◌+◌, ◌-◌, ◌*◌, ◌^◌, ◌<◌, ◌≤◌, ◌==◌, Bool, true, false, leb, List, [], ◌∷◌, ◌++◌, length, take, drop, get_or, Some, None, take_while, refl, sym, ap, ◌∙◌, inl, inr, append_assoc, append-nil, arith, eq-eqb, leb-true}
use Rattle.std.specs.Char.{is_ascii_digit, digit_value}
use Rattle.std.specs.List.{list_all}
use Rattle.std.specs.Str.Parse.{digits_value}
use Rattle.std.proofs.lemmas.Bool.{and_parts, and_from, cond-true, cond-false, cases_lt}
use Rattle.std.proofs.lemmas.Int.Digits.{digits_value_more}
use Rattle.std.proofs.lemmas.List.{drop_more, take_more}
use Rattle.std.proofs.lemmas.List.Sums.{take_while-cons}
use Rattle.std.proofs.lemmas.Str.{digit_value_digit}
use Rattle.std.proofs.Math.Nat.{min-eq_left, min-eq_right}
use Rattle.std.proofs.Math.Seq.{take-length, drop-length}
use Rattle.annotate.specs.Numbers.{decimal_number}
use Rattle.annotate.specs.Code.Reading.{capped}

-- ---- which they are

-- the text has digits before a byte
abbrev pub AreDigitsUpTo : List ℕ → ℕ → Type 0
AreDigitsUpTo text at = take_while is_ascii_digit text ≡ take at text ++ take_while is_ascii_digit (drop at text)

digit_next : (byte : ℕ) (rest : List ℕ) → is_ascii_digit byte ≡ true → take_while is_ascii_digit (byte ∷ rest) ≡ byte ∷ take_while is_ascii_digit rest
digit_next byte rest is = take_while-cons is_ascii_digit byte rest ∙ cond-true (is_ascii_digit byte) (byte ∷ take_while is_ascii_digit rest) [] is

no_digit_next : (byte : ℕ) (rest : List ℕ) → is_ascii_digit byte ≡ false → take_while is_ascii_digit (byte ∷ rest) ≡ []
no_digit_next byte rest is = take_while-cons is_ascii_digit byte rest ∙ cond-false (is_ascii_digit byte) (byte ∷ take_while is_ascii_digit rest) [] is

pub digits_more : (text : List ℕ) (at : ℕ) → at < length text → is_ascii_digit (get_or text at 0) ≡ true → AreDigitsUpTo text at → AreDigitsUpTo text (at + 1)
digits_more text at within is before =
    let byte = get_or text at 0 in
    let rest = drop (at + 1) text in
    before
    ∙ ap (λ (t : List ℕ). take at text ++ take_while is_ascii_digit t) (drop_more text at 0 within)
    ∙ ap (λ (t : List ℕ). take at text ++ t) (digit_next byte rest is)
    ∙ sym (append_assoc (take at text) (byte ∷ []) (take_while is_ascii_digit rest))
    ∙ ap (λ (t : List ℕ). t ++ take_while is_ascii_digit rest) (sym (take_more text at 0 within))

pub digits_end : (text : List ℕ) (at : ℕ) → at < length text → is_ascii_digit (get_or text at 0) ≡ false → AreDigitsUpTo text at → take at text ≡ take_while is_ascii_digit text
digits_end text at within none before =
    sym (before
    ∙ ap (λ (t : List ℕ). take at text ++ take_while is_ascii_digit t) (drop_more text at 0 within)
    ∙ ap (λ (t : List ℕ). take at text ++ t) (no_digit_next (get_or text at 0) (drop (at + 1) text) none)
    ∙ append-nil (take at text))

pub all_digits : (text : List ℕ) (at : ℕ) → at ≡ length text → AreDigitsUpTo text at → text ≡ take_while is_ascii_digit text
all_digits text at end before =
    sym (before
    ∙ ap (λ (n : ℕ). take n text ++ take_while is_ascii_digit (drop n text)) end
    ∙ ap (λ (t : List ℕ). take (length text) text ++ take_while is_ascii_digit t) (drop-length text)
    ∙ append-nil (take (length text) text)
    ∙ take-length text)

digit_or_none : (byte : ℕ) (text : List ℕ) (test : Bool) → is_ascii_digit byte ≡ test → list_all is_ascii_digit (take_while is_ascii_digit text) ≡ true → list_all is_ascii_digit (take_while is_ascii_digit (byte ∷ text)) ≡ true
digit_or_none byte text true is all = ap (list_all is_ascii_digit) (digit_next byte text is) ∙ and_from (is_ascii_digit byte) (list_all is_ascii_digit (take_while is_ascii_digit text)) is all
digit_or_none byte text false is all = ap (list_all is_ascii_digit) (no_digit_next byte text is)

-- they are digits
pub list_all-take_while : (text : List ℕ) → list_all is_ascii_digit (take_while is_ascii_digit text) ≡ true
list_all-take_while [] = refl
list_all-take_while (byte ∷ text) = digit_or_none byte text (is_ascii_digit byte) refl (list_all-take_while text)

-- ---- their value

digit_at : (digits : List ℕ) (i : ℕ) → i < length digits → list_all is_ascii_digit digits ≡ true → is_ascii_digit (get_or digits i 0) ≡ true
digit_at [] i within all = absurd (omega arith)
digit_at (d ∷ digits) zero within all = (and_parts (is_ascii_digit d) (list_all is_ascii_digit digits) all).0
digit_at (d ∷ digits) (suc i) within all =
    let more : suc i < suc (length digits) = within in
    digit_at digits i (omega arith) (and_parts (is_ascii_digit d) (list_all is_ascii_digit digits) all).1

pub record IsDigit (d : ℕ) : Type 0 where
  pub low : 48 ≤ d
  pub high : d ≤ 57
  pub value : digit_value d + 48 ≡ d

pub is_digit_at : (digits : List ℕ) (i : ℕ) → i < length digits → list_all is_ascii_digit digits ≡ true → IsDigit (get_or digits i 0)
is_digit_at digits i within all =
    let d = get_or digits i 0 in
    let tests = and_parts (leb 48 d) (leb d 57) (digit_at digits i within all) in
    let low = leb-true 48 d tests.0 in
    let high = leb-true d 57 tests.1 in
    record { low = low; high = high; value = digit_value_digit d (low, high) }

pub capped_small : (n : ℕ) → capped n ≤ 2 ^ 32
capped_small n = elim (cases_lt n (2 ^ 32)) [
  | inl less ↦ rw (min-eq_right {n = n} {m = 2 ^ 32} (omega arith)) (omega arith)
  | inr more ↦ rw (min-eq_left {n = 2 ^ 32} {m = n} more) (omega arith)
]

capped_on : (n d : ℕ) → capped (capped n * 10 + d) ≡ capped (n * 10 + d)
capped_on n d = elim (cases_lt n (2 ^ 32)) [
  | inl less ↦ ap (λ (k : ℕ). capped (k * 10 + d)) (min-eq_right {n = n} {m = 2 ^ 32} (omega arith))
  | inr more ↦
      ap (λ (k : ℕ). capped (k * 10 + d)) (min-eq_left {n = 2 ^ 32} {m = n} more)
      ∙ min-eq_left {n = 2 ^ 32} {m = 2 ^ 32 * 10 + d} (omega arith)
      ∙ sym (min-eq_left {n = 2 ^ 32} {m = n * 10 + d} (omega arith))
]

-- one digit more
pub value_more : (digits : List ℕ) (i value : ℕ) → i < length digits → list_all is_ascii_digit digits ≡ true → value ≡ capped (digits_value 10 (take i digits)) → capped (value * 10 + (get_or digits i 0 - 48)) ≡ capped (digits_value 10 (take (i + 1) digits))
value_more digits i value within all is =
    let d = get_or digits i 0 in
    let digit = is_digit_at digits i within all in
    let same : d - 48 ≡ digit_value d = let v = digit.value in omega arith in
    let whole = digits_value 10 (take i digits) in
    ap (λ (k : ℕ). capped (k * 10 + (d - 48))) is
    ∙ capped_on whole (d - 48)
    ∙ ap (λ (k : ℕ). capped (whole * 10 + k)) same
    ∙ ap capped (sym (digits_value_more 10 digits i within))

-- no digits, or more than one with a leading zero, are no number
pub no_digits : (digits : List ℕ) → length digits ≡ 0 → decimal_number digits ≡ None
no_digits [] none = refl
no_digits (d ∷ digits) none = let some : suc (length digits) ≡ 0 = none in absurd (omega arith)

pub leading_zero : (digits : List ℕ) → 1 < length digits → get_or digits 0 0 ≡ 48 → decimal_number digits ≡ None
leading_zero [] some first = absurd (omega arith)
leading_zero (d ∷ []) some first = let one : 1 < 1 = some in absurd (omega arith)
leading_zero (d ∷ e ∷ digits) some first = cond-true (d == 48) None (Some (digits_value 10 (d ∷ e ∷ digits))) (eq-eqb d 48 first)
