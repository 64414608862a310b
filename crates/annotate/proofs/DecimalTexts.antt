-- The decimal numbers in the text of an annotation: they are read back, and have no `/`.
use Rattle.std.proofs.Common.{◌≡◌, ℕ, zero, suc, ◌+◌, ◌/◌, ◌%◌, ◌^◌, ◌<◌, ◌==◌, true, false, eqb, leb, ltb, lit<, List, [], ◌∷◌, ◌++◌, length, get_or, decimal, codes, Some, None, option_to_list, take_while, refl, ap, ◌∙◌, inl, inr, arith}
use Rattle.std.specs.Fmt.{digits, digits_onto, digit_glyph}
use Rattle.std.specs.Char.{is_ascii_digit}
use Rattle.std.specs.List.{list_all, list_any, starts_with}
use Rattle.std.specs.Prelude.{nat_eq}
use Rattle.std.specs.Str.Parse.{digits_value}
use Rattle.std.proofs.lemmas.Bool.{lt-ltb, le-leb, ne_eqb, and_parts, and_from, or_from, and_left, cond_both, cond-true, cond-false, both_ways, cases_eq}
use Rattle.std.proofs.lemmas.Fmt.{decimal_digit, decimal_is_IsNumeral, first_decimal}
use Rattle.std.proofs.lemmas.List.Sums.{take_while-cons}
use Rattle.annotate.specs.Numbers.{decimal_number, leading_number, leading_cost, numbers_in}

-- ---- a decimal text has digits alone

is_ascii_digit-digit_glyph : (d : ℕ) → d < 10 → is_ascii_digit (digit_glyph false d) ≡ true
is_ascii_digit-digit_glyph d small =
    ap is_ascii_digit (cond-true (ltb d 10) (48 + d) (87 + d) (lt-ltb d 10 small))
    ∙ and_from (leb 48 (48 + d)) (leb (48 + d) 57) (le-leb 48 (48 + d) (omega arith)) (le-leb (48 + d) 57 (omega arith))

list_all-digits_onto : (k n : ℕ) (behind : List ℕ) → list_all is_ascii_digit behind ≡ true → list_all is_ascii_digit (digits_onto k 10 false n behind) ≡ true
list_all-digits_onto zero n behind all = all
list_all-digits_onto (suc k) n behind all =
    let digit = digit_glyph false (n % 10) in
    let more : list_all is_ascii_digit (digit ∷ behind) ≡ true = and_from (is_ascii_digit digit) (list_all is_ascii_digit behind) (is_ascii_digit-digit_glyph (n % 10) (omega arith)) all in
    cond_both (n / 10 == 0) (digit ∷ behind) (digits_onto k 10 false (n / 10) (digit ∷ behind)) (λ t. list_all is_ascii_digit t ≡ true)
    (λ _. more) (λ _. list_all-digits_onto k (n / 10) (digit ∷ behind) more)

pub list_all-decimal : (n : ℕ) → list_all is_ascii_digit (decimal n) ≡ true
unfolding digits
list_all-decimal n = list_all-digits_onto 64 n [] refl

-- digits are no other byte
other_byte : (digit byte : ℕ) → is_ascii_digit digit ≡ true → is_ascii_digit byte ≡ false → eqb byte digit ≡ false
other_byte digit byte is none = ne_eqb byte digit (λ e. absurd (both_ways (is_ascii_digit byte) none (ap is_ascii_digit e ∙ is)))

pub list_any-digits : (byte : ℕ) (ds : List ℕ) → is_ascii_digit byte ≡ false → list_all is_ascii_digit ds ≡ true → list_any (nat_eq byte) ds ≡ false
list_any-digits byte [] none all = refl
list_any-digits byte (d ∷ ds) none all =
    let tests = and_parts (is_ascii_digit d) (list_all is_ascii_digit ds) all in
    or_from (eqb byte d) (list_any (nat_eq byte) ds) (other_byte d byte tests.0 none) (list_any-digits byte ds none tests.1)

-- ---- a decimal text is read back

-- a text that doesn't begin with a digit
abbrev pub EndsNumber : List ℕ → Type 0
EndsNumber [] = Unit {0}
EndsNumber (byte ∷ rest) = is_ascii_digit byte ≡ false

take_while-digits : (ds rest : List ℕ) → list_all is_ascii_digit ds ≡ true → EndsNumber rest → take_while is_ascii_digit (ds ++ rest) ≡ ds
take_while-digits [] [] all ends = refl
take_while-digits [] (byte ∷ rest) all ends =
    take_while-cons is_ascii_digit byte rest ∙ cond-false (is_ascii_digit byte) (byte ∷ take_while is_ascii_digit rest) [] ends
take_while-digits (d ∷ ds) rest all ends =
    let tests = and_parts (is_ascii_digit d) (list_all is_ascii_digit ds) all in
    take_while-cons is_ascii_digit d (ds ++ rest)
    ∙ cond-true (is_ascii_digit d) (d ∷ take_while is_ascii_digit (ds ++ rest)) [] tests.0
    ∙ ap (λ t. d ∷ t) (take_while-digits ds rest tests.1 ends)

-- digits that are one alone or begin with no 0 are a number
pub decimal_number-digits : (ds : List ℕ) → 0 < length ds → (get_or ds 0 0 ≡ 48 → length ds ≡ 1) → decimal_number ds ≡ Some (digits_value 10 ds)
decimal_number-digits [] some first = absurd (omega arith)
decimal_number-digits (d ∷ []) some first = refl
decimal_number-digits (d ∷ e ∷ ds) some first =
    cond-false (d == 48) None (Some (digits_value 10 (d ∷ e ∷ ds))) (ne_eqb d 48 (λ zero_first. let alone : suc (suc (length ds)) ≡ 1 = first zero_first in absurd (omega arith)))

decimal_number-decimal : (n : ℕ) → n < 2 ^ 64 → decimal_number (decimal n) ≡ Some n
decimal_number-decimal n fits = elim (cases_eq n 0) as (λ _. decimal_number (decimal n) ≡ Some n) [
  | inl none ↦ rw none (ap decimal_number (decimal_digit 0 (lit< tt)))
  | inr some ↦
      let is = decimal_is_IsNumeral n fits in
      let first = first_decimal n (omega arith) fits in
      decimal_number-digits (decimal n) is.0.0 (λ e. absurd (omega arith)) ∙ ap Some is.1
]

pub leading_number-decimal : (n : ℕ) (rest : List ℕ) → n < 2 ^ 64 → EndsNumber rest → leading_number (decimal n ++ rest) ≡ Some n
leading_number-decimal n rest fits ends = ap decimal_number (take_while-digits (decimal n) rest (list_all-decimal n) ends) ∙ decimal_number-decimal n fits

-- ---- the numbers of a part

-- a text that begins with another byte than `_` doesn't begin with a cost
leading_cost-other : (byte : ℕ) (text : List ℕ) → eqb 95 byte ≡ false → leading_cost (byte ∷ text) ≡ None
leading_cost-other byte text other =
    cond-false (starts_with nat_eq (byte ∷ text) (codes "__cost=")) _ _ (and_left (eqb 95 byte) _ other)
    ∙ cond-false (starts_with nat_eq (byte ∷ text) (codes "__cost+=")) _ None (and_left (eqb 95 byte) _ other)

-- a digit is no part of a cost's name
numbers_in-digits : (ds rest : List ℕ) → list_all is_ascii_digit ds ≡ true → numbers_in (ds ++ rest) ≡ numbers_in rest
numbers_in-digits [] rest all = refl
numbers_in-digits (d ∷ ds) rest all =
    let tests = and_parts (is_ascii_digit d) (list_all is_ascii_digit ds) all in
    ap (λ found. option_to_list found ++ numbers_in (ds ++ rest)) (leading_cost-other d (ds ++ rest) (other_byte d 95 tests.0 refl))
    ∙ numbers_in-digits ds rest tests.1

-- the number is read, and then the numbers of the rest
read_on : (n : ℕ) (rest : List ℕ) → n < 2 ^ 64 → EndsNumber rest → option_to_list (leading_number (decimal n ++ rest)) ++ numbers_in (decimal n ++ rest) ≡ n ∷ numbers_in rest
read_on n rest fits ends =
    ap (λ found. option_to_list found ++ numbers_in (decimal n ++ rest)) (leading_number-decimal n rest fits ends)
    ∙ ap (λ ns. n ∷ ns) (numbers_in-digits (decimal n) rest (list_all-decimal n))

-- what `__cost=` and a number, and more, have as numbers
pub numbers_in-set : (n : ℕ) (rest : List ℕ) → n < 2 ^ 64 → EndsNumber rest → numbers_in (codes "__cost=" ++ (decimal n ++ rest)) ≡ n ∷ numbers_in rest
numbers_in-set n rest fits ends = read_on n rest fits ends

-- what `__cost+=` and a number, and more, have as numbers
pub numbers_in-added : (n : ℕ) (rest : List ℕ) → n < 2 ^ 64 → EndsNumber rest → numbers_in (codes "__cost+=" ++ (decimal n ++ rest)) ≡ n ∷ numbers_in rest
numbers_in-added n rest fits ends = read_on n rest fits ends
