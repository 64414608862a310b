-- Decimal numbers as constants of C: what their texts stand for.
use Rattle.std.proofs.Common.{◌≡◌, ℕ, ◌+◌, ◌-◌, ◌*◌, ◌/◌, ◌%◌, ◌<◌, ◌≤◌, ◌==◌, Bool, true, false, lit<, List, [], ◌∷◌, ◌++◌, map, take, length, get_or, decimal, Some, refl, sym, ap, ◌∙◌, inl, inr, arith}
use Rattle.std.specs.Prelude.{◌||◌, nat_lt}
use Rattle.std.specs.List.{list_all}
use Rattle.std.proofs.lemmas.Bool.{cases_eq, ne_eqb, cond-true, le-leb, lt-ltb, and_from, or_from, and_parts}
use Rattle.std.proofs.lemmas.List.{map_push, length_push, get_or_push, take_at}
use Rattle.std.proofs.lemmas.List.Sums.{fold_push}
use Rattle.std.proofs.lemmas.Fmt.{decimal_by_steps, decimal_digit, first_decimal}
use Rattle.clight_source.specs.declared.symbol.Radix.TheVariants.{Decimal}
use Rattle.clight_source.specs.declared.symbol.Literal.{Literal}
use Rattle.clight_tokens.specs.Lexemes.{is_digit, is_word_byte, is_letter}
use Rattle.clight_tokens.specs.Constants.{digit_value, number_in, is_constant, is_unsigned, without_suffix, radix_of, constant_of}
use Rattle.clight_tokens.proofs.Values.{the_constant, is_one}

abbrev pub literal : ℕ → Bool → Literal
literal n unsigned = record { value = n; radix = Decimal; unsigned = unsigned }

digit-of : (d : ℕ) → d < 10 → is_digit (48 + d) ≡ true
digit-of d h = and_from _ _ (le-leb 48 (48 + d) (omega arith)) (le-leb (48 + d) 57 (omega arith))

value-of : (d : ℕ) → d < 10 → digit_value (48 + d) ≡ d
value-of d h = cond-true (is_digit (48 + d)) _ _ (digit-of d h) ∙ (omega arith)

pub last-of : (xs : List ℕ) (y : ℕ) → get_or (xs ++ y ∷ []) (length (xs ++ y ∷ []) - 1) 0 ≡ y
last-of xs y = let l = length_push xs y in get_or_push xs y 0 (length (xs ++ y ∷ []) - 1) (omega arith)

unsigned-of : (xs : List ℕ) (y : ℕ) → is_unsigned (xs ++ y ∷ []) ≡ (y == 117 || y == 85)
unsigned-of xs y = ap (λ (z : ℕ). z == 117 || z == 85) (last-of xs y)

no-suffix : (d : ℕ) → d < 10 → (48 + d == 117 || 48 + d == 85) ≡ false
no-suffix d h = or_from _ _ (ne_eqb (48 + d) 117 (λ e. absurd (omega arith))) (ne_eqb (48 + d) 85 (λ e. absurd (omega arith)))

-- what the digits of a number are
pub record AreDigits (n : ℕ) (ds : List ℕ) : Type 0 where
  pub value : number_in 10 (map digit_value ds) ≡ n
  pub below : list_all (λ d. nat_lt d 10) (map digit_value ds) ≡ true
  pub digits : list_all is_digit ds ≡ true
  pub some : 0 < length ds
  pub no_suffix : is_unsigned ds ≡ false

all-push : (p : ℕ → Bool) (xs : List ℕ) (x : ℕ) → list_all p xs ≡ true → p x ≡ true → list_all p (xs ++ x ∷ []) ≡ true
all-push p [] x a h = and_from (p x) true h refl
all-push p (y ∷ xs) x a h = let b = and_parts (p y) (list_all p xs) a in and_from (p y) _ b.0 (all-push p xs x b.1 h)

one-digit : (n : ℕ) → n < 10 → AreDigits n ((48 + n) ∷ [])
one-digit n h =
    let v = value-of n h in
    record {
      value = let z : 0 * 10 + digit_value (48 + n) ≡ n = omega arith in z;
      below = and_from _ true (lt-ltb (digit_value (48 + n)) 10 (omega arith)) refl;
      digits = and_from _ true (digit-of n h) refl;
      some = omega arith;
      no_suffix = no-suffix n h;
    }

more-digits : (n : ℕ) (ds : List ℕ) → 10 ≤ n → AreDigits (n / 10) ds → AreDigits n (ds ++ (48 + n % 10) ∷ [])
more-digits n ds h a =
    let small : n % 10 < 10 = omega arith in
    let v = value-of (n % 10) small in
    let m = map_push digit_value ds (48 + n % 10) in
    record {
      value =
          ap (number_in 10) m ∙ (fold_push (λ (k digit : ℕ). k * 10 + digit) 0 (map digit_value ds) (digit_value (48 + n % 10)) ∙ last-step (number_in 10 (map digit_value ds)) (digit_value (48 + n % 10)) a.value v);
      below = ap (list_all (λ d. nat_lt d 10)) m ∙ all-push (λ d. nat_lt d 10) (map digit_value ds) (digit_value (48 + n % 10)) a.below (lt-ltb (digit_value (48 + n % 10)) 10 (omega arith));
      digits = all-push is_digit ds (48 + n % 10) a.digits (digit-of (n % 10) small);
      some = let l = length_push ds (48 + n % 10) in omega arith;
      no_suffix = unsigned-of ds (48 + n % 10) ∙ no-suffix (n % 10) small;
    }
  where
    last-step : (x y : ℕ) → x ≡ n / 10 → y ≡ n % 10 → x * 10 + y ≡ n
    last-step x y e f = omega arith

pub decimal-digits : (n : ℕ) → n ≤ 65535 → AreDigits n (decimal n)
decimal-digits n h = decimal_by_steps AreDigits one-digit more-digits n (omega arith)

decimal-radix : (n : ℕ) → n ≤ 65535 → Decimal ≡ radix_of (decimal n)
decimal-radix n h =
    elim (cases_eq n 0) as (λ _. Decimal ≡ radix_of (decimal n)) [
      | inl none ↦ rw none (sym (ap radix_of (decimal_digit 0 (lit< tt))))
      | inr some ↦ by (decimal n) (first_decimal n (omega arith) (omega arith))
    ]
  where
    by : (ds : List ℕ) → 48 < get_or ds 0 0 → Decimal ≡ radix_of ds
    by [] lt = refl
    by (a ∷ []) lt = refl
    by (a ∷ b ∷ ds) lt = rw (ne_eqb a 48 (λ e. absurd (omega arith))) refl

constant-digits : (n : ℕ) (ds : List ℕ) → n ≤ 65535 → AreDigits n ds → is_constant Decimal (map digit_value ds) ≡ true
constant-digits n ds h a = is_one Decimal (map digit_value ds) (mapped ds a.some) a.below (let e = a.value in omega arith)
  where
    mapped : (xs : List ℕ) → 0 < length xs → 0 < length (map digit_value xs)
    mapped [] lt = lt
    mapped (x ∷ xs) lt = omega arith

pub plain-constant : (n : ℕ) → n ≤ 65535 → constant_of (decimal n) ≡ Some (literal n false)
plain-constant n h =
    let a = decimal-digits n h in
    sym (the_constant (decimal n) Decimal (decimal n) (decimal n) n false
    (record { body_is = rw a.no_suffix refl; radix_is = decimal-radix n h; digits_are = refl })
    (constant-digits n (decimal n) h a) (sym a.value) (sym a.no_suffix))

pub unsigned-constant : (n : ℕ) → n ≤ 65535 → constant_of (decimal n ++ 117 ∷ []) ≡ Some (literal n true)
unsigned-constant n h =
    let a = decimal-digits n h in
    let u : is_unsigned (decimal n ++ 117 ∷ []) ≡ true = unsigned-of (decimal n) 117 in
    let l = length_push (decimal n) 117 in
    let body : decimal n ≡ without_suffix (decimal n ++ 117 ∷ []) =
    sym (cond-true (is_unsigned (decimal n ++ 117 ∷ [])) (take (length (decimal n ++ 117 ∷ []) - 1) (decimal n ++ 117 ∷ [])) (decimal n ++ 117 ∷ []) u ∙ take_at (decimal n) (117 ∷ []) (length (decimal n ++ 117 ∷ []) - 1) (omega arith))
    in
    sym (the_constant (decimal n ++ 117 ∷ []) Decimal (decimal n) (decimal n) n true
    (record { body_is = body; radix_is = decimal-radix n h; digits_are = refl })
    (constant-digits n (decimal n) h a) (sym a.value) (sym u))

-- ---- bytes of words

pub digit-word : (d : ℕ) → is_digit d ≡ true → is_word_byte d ≡ true
digit-word d h = rw h (by (is_letter d))
  where
    by : (v : Bool) → (v || true) ≡ true
    by true = refl
    by false = refl

pub all-words : (ds : List ℕ) → list_all is_digit ds ≡ true → list_all is_word_byte ds ≡ true
all-words [] a = refl
all-words (d ∷ ds) a = let b = and_parts (is_digit d) (list_all is_digit ds) a in and_from (is_word_byte d) _ (digit-word d b.0) (all-words ds b.1)
