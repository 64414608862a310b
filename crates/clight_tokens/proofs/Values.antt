-- The value of the digits of a constant.
use Rattle.std.proofs.Common.{◌≡◌, ◌≤◌, ◌<◌, ◌+◌, ◌*◌, ℕ, Bool, true, false, List, [], ◌∷◌, map, drop, length, get_or, refl, sym, ap, subst, ◌∙◌, arith, drop-cons, add-one}
use Rattle.std.proofs.lemmas.List.{drop_all, length-map}
use Rattle.std.specs.Prelude.{◌&&◌, nat_lt, nat_le, fold, cond, Option, Some, None}
use Rattle.std.specs.List.{list_all}
use Rattle.std.proofs.lemmas.Bool.Decides.{nat_tests}
use Rattle.clight_source.specs.declared.symbol.Radix.{Radix}
use Rattle.clight_source.specs.declared.symbol.Radix.TheVariants as x
use Rattle.clight_source.specs.declared.symbol.Literal.{Literal}
use Rattle.clight_tokens.specs.Constants.{base, digit_value, number_in, is_constant, is_unsigned, without_suffix, radix_of, digits_of, constant_with, constant_of}

-- the value of the digits behind others that have the value n
abbrev pub number_from : ℕ → ℕ → List ℕ → ℕ
number_from b n digits = fold (λ m digit. m * b + digit) n digits

abbrev pub are_digits : Radix → List ℕ → Bool
are_digits radix digits = list_all (λ d. nat_lt d (base radix)) digits

grows : (radix : Radix) (n d : ℕ) → n ≤ n * base radix + d
grows x.Decimal n d = omega arith
grows x.Octal n d = omega arith
grows x.Hexadecimal n d = omega arith

pub number_grows : (radix : Radix) (n : ℕ) (digits : List ℕ) → n ≤ number_from (base radix) n digits
number_grows radix n [] = omega arith
number_grows radix n (d ∷ digits) =
    let a = grows radix n d in
    let b = number_grows radix (n * base radix + d) digits in omega arith

pub no_digits : (radix : Radix) (digits : List ℕ) → length digits ≡ 0 → is_constant radix digits ≡ false
no_digits radix [] h = refl
no_digits radix (d ∷ digits) h = absurd (omega arith)

false_right : (a b : Bool) → b ≡ false → (a && b) ≡ false
false_right true b h = h
false_right false b h = refl

false_left : (a b : Bool) → a ≡ false → (a && b) ≡ false
false_left a b h = rw h refl

pub no_digit : (radix : Radix) (digits : List ℕ) → are_digits radix digits ≡ false → is_constant radix digits ≡ false
no_digit radix digits h = false_right _ _ (false_left _ _ h)

above : (n : ℕ) → 65535 < n → nat_le n 65535 ≡ false
above n h = grind (arith, nat_tests)

pub too_large : (radix : Radix) (digits : List ℕ) → 65535 < number_in (base radix) digits → is_constant radix digits ≡ false
too_large radix digits h = false_right _ _ (false_right _ _ (above _ h))

some : (n : ℕ) → 0 < n → nat_lt 0 n ≡ true
some n h = grind (arith, nat_tests)

below : (n : ℕ) → n ≤ 65535 → nat_le n 65535 ≡ true
below n h = grind (arith, nat_tests)

pub is_one : (radix : Radix) (digits : List ℕ) → 0 < length digits → are_digits radix digits ≡ true → number_in (base radix) digits ≤ 65535 → is_constant radix digits ≡ true
is_one radix digits h a b = rw (some _ h, a, below _ b) refl

-- ---- the loop

-- what the loop over the digits keeps: what it found at the first i of them, and what is left
pub record Reads (radix : Radix) (digits : List ℕ) (i n : ℕ) : Type 0 where
  pub small : n ≤ 65535
  pub value : number_from (base radix) n (map digit_value (drop i digits)) ≡ number_in (base radix) (map digit_value digits)
  pub all : are_digits radix (map digit_value (drop i digits)) ≡ are_digits radix (map digit_value digits)

front : (s : List ℕ) (i : ℕ) → i < length s → map digit_value (drop i s) ≡ digit_value (get_or s i 0) ∷ map digit_value (drop (i + 1) s)
front s i h = rw (add-one, drop-cons s i 0 h) refl

all_front : (p : ℕ → Bool) (d : ℕ) (digits : List ℕ) (v : Bool) → (p d && list_all p digits) ≡ v → p d ≡ true → list_all p digits ≡ v
all_front p d digits v e h = let g = rw h at e in g

pub begun : (radix : Radix) (s : List ℕ) → Reads radix s 0 0
begun radix s = record { small = omega arith; value = refl; all = refl }

pub goes_on : (radix : Radix) (s : List ℕ) (i n : ℕ) → i < length s → Reads radix s i n → nat_lt (digit_value (get_or s i 0)) (base radix) ≡ true → n * base radix + digit_value (get_or s i 0) ≤ 65535 → Reads radix s (i + 1) (n * base radix + digit_value (get_or s i 0))
goes_on radix s i n h r d b =
    let e = front s i h in
    record {
      small = b;
      value = sym (ap (number_from (base radix) n) e) ∙ r.value;
      all = all_front (λ x. nat_lt x (base radix)) (digit_value (get_or s i 0)) (map digit_value (drop (i + 1) s)) _ (sym (ap (are_digits radix) e) ∙ r.all) d;
    }

pub stops_wrong : (radix : Radix) (s : List ℕ) (i n : ℕ) → i < length s → Reads radix s i n → nat_lt (digit_value (get_or s i 0)) (base radix) ≡ false → is_constant radix (map digit_value s) ≡ false
stops_wrong radix s i n h r d = no_digit radix (map digit_value s) (sym r.all ∙ (ap (are_digits radix) (front s i h) ∙ false_left _ _ d))

larger : (a b c : ℕ) → 65535 < a → a ≤ b → c ≡ b → 65535 < c
larger a b c h g e = omega arith

pub stops_large : (radix : Radix) (s : List ℕ) (i n : ℕ) → i < length s → Reads radix s i n → 65535 < n * base radix + digit_value (get_or s i 0) → is_constant radix (map digit_value s) ≡ false
stops_large radix s i n h r d =
    too_large radix (map digit_value s)
    (larger _ _ _ d (number_grows radix (n * base radix + digit_value (get_or s i 0)) (map digit_value (drop (i + 1) s))) (sym r.value ∙ ap (number_from (base radix) n) (front s i h)))

at_last : (radix : Radix) (s : List ℕ) (i n : ℕ) → length s ≤ i → Reads radix s i n → (n ≡ number_in (base radix) (map digit_value s)) × (are_digits radix (map digit_value s) ≡ true)
at_last radix s i n h r =
    let e : drop i s ≡ [] = drop_all i s h in
    let v = rw e at r.value in
    let a = rw e at r.all in (v, sym a)

-- the value at the end of the digits is the constant's
pub ends : (radix : Radix) (s : List ℕ) (i n : ℕ) → 0 < length s → length s ≤ i → Reads radix s i n → (is_constant radix (map digit_value s) ≡ true) × (n ≡ number_in (base radix) (map digit_value s))
ends radix s i n some h r =
    let l = at_last radix s i n h r in
    let small : number_in (base radix) (map digit_value s) ≤ 65535 = subst (λ (x : ℕ). x ≤ 65535) l.0 r.small in
    (is_one radix (map digit_value s) (rw length-map some) l.1 small, l.0)

-- ---- in the words of the code

below_base : (d b : ℕ) → d < b → nat_lt d b ≡ true
below_base d b h = grind (arith, nat_tests)

pub next_value : (radix : Radix) (s : List ℕ) (i n b d : ℕ) → i < length s → Reads radix s i n → b ≡ base radix → d ≡ digit_value (get_or s i 0) → d < b → n * b + d ≤ 65535 → Reads radix s (i + 1) (n * b + d)
next_value radix s i n b d h r eb ed below small =
    let in_radix : nat_lt (digit_value (get_or s i 0)) (base radix) ≡ true = below_base _ _ (subst (λ (y : ℕ). digit_value (get_or s i 0) < y) eb (subst (λ (x : ℕ). x < b) ed below)) in
    let fits : n * base radix + digit_value (get_or s i 0) ≤ 65535 = subst (λ (y : ℕ). n * y + digit_value (get_or s i 0) ≤ 65535) eb (subst (λ (x : ℕ). n * b + x ≤ 65535) ed small) in
    subst (λ (y : ℕ). Reads radix s (i + 1) (n * y + d)) (sym eb) (subst (λ (x : ℕ). Reads radix s (i + 1) (n * base radix + x)) (sym ed) (goes_on radix s i n h r in_radix fits))

pub large_value : (radix : Radix) (s : List ℕ) (i n b d : ℕ) → i < length s → Reads radix s i n → b ≡ base radix → d ≡ digit_value (get_or s i 0) → 65535 < n * b + d → is_constant radix (map digit_value s) ≡ false
large_value radix s i n b d h r eb ed large =
    stops_large radix s i n h r (subst (λ (y : ℕ). 65535 < n * y + digit_value (get_or s i 0)) eb (subst (λ (x : ℕ). 65535 < n * b + x) ed large))

-- the parts of a text that the code finds
pub record Parts (text : List ℕ) (radix : Radix) (body digits : List ℕ) : Type 0 where
  pub body_is : body ≡ without_suffix text
  pub radix_is : radix ≡ radix_of body
  pub digits_are : digits ≡ digits_of radix body

parts_of : (text : List ℕ) (radix : Radix) (body digits : List ℕ) → Parts text radix body digits → constant_of text ≡ constant_with radix (map digit_value digits) (is_unsigned text)
unfolding constant_of
parts_of text radix body digits p = rw (p.digits_are, p.radix_is, p.body_is) refl

pub no_constant : (text : List ℕ) (radix : Radix) (body digits : List ℕ) → Parts text radix body digits → is_constant radix (map digit_value digits) ≡ false → None ≡ constant_of text
no_constant text radix body digits p h = sym (parts_of text radix body digits p ∙ none _ (is_constant radix (map digit_value digits)) h)
  where
    none : {X : Type 0} (x : X) (v : Bool) → v ≡ false → cond v (Some x) None ≡ None
    none x v e = rw e refl

pub the_constant : (text : List ℕ) (radix : Radix) (body digits : List ℕ) (value : ℕ) (unsigned : Bool) → Parts text radix body digits → is_constant radix (map digit_value digits) ≡ true → value ≡ number_in (base radix) (map digit_value digits) → unsigned ≡ is_unsigned text → ◌≡◌ {A = Option Literal} (Some (record { value = value; radix = radix; unsigned = unsigned })) (constant_of text)
the_constant text radix body digits value unsigned p h v u = rw (v, u) (sym (parts_of text radix body digits p ∙ some_of _ (is_constant radix (map digit_value digits)) h))
  where
    some_of : {X : Type 0} (x : X) (v : Bool) → v ≡ true → cond v (Some x) None ≡ Some x
    some_of x v e = rw e refl
