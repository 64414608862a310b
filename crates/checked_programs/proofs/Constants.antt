-- Constants fit their types, and integers that step over elements do so as a compiler wants it.
use Rattle.std.proofs.Common.{◌≡◌, ℕ, suc, ◌+◌, ◌^◌, ◌<◌, ◌≤◌, ◌⊎◌, Bool, true, false, not, IsTrue, ◌&&◌, ◌||◌, List, [], ◌∷◌, length, Option, Some, None, refl, sym, subst, ◌∙◌, inl, inr, arith}
use Rattle.std.specs.Prelude.{nat_lt, nat_le, nat_eq, if◌then◌else◌}
use Rattle.std.specs.List.{list_any}
use Rattle.std.proofs.lemmas.Bool.{false≢true, and_parts, or_cases, ltb-true, leb-true, eqb-true}
use Rattle.std.proofs.lemmas.Option.{none-some, same_Some}
use Rattle.clight_source.specs.declared.symbol.Literal.{Literal}
use Rattle.clight_source.specs.declared.symbol.Radix.{Radix}
use Rattle.clight_source.specs.declared.symbol.Radix.TheVariants.{Decimal, Octal, Hexadecimal}
use Rattle.c_types.specs.Types.{CType, type_eq}
use Rattle.c_types.specs.Kinds.{is_integer, is_four_bytes, value_type}
use Rattle.c_types.specs.Conversions.{int, unsigned_int, long, unsigned_long, unsigned_char, has_value, first_with_value}
use Rattle.clight_syntax.specs.LiteralTypes.{literal_type, candidates}
use Rattle.clight_syntax.specs.TypedTrees.{Expr, Variable, Number, Parenthesis, Binary, Prefix, Cast, Index, Select, type_at}
use Rattle.clight_types.specs.Operands.{number_of, operand, powers, is_power, is_number, steps_over}
use Rattle.clight_types.specs.Scopes.{Scope}
use Rattle.clight_types.specs.Expressions.{HasType}
use Rattle.clight_programs.specs.Numbers.{as_number}
use Rattle.clight_programs.specs.Expressions.{IsConstant, StepsOver}
use Rattle.checked_programs.proofs.KnownTypes.{is_known, short_integer, is_unsigned_char}

-- ---- the types of constants

-- of the last type, which has four bytes, nothing is asked
long_ones : (radix : Bool) (n : ℕ) → is_four_bytes (first_with_value (long ∷ unsigned_long ∷ []) n) ≡ true
long_ones radix n = by (has_value long n) (has_value unsigned_long n)
  where
    by : (a b : Bool) → is_four_bytes (if a then long else if b then unsigned_long else unsigned_long) ≡ true
    by true b = refl
    by false true = refl
    by false false = refl

of_unsigned : (n : ℕ) → IsTrue (not (is_four_bytes (first_with_value (unsigned_int ∷ unsigned_long ∷ []) n))) → IsConstant (first_with_value (unsigned_int ∷ unsigned_long ∷ []) n) n
of_unsigned n = by (nat_lt n 65536) refl (has_value unsigned_long n)
  where
    by : (a : Bool) → nat_lt n 65536 ≡ a → (b : Bool) → IsTrue (not (is_four_bytes (if a then unsigned_int else if b then unsigned_long else unsigned_long))) → IsConstant (if a then unsigned_int else if b then unsigned_long else unsigned_long) n
    by true e b k = inl (refl, ltb-true n 65536 e)
    by false e true k = absurd (false≢true k)
    by false e false k = absurd (false≢true k)

of_decimal : (n : ℕ) → IsTrue (not (is_four_bytes (first_with_value (int ∷ long ∷ []) n))) → IsConstant (first_with_value (int ∷ long ∷ []) n) n
of_decimal n = by (nat_lt n 32768) refl (has_value long n)
  where
    by : (a : Bool) → nat_lt n 32768 ≡ a → (b : Bool) → IsTrue (not (is_four_bytes (if a then int else if b then long else unsigned_long))) → IsConstant (if a then int else if b then long else unsigned_long) n
    by true e b k = inr (refl, ltb-true n 32768 e)
    by false e true k = absurd (false≢true k)
    by false e false k = absurd (false≢true k)

of_other : (n : ℕ) → IsTrue (not (is_four_bytes (first_with_value (int ∷ unsigned_int ∷ long ∷ unsigned_long ∷ []) n))) → IsConstant (first_with_value (int ∷ unsigned_int ∷ long ∷ unsigned_long ∷ []) n) n
of_other n = by (nat_lt n 32768) refl (nat_lt n 65536) refl (has_value long n) (has_value unsigned_long n)
  where
    by : (a : Bool) → nat_lt n 32768 ≡ a → (b : Bool) → nat_lt n 65536 ≡ b → (c d : Bool)
        → IsTrue (not (is_four_bytes (if a then int else if b then unsigned_int else if c then long else if d then unsigned_long else unsigned_long)))
        → IsConstant (if a then int else if b then unsigned_int else if c then long else if d then unsigned_long else unsigned_long) n
    by true e b f c d k = inr (refl, ltb-true n 32768 e)
    by false e true f c d k = inl (refl, ltb-true n 65536 f)
    by false e false f true d k = absurd (false≢true k)
    by false e false f false true k = absurd (false≢true k)
    by false e false f false false k = absurd (false≢true k)

pub literal_constant : (x : Literal) → IsTrue (not (is_four_bytes (literal_type x))) → IsConstant (literal_type x) x.value
literal_constant x k = by x.radix x.unsigned k
  where
    by : (radix : Radix) (unsigned : Bool) → IsTrue (not (is_four_bytes (first_with_value (candidates radix unsigned) x.value))) → IsConstant (first_with_value (candidates radix unsigned) x.value) x.value
    by radix true k = of_unsigned x.value k
    by Decimal false k = of_decimal x.value k
    by Octal false k = of_other x.value k
    by Hexadecimal false k = of_other x.value k

pub constant_known : (n : ℕ) (T : CType) (k : ℕ) → IsConstant T k → IsTrue (is_known n T)
constant_known n T k (inl e) = subst (λ U. IsTrue (is_known n U)) (sym e.0) refl
constant_known n T k (inr e) = subst (λ U. IsTrue (is_known n U)) (sym e.0) refl

-- ---- numbers in parentheses

pub same_number : (e : Expr) → number_of e ≡ as_number e
same_number (Variable T n name) = refl
same_number (Number T number span) = refl
same_number (Parenthesis T left e right) = same_number e
same_number (Binary T l operator at r) = refl
same_number (Prefix T operator at e) = refl
same_number (Cast T left words right e) = refl
same_number (Index T base left index right) = refl
same_number (Select T e operator at member offset) = refl

pub number_constant : (scope : Scope) (e : Expr) (n : ℕ) → HasType scope e → as_number e ≡ Some n → IsConstant (type_at e) n
number_constant scope (Variable T v name) n h is = absurd (none-some n is)
number_constant scope (Number T number span) n h is =
    subst (λ k. IsConstant T k) (same_Some _ _ is) (subst (λ U. IsConstant U number.value) (sym h.0) (literal_constant number (subst (λ U. IsTrue (not (is_four_bytes U))) h.0 h.1)))
number_constant scope (Parenthesis T left e right) n h is = subst (λ U. IsConstant U n) (sym h.1) (number_constant scope e n h.0 is)
number_constant scope (Binary T l operator at r) n h is = absurd (none-some n is)
number_constant scope (Prefix T operator at e) n h is = absurd (none-some n is)
number_constant scope (Cast T left words right e) n h is = absurd (none-some n is)
number_constant scope (Index T base left index right) n h is = absurd (none-some n is)
number_constant scope (Select T e operator at member offset) n h is = absurd (none-some n is)

-- ---- powers of 2

abbrev ArePowers : ℕ → List ℕ → Type 0
ArePowers k [] = Unit {0}
ArePowers k (x ∷ xs) = (2 ^ k ≡ x) × ArePowers (suc k) xs

found_power : (k n : ℕ) (xs : List ℕ) → ArePowers k xs → IsTrue (list_any (λ power. nat_eq power n) xs) → (j : ℕ) × (j < k + length xs) × (2 ^ j ≡ n)
found_power k n [] are is = absurd (false≢true is)
found_power k n (x ∷ xs) are is = by (or_cases _ _ is) (found_power (suc k) n xs are.1)
  where
    by : (nat_eq x n ≡ true) ⊎ (list_any (λ power. nat_eq power n) xs ≡ true) → (IsTrue (list_any (λ power. nat_eq power n) xs) → (j : ℕ) × (j < suc k + length xs) × (2 ^ j ≡ n)) → (j : ℕ) × (j < k + length (x ∷ xs)) × (2 ^ j ≡ n)
    by (inl e) later = (k, omega arith, are.0 ∙ eqb-true x n e)
    by (inr e) later = let f = later e in let lt = f.1 in (f.0, omega arith, f.2)

pub power_is : (n : ℕ) → IsTrue (is_power n) → (k : ℕ) × (k < 16) × (2 ^ k ≡ n)
power_is n is = found_power 0 n powers (refl, (refl, (refl, (refl, (refl, (refl, (refl, (refl, (refl, (refl, (refl, (refl, (refl, (refl, (refl, (refl, tt)))))))))))))))) is

-- ---- steps

pub steps : (scope : Scope) (n bytes : ℕ) (e : Expr) → HasType scope e → IsTrue (is_known n (type_at e)) → IsTrue (steps_over (operand e) bytes) → StepsOver bytes (type_at e) (as_number e)
steps scope n bytes e h k is =
    let parts = and_parts (is_integer (value_type (type_at e))) ((is_power bytes || is_number (operand e)) || (type_eq (value_type (type_at e)) unsigned_char && nat_le bytes 255)) is in
    (short_integer n (type_at e) k parts.0, over (or_cases (is_power bytes || is_number (operand e)) (type_eq (value_type (type_at e)) unsigned_char && nat_le bytes 255) parts.1))
  where
    number : (o : Option ℕ) → as_number e ≡ o → IsTrue (elim o [ Some n ↦ true | None ↦ false ]) → (n : ℕ) × (as_number e ≡ Some n) × IsConstant (type_at e) n
    number (Some m) eq t = (m, eq, number_constant scope e m h eq)
    number None eq t = absurd (false≢true t)

    small : IsTrue (type_eq (value_type (type_at e)) unsigned_char && nat_le bytes 255) → (type_at e ≡ unsigned_char) × (bytes < 256)
    small t =
        let parts = and_parts (type_eq (value_type (type_at e)) unsigned_char) (nat_le bytes 255) t in
        let le : bytes ≤ 255 = leb-true bytes 255 parts.1 in
        (is_unsigned_char (type_at e) parts.0, omega arith)

    first : IsTrue (is_power bytes) ⊎ IsTrue (is_number (operand e)) → ((m : ℕ) × (as_number e ≡ Some m) × IsConstant (type_at e) m) ⊎ ((j : ℕ) × (j < 16) × (2 ^ j ≡ bytes)) ⊎ ((type_at e ≡ unsigned_char) × (bytes < 256))
    first (inl t) = inr (inl (power_is bytes t))
    first (inr t) = inl (number (as_number e) refl (subst (λ (o : Option ℕ). IsTrue (elim o [ Some n ↦ true | None ↦ false ])) (same_number e) t))

    over : IsTrue (is_power bytes || is_number (operand e)) ⊎ IsTrue (type_eq (value_type (type_at e)) unsigned_char && nat_le bytes 255)
        → ((m : ℕ) × (as_number e ≡ Some m) × IsConstant (type_at e) m) ⊎ ((j : ℕ) × (j < 16) × (2 ^ j ≡ bytes)) ⊎ ((type_at e ≡ unsigned_char) × (bytes < 256))
    over (inl t) = first (or_cases (is_power bytes) (is_number (operand e)) t)
    over (inr t) = inr (inr (small t))
