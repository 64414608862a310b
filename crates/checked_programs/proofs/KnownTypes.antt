-- Types of objects: neither they nor what they are made of is `void` or has four bytes, and their structs are among so many.
use Rattle.std.proofs.Common.{◌≡◌, ℕ, ◌≤◌, Bool, true, false, not, IsTrue, refl, arith}
use Rattle.std.specs.Prelude.{nat_lt}
use Rattle.std.proofs.lemmas.Bool.{false≢true, lt-ltb, ltb-true}
use Rattle.c_types.specs.declared.integers.Size.TheVariants.{One, Two, Four}
use Rattle.c_types.specs.Types.{CType, Void, Integer, Pointer, Array, Struct, type_eq}
use Rattle.c_types.specs.Kinds.{is_integer, is_pointer, is_scalar, is_four_bytes, value_type}
use Rattle.c_types.specs.Conversions.{unsigned_char, promoted, common}
use Rattle.clight_programs.specs.Scopes.{IsShort, IsShortScalar, IsShortInteger}
use Rattle.clight_programs.specs.Expressions.{IsPointer}

abbrev pub is_known : ℕ → CType → Bool
is_known n Void = false
is_known n (Integer Four signed) = false
is_known n (Integer size signed) = true
is_known n (Pointer target) = is_known n target
is_known n (Array element count) = is_known n element
is_known n (Struct number) = nat_lt number n

pub known_later : (n m : ℕ) → n ≤ m → (T : CType) → IsTrue (is_known n T) → IsTrue (is_known m T)
known_later n m le Void k = k
known_later n m le (Integer One g) k = k
known_later n m le (Integer Two g) k = k
known_later n m le (Integer Four g) k = k
known_later n m le (Pointer T) k = known_later n m le T k
known_later n m le (Array T c) k = known_later n m le T k
known_later n m le (Struct number) k = let lt = ltb-true number n k in lt-ltb number m (omega arith)

pub known_value : (n : ℕ) (T : CType) → IsTrue (is_known n T) → IsTrue (is_known n (value_type T))
known_value n Void k = k
known_value n (Integer s g) k = k
known_value n (Pointer T) k = k
known_value n (Array T c) k = k
known_value n (Struct number) k = k

-- ---- integers

-- the type of an integer value is that of the expression
pub integer_itself : (T : CType) → IsTrue (is_integer (value_type T)) → value_type T ≡ T
integer_itself Void i = refl
integer_itself (Integer s g) i = refl
integer_itself (Pointer T) i = refl
integer_itself (Array T c) i = absurd (false≢true i)
integer_itself (Struct number) i = refl

pub short_integer : (n : ℕ) (T : CType) → IsTrue (is_known n T) → IsTrue (is_integer (value_type T)) → IsShortInteger T
short_integer n Void k i = absurd (false≢true i)
short_integer n (Integer One g) k i = record { size = One; signed = g; is = refl; short = λ e. absurd cc }
short_integer n (Integer Two g) k i = record { size = Two; signed = g; is = refl; short = λ e. absurd cc }
short_integer n (Integer Four g) k i = absurd (false≢true k)
short_integer n (Pointer T) k i = absurd (false≢true i)
short_integer n (Array T c) k i = absurd (false≢true i)
short_integer n (Struct number) k i = absurd (false≢true i)

pub known_integer : (n : ℕ) (T : CType) → IsTrue (is_integer T) → IsTrue (not (is_four_bytes T)) → IsTrue (is_known n T)
known_integer n Void i k = i
known_integer n (Integer One g) i k = refl
known_integer n (Integer Two g) i k = refl
known_integer n (Integer Four g) i k = k
known_integer n (Pointer T) i k = absurd (false≢true i)
known_integer n (Array T c) i k = absurd (false≢true i)
known_integer n (Struct number) i k = absurd (false≢true i)

pub promoted_known : (n : ℕ) (T : CType) → IsTrue (is_known n T) → IsTrue (is_known n (promoted T))
promoted_known n Void k = k
promoted_known n (Integer One g) k = refl
promoted_known n (Integer Two g) k = refl
promoted_known n (Integer Four g) k = k
promoted_known n (Pointer T) k = k
promoted_known n (Array T c) k = k
promoted_known n (Struct number) k = k

pub common_known : (n : ℕ) (S T : CType) → IsTrue (is_known n S) → IsTrue (is_known n T) → IsTrue (is_known n (common S T))
common_known n (Integer One g) (Integer One h) k l = refl
common_known n (Integer One g) (Integer Two h) k l = refl
common_known n (Integer Two g) (Integer One h) k l = refl
common_known n (Integer Two g) (Integer Two h) k l = refl
common_known n (Integer Four g) T k l = absurd (false≢true k)
common_known n S (Integer Four g) k l = absurd (false≢true l)
common_known n Void T k l = absurd (false≢true k)
common_known n S Void k l = absurd (false≢true l)
common_known n (Pointer S) T k l = refl
common_known n (Array S c) T k l = refl
common_known n (Struct number) T k l = refl
common_known n (Integer One g) (Pointer T) k l = refl
common_known n (Integer One g) (Array T c) k l = refl
common_known n (Integer One g) (Struct number) k l = refl
common_known n (Integer Two g) (Pointer T) k l = refl
common_known n (Integer Two g) (Array T c) k l = refl
common_known n (Integer Two g) (Struct number) k l = refl

pub is_unsigned_char : (T : CType) → IsTrue (type_eq (value_type T) unsigned_char) → T ≡ unsigned_char
is_unsigned_char Void e = absurd (false≢true e)
is_unsigned_char (Integer One true) e = absurd (false≢true e)
is_unsigned_char (Integer One false) e = refl
is_unsigned_char (Integer Two g) e = absurd (false≢true e)
is_unsigned_char (Integer Four g) e = absurd (false≢true e)
is_unsigned_char (Pointer T) e = absurd (false≢true e)
is_unsigned_char (Array T c) e = absurd (false≢true e)
is_unsigned_char (Struct number) e = absurd (false≢true e)

-- ---- pointers

pub pointer_is : (T : CType) → IsTrue (is_pointer (value_type T)) → IsPointer T
pointer_is Void i = absurd (false≢true i)
pointer_is (Integer s g) i = absurd (false≢true i)
pointer_is (Pointer T) i = (T, refl)
pointer_is (Array T c) i = (T, refl)
pointer_is (Struct number) i = absurd (false≢true i)

pub like_pointer : (S T : CType) → IsTrue (is_pointer S) → IsTrue (type_eq S T) → IsTrue (is_pointer T)
like_pointer (Pointer S) (Pointer T) i e = refl
like_pointer (Pointer S) Void i e = absurd (false≢true e)
like_pointer (Pointer S) (Integer s g) i e = absurd (false≢true e)
like_pointer (Pointer S) (Array T c) i e = absurd (false≢true e)
like_pointer (Pointer S) (Struct number) i e = absurd (false≢true e)
like_pointer Void T i e = absurd (false≢true i)
like_pointer (Integer s g) T i e = absurd (false≢true i)
like_pointer (Array S c) T i e = absurd (false≢true i)
like_pointer (Struct number) T i e = absurd (false≢true i)

-- ---- what is short

pub short : (n : ℕ) (T : CType) → IsTrue (is_known n T) → IsShort T
short n Void k = tt
short n (Integer One g) k = tt
short n (Integer Two g) k = tt
short n (Integer Four g) k = false≢true k
short n (Pointer T) k = tt
short n (Array T c) k = tt
short n (Struct number) k = tt

pub short_scalar : (n : ℕ) (T : CType) → IsTrue (is_known n T) → IsTrue (is_scalar T) → IsShortScalar T
short_scalar n Void k i = false≢true i
short_scalar n (Integer One g) k i = tt
short_scalar n (Integer Two g) k i = tt
short_scalar n (Integer Four g) k i = false≢true k
short_scalar n (Pointer T) k i = tt
short_scalar n (Array T c) k i = false≢true i
short_scalar n (Struct number) k i = false≢true i
