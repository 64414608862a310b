-- The arithmetic of integers (ISO/IEC 9899:1999, 6.3.1 and 6.5.3 to 6.5.12). An integer is given by the bits of its type,
-- in two's complement: a number below 2 to the number of its type's bits. Where the standard leaves a choice, the compiler's
-- profile takes these: a conversion to a signed type is modulo, like that to an unsigned one; signed results wrap; `>>` of a
-- negative value keeps the sign.
use Rattle.std.specs.Prelude.{ℕ, zero, suc, ◌+◌, ◌-◌, ◌*◌, ◌/◌, ◌%◌, ◌^◌, Bool, true, false, not, nat_eq, nat_lt, nat_le, bit_and, bit_or, bit_xor, Result, Ok, Err, if◌then◌else◌}
use Rattle.cerco_base.specs.declared.events.FaultKind.{FaultKind}
use Rattle.cerco_base.specs.declared.events.FaultKind.TheVariants.{Outside, Zero}
use Rattle.clight_source.specs.declared.tree.BinaryOperator.{BinaryOperator}
use Rattle.clight_source.specs.declared.tree.BinaryOperator.TheVariants.{BitOr, BitXor, BitAnd, Equal, NotEqual, Less, Greater, LessOrEqual, GreaterOrEqual, ShiftLeft, ShiftRight, Add, Subtract, Multiply, Divide, Remainder}
use Rattle.c_types.specs.declared.integers.Size.TheVariants.{One, Two, Four}
use Rattle.c_types.specs.declared.integers.Size.{Size}
use Rattle.c_types.specs.declared.integers.IntegerType.{IntegerType}
use Rattle.c_types.specs.Conversions.{count, promoted_integer, common_integer}
use Rattle.clight_values.specs.declared.value.Value.{Value}
use Rattle.clight_values.specs.declared.value.Value.TheVariants.{Integer}

-- how many values of a type of this size aren't negative in a signed type
abbrev pub half : Size → ℕ
half One = 2 ^ 7
half Two = 2 ^ 15
half Four = 2 ^ 31

abbrev pub is_negative : IntegerType → ℕ → Bool
is_negative T x = if T.signed then nat_le (half T.size) x else false

-- how far it is from 0
abbrev pub magnitude : IntegerType → ℕ → ℕ
magnitude T x = if is_negative T x then count T.size - x else x

-- the whole number with this magnitude, negative or not
abbrev pub from_magnitude : IntegerType → Bool → ℕ → ℕ
from_magnitude T negative n = if negative then (count T.size - n) % count T.size else n % count T.size

-- 6.3.1.3: the value in four bytes, modulo what the new type can hold
abbrev pub converted : IntegerType → IntegerType → ℕ → ℕ
converted S T x = (if is_negative S x then x + (count Four - count S.size) else x) % count T.size

-- the operators on two values of one promoted type

abbrev pub sum : IntegerType → ℕ → ℕ → ℕ
sum T x y = (x + y) % count T.size

abbrev pub difference : IntegerType → ℕ → ℕ → ℕ
difference T x y = (x + (count T.size - y)) % count T.size

abbrev pub product : IntegerType → ℕ → ℕ → ℕ
product T x y = (x * y) % count T.size

-- 6.5.5: the quotient of whole numbers, towards 0
abbrev pub quotient_in : IntegerType → Bool → ℕ → ℕ → Result Value FaultKind
quotient_in T negative m zero = Err Zero
quotient_in T negative m (suc n) = Ok (Integer (from_magnitude T negative (m / suc n)))

abbrev pub differ : Bool → Bool → Bool
differ true b = not b
differ false b = b

abbrev pub quotient : IntegerType → ℕ → ℕ → Result Value FaultKind
quotient T x y = quotient_in T (differ (is_negative T x) (is_negative T y)) (magnitude T x) (magnitude T y)

-- 6.5.5: what is left, with the sign of the left operand
abbrev pub remainder_in : IntegerType → Bool → ℕ → ℕ → Result Value FaultKind
remainder_in T negative m zero = Err Zero
remainder_in T negative m (suc n) = Ok (Integer (from_magnitude T negative (m % suc n)))

abbrev pub remainder : IntegerType → ℕ → ℕ → Result Value FaultKind
remainder T x y = remainder_in T (is_negative T x) (magnitude T x) (magnitude T y)

-- 6.5.3.3
abbrev pub complement : IntegerType → ℕ → ℕ
complement T x = count T.size - 1 - x

-- 6.5.7
abbrev pub shifted_left : IntegerType → ℕ → ℕ → ℕ
shifted_left T x k = (x * 2 ^ k) % count T.size

abbrev pub shifted_right : IntegerType → ℕ → ℕ → ℕ
shifted_right T x k = if is_negative T x then complement T (complement T x / 2 ^ k) else x / 2 ^ k

-- 6.5.8: the order of the whole numbers, which the bits of a signed type have once the first one is turned
abbrev pub ordered_bits : IntegerType → ℕ → ℕ
ordered_bits T x = if T.signed then (x + half T.size) % count T.size else x

abbrev pub is_less : IntegerType → ℕ → ℕ → Bool
is_less T x y = nat_lt (ordered_bits T x) (ordered_bits T y)

-- 6.5.8 and 6.5.9: a comparison gives 0 or 1
abbrev pub truth : Bool → Value
truth true = Integer 1
truth false = Integer 0

-- an operator but a shift, on values of the common type
abbrev pub calculated : BinaryOperator → IntegerType → ℕ → ℕ → Result Value FaultKind
calculated BitOr T x y = Ok (Integer (bit_or x y))
calculated BitXor T x y = Ok (Integer (bit_xor x y))
calculated BitAnd T x y = Ok (Integer (bit_and x y))
calculated Equal T x y = Ok (truth (nat_eq x y))
calculated NotEqual T x y = Ok (truth (not (nat_eq x y)))
calculated Less T x y = Ok (truth (is_less T x y))
calculated Greater T x y = Ok (truth (is_less T y x))
calculated LessOrEqual T x y = Ok (truth (not (is_less T y x)))
calculated GreaterOrEqual T x y = Ok (truth (not (is_less T x y)))
calculated Add T x y = Ok (Integer (sum T x y))
calculated Subtract T x y = Ok (Integer (difference T x y))
calculated Multiply T x y = Ok (Integer (product T x y))
calculated Divide T x y = quotient T x y
calculated Remainder T x y = remainder T x y
calculated _ T x y = Err Outside

-- an operator on values of two integer types: those of a shift are promoted one by one, those of others get the common type
abbrev pub combined : BinaryOperator → IntegerType → IntegerType → ℕ → ℕ → Result Value FaultKind
combined ShiftLeft S T x y = Ok (Integer (shifted_left (promoted_integer S) (converted S (promoted_integer S) x) y))
combined ShiftRight S T x y = Ok (Integer (shifted_right (promoted_integer S) (converted S (promoted_integer S) x) y))
combined operator S T x y = calculated operator (common_integer S T) (converted S (common_integer S T) x) (converted T (common_integer S T) y)
