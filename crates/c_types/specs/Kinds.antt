-- Kinds of types (ISO/IEC 9899:1999, 6.2.5), and the type of a value (6.3.2.1).
use Rattle.std.specs.Prelude.{Bool, true, false, ◌||◌, Option, Some, None}
use Rattle.c_types.specs.declared.integers.IntegerType.{IntegerType}
use Rattle.c_types.specs.declared.integers.Size.TheVariants.{Four}
use Rattle.c_types.specs.Types.{CType, Void, Integer, Pointer, Array}

abbrev pub is_integer : CType → Bool
is_integer (Integer size signed) = true
is_integer type = false

abbrev pub is_pointer : CType → Bool
is_pointer (Pointer target) = true
is_pointer type = false

-- 6.2.5: arithmetic and pointer types, of which the profile has the integer and pointer types
abbrev pub is_scalar : CType → Bool
is_scalar type = is_integer type || is_pointer type

abbrev pub is_array : CType → Bool
is_array (Array element count) = true
is_array type = false

abbrev pub is_four_bytes : CType → Bool
is_four_bytes (Integer Four signed) = true
is_four_bytes type = false

-- what a pointer points to, and an array's first element
abbrev pub target_of : CType → CType
target_of (Pointer target) = target
target_of (Array element count) = element
target_of type = Void

-- 6.3.2.1: an array that is used as a value is the pointer to its first element
abbrev pub value_type : CType → CType
value_type (Array element count) = Pointer element
value_type type = type

-- ---- integer types

abbrev pub type_for : IntegerType → CType
type_for x = Integer x.size x.signed

-- the integer type that a type is, if it is one
abbrev pub integer_type : CType → Option IntegerType
integer_type (Integer size signed) = Some (record { size = size; signed = signed })
integer_type type = None
