-- The type of an integer constant (ISO/IEC 9899:1999, 6.4.4.1): the first type of its list that has its value.
use Rattle.std.specs.Prelude.{Bool, true, false, List, [], ◌∷◌}
use Rattle.clight_source.specs.declared.symbol.Literal.{Literal}
use Rattle.clight_source.specs.declared.symbol.Radix.{Radix}
use Rattle.clight_source.specs.declared.symbol.Radix.TheVariants.{Decimal}
use Rattle.c_types.specs.declared.integers.IntegerType.{IntegerType}
use Rattle.c_types.specs.Types.{CType}
use Rattle.c_types.specs.Conversions.{int, unsigned_int, long, unsigned_long, first_with_value, integer_of}

-- the types that a constant may have, by how it is written, and whether it has a `u`
abbrev pub candidates : Radix → Bool → List CType
candidates radix true = unsigned_int ∷ unsigned_long ∷ []
candidates Decimal false = int ∷ long ∷ []
candidates radix false = int ∷ unsigned_int ∷ long ∷ unsigned_long ∷ []

abbrev pub literal_type : Literal → CType
literal_type x = first_with_value (candidates x.radix x.unsigned) x.value

-- the same by size and signedness
abbrev pub literal_integer : Literal → IntegerType
literal_integer x = integer_of (literal_type x)
