-- The values of integer types, the integer promotions, and the common type of two operands (ISO/IEC 9899:1999,
-- 6.2.5, 6.3.1.1 and 6.3.1.8), over the size and the signedness of a type.
use Rattle.std.specs.Prelude.{ℕ, ◌/◌, ◌^◌, Bool, true, false, ◌&&◌, List, [], ◌∷◌, nat_lt, if◌then◌else◌}
use Rattle.c_types.specs.declared.integers.IntegerType.{IntegerType}
use Rattle.c_types.specs.declared.integers.Size.{Size}
use Rattle.c_types.specs.declared.integers.Size.TheVariants.{One, Two, Four}
use Rattle.c_types.specs.Types.{CType, Integer}
use Rattle.c_types.specs.Kinds.{type_for}

abbrev pub unsigned_char : CType
unsigned_char = Integer One false

abbrev pub int : CType
int = Integer Two true

abbrev pub unsigned_int : CType
unsigned_int = Integer Two false

abbrev pub long : CType
long = Integer Four true

abbrev pub unsigned_long : CType
unsigned_long = Integer Four false

-- ---- values

-- the values of a type are below this, those of an unsigned one
abbrev pub count : Size → ℕ
count One = 2 ^ 8
count Two = 2 ^ 16
count Four = 2 ^ 32

-- the type has the value
abbrev pub has_value : CType → ℕ → Bool
has_value (Integer size true) n = nat_lt n (count size / 2)
has_value (Integer size false) n = nat_lt n (count size)
has_value type n = false

-- the first type of a list that has the value
abbrev pub first_with_value : List CType → ℕ → CType
first_with_value [] n = unsigned_long
first_with_value (type ∷ rest) n = if has_value type n then type else first_with_value rest n

-- ---- conversions

-- 6.3.1.1: `int` has all values of a type of one byte
abbrev pub promoted : CType → CType
promoted (Integer One signed) = int
promoted type = type

-- 6.3.1.8, of promoted types: the larger one, since a larger signed type has all values of a smaller unsigned one; of one size the
-- unsigned one
abbrev pub wider : CType → CType → CType
wider (Integer Four s) (Integer Four t) = Integer Four (s && t)
wider (Integer Four s) (Integer size t) = Integer Four s
wider (Integer size s) (Integer Four t) = Integer Four t
wider (Integer size s) (Integer other t) = Integer Two (s && t)
wider l r = int

-- 6.3.1.8: the type in which two operands are added or compared
abbrev pub common : CType → CType → CType
common l r = wider (promoted l) (promoted r)

-- ---- the same by sizes and signedness

-- the integer type that a type is; what is none counts as `int`
abbrev pub integer_of : CType → IntegerType
integer_of (Integer size signed) = record { size = size; signed = signed }
integer_of type = record { size = Two; signed = true }

abbrev pub promoted_integer : IntegerType → IntegerType
promoted_integer x = integer_of (promoted (type_for x))

abbrev pub common_integer : IntegerType → IntegerType → IntegerType
common_integer x y = integer_of (common (type_for x) (type_for y))
