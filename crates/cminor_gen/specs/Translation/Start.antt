-- The bytes that the initialisers of globals give external RAM (ISO/IEC 9899:1999, 6.7.8): all bytes of each initialised variable,
-- its zero rest included, by rising address, the low byte of a number first.
use Rattle.std.specs.Prelude.{ℕ, zero, suc, ◌+◌, ◌/◌, ◌%◌, List, [], ◌∷◌, ◌++◌, Option, Some, None, slice_get, if◌then◌else◌}
use Rattle.cerco_base.specs.declared.events.Label.{Label}
use Rattle.clight_source.specs.declared.tree.SignedNumber.{SignedNumber}
use Rattle.c_types.specs.declared.integers.IntegerType.{IntegerType}
pub use Rattle.c_types.specs.Types.{bytes}
use Rattle.c_types.specs.Types.{CType, Array}
use Rattle.c_types.specs.Kinds.{integer_type}
use Rattle.clight_syntax.specs.LiteralTypes.{literal_integer}
pub use Rattle.clight_syntax.specs.Bounds.{is_initialised}
use Rattle.clight_syntax.specs.TypedTrees.{Item, StructItem, GlobalItem, PrototypeItem, FunctionItem, TypedProgram, address_at}
use Rattle.clight_values.specs.Values.{converted}
use Rattle.clight_values.specs.Globals.{numbers_of, signed_bits}
use Rattle.clight_meaning.specs.Meaning.{variable_type}

-- the bits of an integer's first value
abbrev pub first_bits : IntegerType → Option SignedNumber → ℕ
first_bits T None = 0
first_bits T (Some n) = converted (literal_integer n.number) T (signed_bits n)

-- so many bytes of a number from an address on
abbrev pub bytes_from : ℕ → ℕ → ℕ → List (ℕ × ℕ)
bytes_from zero a n = []
bytes_from (suc k) a n = (a, n % 256) ∷ bytes_from k ((a + 1) % 65536) (n / 256)

-- the bytes of so many integers from an address on, of which the first has this number
abbrev pub integers_from : IntegerType → List SignedNumber → ℕ → ℕ → ℕ → List (ℕ × ℕ)
integers_from T ns zero i a = []
integers_from T ns (suc count) i a = bytes_from (bytes T.size) a (first_bits T (slice_get ns i)) ++ integers_from T ns count (i + 1) ((a + bytes T.size) % 65536)

abbrev pub integers_if_any : Option IntegerType → List SignedNumber → ℕ → ℕ → List (ℕ × ℕ)
integers_if_any None ns count a = []
integers_if_any (Some T) ns count a = integers_from T ns count 0 a

-- the bytes of an integer, or of an array of integers, at an address
abbrev pub global_bytes : CType → List SignedNumber → ℕ → List (ℕ × ℕ)
global_bytes (Array element count) ns a = integers_if_any (integer_type element) ns count a
global_bytes T ns a = integers_if_any (integer_type T) ns 1 a

abbrev pub item_bytes : TypedProgram Label → Item → List (ℕ × ℕ)
item_bytes p (GlobalItem g n) = if is_initialised g.initialiser then global_bytes (variable_type p n) (numbers_of g.initialiser) (address_at p n) else []
item_bytes p (StructItem s) = []
item_bytes p (PrototypeItem q) = []
item_bytes p (FunctionItem f) = []

abbrev pub items_bytes : TypedProgram Label → List Item → List (ℕ × ℕ)
items_bytes p [] = []
items_bytes p (item ∷ items) = item_bytes p item ++ items_bytes p items
