-- The types of the language (ISO/IEC 9899:1999, 6.2.5, with the sizes of the compiler's profile of C), when two are the same, and
-- how many bytes they have. An integer type is a size and whether it is signed.
use Rattle.std.specs.Prelude.{ℕ, ◌*◌, Bool, true, false, not, ◌&&◌, nat_eq, List, map, Option, Some, None, slice_get}
use Rattle.c_types.specs.declared.integers.Size.{Size}
use Rattle.c_types.specs.declared.integers.Size.TheVariants.{One, Two, Four}
use Rattle.c_types.specs.declared.structs.MemberType.{MemberType}
use Rattle.c_types.specs.declared.structs.StructType.{StructType as HeldStruct}
use Rattle.c_types.specs.declared.types.Ty.{Ty}
use Rattle.c_types.specs.declared.types.Ty.TheVariants as t

pub data CType : Type 0 where
  Void : CType
  Integer : (size : Size) (signed : Bool) → CType
  Pointer : (target : CType) → CType
  Array : (element : CType) (count : ℕ) → CType
  -- the struct with a number, in the order of the definitions
  Struct : (number : ℕ) → CType

-- the type that the program's own tree holds, as definitions speak of it
abbrev pub type_of : Ty → CType
type_of t.Void = Void
type_of t.U8 = Integer One false
type_of t.I8 = Integer One true
type_of t.I16 = Integer Two true
type_of t.U16 = Integer Two false
type_of t.I32 = Integer Four true
type_of t.U32 = Integer Four false
type_of (t.Pointer' q target) = Pointer (type_of target)
type_of (t.Array' q element count) = Array (type_of element) count
type_of (t.Struct number) = Struct number

-- a member: the number of its name, its type, and where it begins in the struct
pub record Member : Type 0 where
  pub name : ℕ
  pub type : CType
  pub offset : ℕ

-- a struct: the number of its tag's name, its members in order, and how many bytes it has
pub record StructType : Type 0 where
  pub tag : ℕ
  pub members : List Member
  pub size : ℕ

abbrev pub member_of : MemberType → Member
member_of x = record { name = x.name; type = type_of x.ty; offset = x.offset }

abbrev pub struct_type_of : HeldStruct → StructType
struct_type_of x = record { tag = x.tag; members = map member_of x.members.items; size = x.size }

-- ---- equality

abbrev pub size_eq : Size → Size → Bool
size_eq One One = true
size_eq Two Two = true
size_eq Four Four = true
size_eq x y = false

abbrev pub bool_eq : Bool → Bool → Bool
bool_eq true b = b
bool_eq false b = not b

abbrev pub type_eq : CType → CType → Bool
type_eq Void Void = true
type_eq (Integer size signed) (Integer other sign) = size_eq size other && bool_eq signed sign
type_eq (Pointer target) (Pointer other) = type_eq target other
type_eq (Array element count) (Array other n) = type_eq element other && nat_eq count n
type_eq (Struct number) (Struct other) = nat_eq number other
type_eq type other = false

-- ---- sizes

abbrev pub bytes : Size → ℕ
bytes One = 1
bytes Two = 2
bytes Four = 4

abbrev pub struct_size : Option StructType → ℕ
struct_size None = 0
struct_size (Some s) = s.size

-- how many bytes a type has, where these structs are the program's
abbrev pub size_of : List StructType → CType → ℕ
size_of structs Void = 0
size_of structs (Integer size signed) = bytes size
size_of structs (Pointer target) = 2
size_of structs (Array element count) = count * size_of structs element
size_of structs (Struct number) = struct_size (slice_get structs number)
