-- The types that declarations give (ISO/IEC 9899:1999, 6.7.2 to 6.7.5), and how the members of a struct lie: one after the other,
-- without gaps.
use Rattle.std.specs.Prelude.{ℕ, ◌+◌, Bool, true, false, ◌&&◌, List, [], ◌∷◌, length, map, nat_eq, nat_le, if◌then◌else◌}
use Rattle.clight_source.specs.declared.tree.Specifiers.{Specifiers}
use Rattle.clight_source.specs.declared.tree.Specifiers.TheVariants as t
use Rattle.clight_source.specs.declared.tree.Length.{Length}
use Rattle.clight_source.specs.Trees.{Declared, Declaration, EarlierParameter, Parameters, NoParameters, Parameters', Header}
use Rattle.clight_source.specs.Trees as tree
use Rattle.c_types.specs.declared.integers.Size.TheVariants.{One, Two, Four}
use Rattle.c_types.specs.Types.{CType, Void, Integer, Pointer, Array, Struct, Member, StructType, size_of, type_eq}
use Rattle.c_types.specs.Conversions.{unsigned_char, int, unsigned_int, long, unsigned_long}
use Rattle.clight_types.specs.Scopes.{Signature}

-- the number of the struct with this tag; the struct whose members are being declared has the next number
abbrev pub struct_number : List StructType → ℕ → ℕ
struct_number [] tag = 0
struct_number (s ∷ rest) tag = if nat_eq s.tag tag then 0 else 1 + struct_number rest tag

-- 6.7.2; plain `char` is `unsigned char`
abbrev pub named_type : List StructType → Specifiers → CType
named_type structs (t.Void a) = Void
named_type structs (t.Struct a tag) = Struct (struct_number structs tag.number)
named_type structs (t.Char a) = unsigned_char
named_type structs (t.SignedChar a c) = Integer One true
named_type structs (t.UnsignedChar a c) = unsigned_char
named_type structs (t.Int a) = int
named_type structs (t.Signed a) = int
named_type structs (t.SignedInt a c) = int
named_type structs (t.Unsigned a) = unsigned_int
named_type structs (t.UnsignedInt a c) = unsigned_int
named_type structs (t.Long a) = long
named_type structs (t.LongInt a c) = long
named_type structs (t.SignedLong a c) = long
named_type structs (t.SignedLongInt a c d) = long
named_type structs (t.UnsignedLong a c) = unsigned_long
named_type structs (t.UnsignedLongInt a c d) = unsigned_long

-- 6.7.5.1: a star for each pointer
abbrev pub pointers_to : {A : Type 0} → List A → CType → CType
pointers_to [] type = type
pointers_to (star ∷ stars) type = Pointer (pointers_to stars type)

-- 6.7.5.2: the first length is that of the whole array
abbrev pub arrays_of : List Length → CType → CType
arrays_of [] type = type
arrays_of (x ∷ rest) type = Array (arrays_of rest type) x.number.value

abbrev pub declared_type : List StructType → Declared → CType
declared_type structs x = pointers_to x.stars (named_type structs x.specifiers)

abbrev pub declaration_type : List StructType → Declaration → CType
declaration_type structs x = arrays_of x.lengths (declared_type structs x.declared)

-- ---- structs

-- the members from an offset on
abbrev pub members_from : List StructType → ℕ → List tree.Member → List Member
members_from structs offset [] = []
members_from structs offset (x ∷ rest) =
    record { name = x.declaration.declared.name.number; type = declaration_type structs x.declaration; offset = offset }
    ∷ members_from structs (offset + size_of structs (declaration_type structs x.declaration)) rest

abbrev pub size_of_members : List StructType → List tree.Member → ℕ
size_of_members structs [] = 0
size_of_members structs (x ∷ rest) = size_of structs (declaration_type structs x.declaration) + size_of_members structs rest

-- the struct that a definition defines behind some others
abbrev pub struct_type : List StructType → tree.Struct → StructType
struct_type structs x = record {
  tag = x.tag.number;
  members = members_from structs 0 x.members;
  size = size_of_members structs x.members;
}

-- ---- functions

-- the parameters in order
abbrev pub parameters_of : Parameters → List Declared
parameters_of (NoParameters void) = []
parameters_of (Parameters' earlier last) = onto earlier
  where
    onto : List EarlierParameter → List Declared
    onto [] = last ∷ []
    onto (x ∷ rest) = x.parameter ∷ onto rest

abbrev pub signature_of : List StructType → Header → Signature
signature_of structs x = record {
  result = declared_type structs x.declared;
  parameters = map (declared_type structs) (parameters_of x.parameters);
}

-- the same types, one after the other
abbrev pub types_eq : List CType → List CType → Bool
types_eq [] [] = true
types_eq (x ∷ xs) (y ∷ ys) = type_eq x y && types_eq xs ys
types_eq xs ys = false

-- ---- sizes

abbrev pub greatest_size : ℕ
greatest_size = 65534

-- the type has a byte at least, and not too many
abbrev pub is_size : ℕ → Bool
is_size bytes = nat_le 1 bytes && nat_le bytes greatest_size

-- how many bytes of parameters a function may have
abbrev pub greatest_parameters : ℕ
greatest_parameters = 12

abbrev pub bytes_of : List StructType → List CType → ℕ
bytes_of structs [] = 0
bytes_of structs (type ∷ rest) = size_of structs type + bytes_of structs rest
