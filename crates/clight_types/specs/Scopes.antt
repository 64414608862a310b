-- What the names of a program mean where they stand (ISO/IEC 9899:1999, 6.2.1 and 6.2.3), and the members of its structs.
use Rattle.std.specs.Prelude.{ℕ, List, [], ◌∷◌, nat_eq, Option, Some, None, slice_get, if◌then◌else◌}
use Rattle.c_types.specs.Types.{CType, Struct, Member, StructType}

-- the types of a function's result and parameters
pub record Signature : Type 0 where
  pub result : CType
  pub parameters : List CType

pub data Meaning : Type 0 where
  -- the variable with this number
  Object : (variable : ℕ) (type : CType) → Meaning
  -- the function with this number, in the order of the definitions
  Code : (function : ℕ) (signature : Signature) → Meaning

pub record Named : Type 0 where
  -- the number of the name
  pub name : ℕ
  pub meaning : Meaning

-- what names mean
abbrev pub Meanings : Type 0
Meanings = ℕ → Option Meaning

-- what is visible at a place: the structs in the order of their definitions, and what a name means
pub record Scope : Type 0 where
  pub structs : List StructType
  pub meaning : Meanings

abbrev pub nothing : Meanings
nothing name = None

-- a declaration hides earlier ones of its name
abbrev pub declare : Named → Meanings → Meanings
declare x names name = if nat_eq x.name name then Some x.meaning else names name

abbrev pub meaning_of : Scope → ℕ → Option Meaning
meaning_of scope name = scope.meaning name

abbrev pub visible : List StructType → Meanings → Scope
visible structs names = record { structs = structs; meaning = names }

-- the member of this name
abbrev pub member_in : List Member → ℕ → Option Member
member_in [] name = None
member_in (x ∷ rest) name = if nat_eq x.name name then Some x else member_in rest name

-- the member of this name in a type, if the type is a struct that has it
abbrev pub member_of : List StructType → CType → ℕ → Option Member
member_of structs (Struct number) name = elim (slice_get structs number) [ Some s ↦ member_in s.members name | None ↦ None ]
member_of structs type name = None
