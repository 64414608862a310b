-- What an expression is to the operator beside it: the type of its value, and its number where it is a constant (ISO/IEC
-- 9899:1999, 6.3.2.1 and 6.5).
use Rattle.std.specs.Prelude.{ℕ, Bool, true, false, ◌&&◌, ◌||◌, List, [], ◌∷◌, nat_eq, nat_le, Option, Some, None}
use Rattle.std.specs.List.{list_any}
use Rattle.c_types.specs.Types.{CType, Void, Struct, StructType, size_of, type_eq}
use Rattle.c_types.specs.Kinds.{is_integer, is_pointer, target_of, value_type}
use Rattle.c_types.specs.Conversions.{unsigned_char}
use Rattle.clight_source.specs.declared.tree.PrefixOperator.TheVariants.{Dereference}
use Rattle.clight_syntax.specs.TypedTrees.{Expr, Variable, Number, Parenthesis, Binary, Prefix, Cast, Index, Select, type_at}

-- ---- expressions

-- the number that an expression is, in any parentheses
abbrev pub number_of : Expr → Option ℕ
number_of (Number type number span) = Some number.value
number_of (Parenthesis type left e right) = number_of e
number_of e = None

-- 6.3.2.1: a variable, an element, a member, or what a pointer points to, in any parentheses
abbrev pub is_place : Expr → Bool
is_place (Variable type variable name) = true
is_place (Parenthesis type left e right) = is_place e
is_place (Prefix type operator at e) = elim operator [ Dereference ↦ true | _ ↦ false ]
is_place (Index type base left index right) = true
is_place (Select type e operator at member offset) = true
is_place e = false

-- what an operator sees of an operand
pub record Operand : Type 0 where
  -- the type of its value
  pub type : CType
  -- its number, where it is one
  pub number : Option ℕ

abbrev pub operand : Expr → Operand
operand e = record { type = value_type (type_at e); number = number_of e }

abbrev pub is_number : Operand → Bool
is_number x = elim x.number [ Some n ↦ true | None ↦ false ]

-- the number 0, which stands for the null pointer of every type
abbrev pub is_zero : Operand → Bool
is_zero x = elim x.number [ Some n ↦ nat_eq n 0 | None ↦ false ]

-- the powers of two that are sizes
abbrev pub powers : List ℕ
powers = 1 ∷ 2 ∷ 4 ∷ 8 ∷ 16 ∷ 32 ∷ 64 ∷ 128 ∷ 256 ∷ 512 ∷ 1024 ∷ 2048 ∷ 4096 ∷ 8192 ∷ 16384 ∷ 32768 ∷ []

abbrev pub is_power : ℕ → Bool
is_power n = list_any (λ power. nat_eq power n) powers

-- An integer steps over a type of so many bytes where the steps are a power of two, or it is a number, or both are small: it is an
-- `unsigned char` and the steps have at most 255 bytes.
abbrev pub steps_over : Operand → ℕ → Bool
steps_over x bytes =
    is_integer x.type && (is_power bytes || is_number x || (type_eq x.type unsigned_char && nat_le bytes 255))

-- an integer that may be added to a pointer of this type
abbrev pub steps_along : List StructType → Operand → CType → Bool
steps_along structs x pointer = steps_over x (size_of structs (target_of pointer))

-- 6.5.16.1, in the profile: an integer to any integer type, a pointer to its own type, the number 0 to any pointer type
abbrev pub is_assignable : Operand → CType → Bool
is_assignable x type =
    (is_integer x.type && is_integer type) || (is_pointer type && (type_eq x.type type || is_zero x))

-- the value of an expression is neither a struct nor missing
abbrev pub is_value : CType → Bool
is_value (Struct number) = false
is_value Void = false
is_value type = true
