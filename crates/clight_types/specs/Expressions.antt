-- The types of expressions (ISO/IEC 9899:1999, 6.5), in the compiler's profile. Each form carries its type, and it is the right one
-- given those that its parts carry. There is one case for each row of the table in `docs/language.md`.
use Rattle.std.specs.Prelude.{◌≡◌, ℕ, ◌≤◌, Bool, true, false, ◌&&◌, ◌||◌, not, IsTrue, List, [], ◌∷◌, nat_eq, nat_le, Option, Some, None}
use Rattle.clight_source.specs.declared.tree.BinaryOperator.{BinaryOperator}
use Rattle.clight_source.specs.declared.tree.BinaryOperator.TheVariants as b
use Rattle.clight_source.specs.declared.tree.PrefixOperator.{PrefixOperator}
use Rattle.clight_source.specs.declared.tree.PrefixOperator.TheVariants as p
use Rattle.clight_source.specs.declared.tree.MemberOperator.{MemberOperator}
use Rattle.clight_source.specs.declared.tree.MemberOperator.TheVariants as m
use Rattle.clight_source.specs.declared.tree.Name.{Name}
use Rattle.clight_source.specs.declared.tree.Specifiers.{Specifiers}
use Rattle.c_types.specs.Types.{CType, Pointer, Member, StructType, type_eq}
use Rattle.clight_syntax.specs.TypedTrees.{Expr, Variable, Number, Parenthesis, Binary, Prefix, Cast, Index, Select, type_at, Cond, Truth, InParentheses, Not, Both, Either}
use Rattle.c_types.specs.Conversions.{promoted, common, int, unsigned_char}
use Rattle.clight_syntax.specs.LiteralTypes.{literal_type}
use Rattle.c_types.specs.Kinds.{is_integer, is_pointer, is_scalar, is_array, is_four_bytes, target_of, value_type}
use Rattle.clight_types.specs.Operands.{is_value, is_place, is_zero, Operand, operand, steps_along}
use Rattle.clight_types.specs.Scopes.{Scope, Object, meaning_of, member_of}
use Rattle.clight_types.specs.Declarations.{named_type}

-- ---- binary operators

-- `+ - & ^ |`
abbrev pub is_arithmetic : BinaryOperator → Bool
is_arithmetic b.Add = true
is_arithmetic b.Subtract = true
is_arithmetic b.BitAnd = true
is_arithmetic b.BitXor = true
is_arithmetic b.BitOr = true
is_arithmetic operator = false

abbrev pub is_division : BinaryOperator → Bool
is_division b.Divide = true
is_division b.Remainder = true
is_division operator = false

abbrev pub is_shift : BinaryOperator → Bool
is_shift b.ShiftLeft = true
is_shift b.ShiftRight = true
is_shift operator = false

abbrev pub is_equality : BinaryOperator → Bool
is_equality b.Equal = true
is_equality b.NotEqual = true
is_equality operator = false

abbrev pub is_comparison : BinaryOperator → Bool
is_comparison b.Less = true
is_comparison b.Greater = true
is_comparison b.LessOrEqual = true
is_comparison b.GreaterOrEqual = true
is_comparison operator = is_equality operator

-- how far a value of two bytes is shifted at most
abbrev pub greatest_shift : ℕ
greatest_shift = 15

abbrev pub is_shift_count : Operand → Bool
is_shift_count x = is_integer x.type && elim x.number [ Some n ↦ nat_le n greatest_shift | None ↦ false ]

abbrev pub are_integers : Operand → Operand → Bool
are_integers l r = is_integer l.type && is_integer r.type

abbrev pub are_unsigned_chars : Operand → Operand → Bool
are_unsigned_chars l r = type_eq l.type unsigned_char && type_eq r.type unsigned_char

-- two pointers of one type
abbrev pub are_like_pointers : Operand → Operand → Bool
are_like_pointers l r = is_pointer l.type && type_eq l.type r.type

-- a pointer and the number 0, in this order
abbrev pub are_pointer_and_null : Operand → Operand → Bool
are_pointer_and_null l r = is_pointer l.type && is_zero r

-- a pointer and an integer that steps over what it points to, in this order
abbrev pub are_pointer_and_steps : List StructType → Operand → Operand → Bool
are_pointer_and_steps structs l r = is_pointer l.type && steps_along structs r l.type

-- the rows of the binary operators
pub data HasBinary (structs : List StructType) (operator : BinaryOperator) (l r : Operand) (type : CType) : Type 0 where
  arithmetic : IsTrue (is_arithmetic operator) → IsTrue (are_integers l r) → type ≡ common l.type r.type → HasBinary structs operator l r type
  product : operator ≡ b.Multiply → IsTrue (are_unsigned_chars l r) → type ≡ int → HasBinary structs operator l r type
  quotient : IsTrue (is_division operator) → IsTrue (are_unsigned_chars l r) → type ≡ int → HasBinary structs operator l r type
  shifted : IsTrue (is_shift operator) → IsTrue (is_integer l.type) → IsTrue (is_shift_count r) → type ≡ promoted l.type → HasBinary structs operator l r type
  compared : IsTrue (is_comparison operator) → IsTrue (are_integers l r) → type ≡ int → HasBinary structs operator l r type
  compared_pointers : IsTrue (is_comparison operator) → IsTrue (are_like_pointers l r) → type ≡ int → HasBinary structs operator l r type
  compared_to_null : IsTrue (is_equality operator) → IsTrue (are_pointer_and_null l r) → type ≡ int → HasBinary structs operator l r type
  null_compared : IsTrue (is_equality operator) → IsTrue (are_pointer_and_null r l) → type ≡ int → HasBinary structs operator l r type
  stepped : operator ≡ b.Add → IsTrue (are_pointer_and_steps structs l r) → type ≡ l.type → HasBinary structs operator l r type
  steps_first : operator ≡ b.Add → IsTrue (are_pointer_and_steps structs r l) → type ≡ r.type → HasBinary structs operator l r type
  stepped_back : operator ≡ b.Subtract → IsTrue (are_pointer_and_steps structs l r) → type ≡ l.type → HasBinary structs operator l r type

-- ---- the other forms

-- `-e` and `~e`, `*p`, `&x`; `!e` has no type
abbrev pub HasPrefix : PrefixOperator → Expr → CType → Type 0
HasPrefix p.Negate e type = IsTrue (is_integer (operand e).type) × (type ≡ promoted (operand e).type)
HasPrefix p.Complement e type = IsTrue (is_integer (operand e).type) × (type ≡ promoted (operand e).type)
HasPrefix p.Dereference e type = (operand e).type ≡ Pointer type
HasPrefix p.AddressOf e type = IsTrue (is_place e) × IsTrue (not (is_array (type_at e))) × (type ≡ Pointer (type_at e))
HasPrefix p.Not e type = ⊥

-- a value is needed of the operand of every prefix operator but `&`
abbrev pub NeedsValue : PrefixOperator → CType → Type 0
NeedsValue p.AddressOf type = Unit {0}
NeedsValue operator type = IsTrue (is_value type)

-- the type from which a member is selected: that of the left side, or what it points to
abbrev pub selected : MemberOperator → Expr → CType → Type 0
selected m.Dot e type = type_at e ≡ type
selected m.Arrow e type = (operand e).type ≡ Pointer type

-- the expression carries right types, and its names mean what is visible there
abbrev pub HasType : Scope → Expr → Type 0
HasType scope (Variable type variable name) = meaning_of scope name.number ≡ Some (Object variable type)
HasType scope (Number type literal span) = (type ≡ literal_type literal) × IsTrue (not (is_four_bytes type))
HasType scope (Parenthesis type left e right) = HasType scope e × (type ≡ type_at e)
HasType scope (Binary type l operator at r) =
    HasType scope l × IsTrue (is_value (type_at l)) × HasType scope r × IsTrue (is_value (type_at r)) × HasBinary scope.structs operator (operand l) (operand r) type
HasType scope (Prefix type operator at e) = HasType scope e × NeedsValue operator (type_at e) × HasPrefix operator e type
HasType scope (Cast type left words right e) =
    (type ≡ named_type scope.structs words) × IsTrue (not (is_four_bytes type)) × IsTrue (is_integer type)
    × HasType scope e × IsTrue (is_value (type_at e)) × IsTrue (is_integer (operand e).type)
HasType scope (Index type base left index right) =
    HasType scope base × IsTrue (is_value (type_at base)) × HasType scope index × IsTrue (is_value (type_at index))
    × ((operand base).type ≡ Pointer type) × IsTrue (steps_along scope.structs (operand index) (operand base).type)
HasType scope (Select type e operator at member offset) =
    HasType scope e × ((from : CType) × selected operator e from
    × (member_of scope.structs from member.number ≡ Some (record { name = member.number; type = type; offset = offset })))

-- its value has a type too
abbrev pub HasValue : Scope → Expr → Type 0
HasValue scope e = HasType scope e × IsTrue (is_value (type_at e))

-- ---- conditions

-- the condition is formed by `!`, `&&` or `||`, in any parentheses
abbrev pub is_logical : {L : Type 0} → Cond L → Bool
is_logical (Truth e) = false
is_logical c = true

-- scalar values, joined by `!`, `&&`, `||` and parentheses
abbrev pub IsConditional : {L : Type 0} → Scope → Cond L → Type 0
IsConditional scope (Truth e) = HasType scope e × IsTrue (is_scalar (operand e).type)
IsConditional scope (InParentheses left c right) = IsConditional scope c × IsTrue (is_logical c)
IsConditional scope (Not at c) = IsConditional scope c
IsConditional scope (Both l at on_true on_false r) = IsConditional scope l × IsConditional scope r
IsConditional scope (Either l at on_true on_false r) = IsConditional scope l × IsConditional scope r
