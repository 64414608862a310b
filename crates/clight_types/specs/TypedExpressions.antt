-- The typed tree of an expression, or the first node of it that has no type (ISO/IEC 9899:1999, 6.5). The parts of a node are judged
-- before the node itself, in the order of the text; the place of a node is its operator, or its first token where it has none.
use Rattle.std.specs.Prelude.{◌≡◌, ℕ, Bool, true, false, ◌&&◌, ◌||◌, not, List, [], ◌∷◌, Option, Some, None, Result, Ok, Err, if◌then◌else◌}
use Rattle.cerco_base.specs.declared.reasons.TypeKind.{TypeKind}
use Rattle.cerco_base.specs.declared.reasons.TypeKind.TheVariants as k
use Rattle.clight_source.specs.declared.span.Span.{Span}
use Rattle.clight_source.specs.declared.symbol.Literal.{Literal}
use Rattle.clight_source.specs.declared.tree.BinaryOperator.{BinaryOperator}
use Rattle.clight_source.specs.declared.tree.BinaryOperator.TheVariants as b
use Rattle.clight_source.specs.declared.tree.PrefixOperator.{PrefixOperator}
use Rattle.clight_source.specs.declared.tree.PrefixOperator.TheVariants as p
use Rattle.clight_source.specs.declared.tree.MemberOperator.{MemberOperator}
use Rattle.clight_source.specs.declared.tree.MemberOperator.TheVariants as m
use Rattle.clight_source.specs.declared.tree.Name.{Name}
use Rattle.clight_source.specs.declared.tree.Specifiers.{Specifiers}
use Rattle.clight_source.specs.declared.tree.Specifiers.TheVariants as w
use Rattle.clight_source.specs.Trees as s
use Rattle.c_types.specs.Types.{CType, Void, Pointer, Member, StructType}
use Rattle.clight_syntax.specs.TypedTrees.{Expr, Variable, Number, Parenthesis, Binary, Prefix, Cast, Index, Select, type_at, Cond, Truth, InParentheses, Not, Both, Either}
use Rattle.c_types.specs.Conversions.{promoted, common, int}
use Rattle.clight_syntax.specs.LiteralTypes.{literal_type}
use Rattle.c_types.specs.Kinds.{is_integer, is_pointer, is_scalar, is_array, is_four_bytes, target_of}
use Rattle.clight_types.specs.Operands.{is_value, is_place, Operand, operand, steps_along}
use Rattle.clight_types.specs.Scopes.{Scope, Meaning, Object, Code, meaning_of, member_of}
use Rattle.clight_types.specs.Declarations.{named_type}
use Rattle.clight_types.specs.Expressions.{is_shift_count, are_integers, are_unsigned_chars, are_like_pointers, are_pointer_and_null, are_pointer_and_steps}

-- ---- faults

-- a node that has no type, and why
pub record TypeFault : Type 0 where
  pub at : ℕ
  pub kind : TypeKind

-- what a node is, or the first fault in it
abbrev pub Checked : Type 0 → Type 0
Checked A = Result A TypeFault

abbrev pub fault : {A : Type 0} → ℕ → TypeKind → Checked A
fault at kind = Err (record { at = at; kind = kind })

-- then the next part is judged
infixl 5 ◌>>=◌
abbrev pub ◌>>=◌ : {A B : Type 0} → Checked A → (A → Checked B) → Checked B
(Ok x) >>= next = next x
(Err f) >>= next = Err f

-- the type of a node, where it has one
abbrev pub or_fault : {A : Type 0} → Option CType → (CType → A) → ℕ → TypeKind → Checked A
or_fault (Some type) of at kind = Ok (of type)
or_fault None of at kind = fault at kind

-- ---- places

-- the place of a node
abbrev pub expr_place : s.Expr → ℕ
expr_place (s.Variable name) = name.span.from
expr_place (s.Number number span) = span.from
expr_place (s.Parenthesis left e right) = left.from
expr_place (s.Binary l operator at r) = at.from
expr_place (s.Prefix operator at e) = at.from
expr_place (s.Cast left words right e) = left.from
expr_place (s.Index e left index right) = left.from
expr_place (s.Select e operator at member) = at.from

-- the place of the node in any parentheses
abbrev pub bare_place : s.Expr → ℕ
bare_place (s.Parenthesis left e right) = bare_place e
bare_place e = expr_place e

abbrev pub words_start : Specifiers → ℕ
words_start (w.Void a) = a.from
words_start (w.Struct a tag) = a.from
words_start (w.Char a) = a.from
words_start (w.SignedChar a c) = a.from
words_start (w.UnsignedChar a c) = a.from
words_start (w.Int a) = a.from
words_start (w.Signed a) = a.from
words_start (w.SignedInt a c) = a.from
words_start (w.Unsigned a) = a.from
words_start (w.UnsignedInt a c) = a.from
words_start (w.Long a) = a.from
words_start (w.LongInt a c) = a.from
words_start (w.SignedLong a c) = a.from
words_start (w.SignedLongInt a c d) = a.from
words_start (w.UnsignedLong a c) = a.from
words_start (w.UnsignedLongInt a c d) = a.from

-- ---- what stands where

-- an expression by itself
pub data Judged : Type 0 where
  -- it has a type
  Typed : (e : Expr) → Judged
  -- `!`, `&&` and `||`, in any parentheses, are conditions and have no type
  Logical : (c : Cond (Unit {0})) → Judged
  -- the name of a function, in any parentheses, has none either
  NoVariable : Judged

-- where a value is needed
abbrev pub value_in : s.Expr → Judged → Checked Expr
value_in source (Typed e) = if is_value (type_at e) then Ok e else fault (expr_place source) k.Value
value_in source (Logical c) = fault (bare_place source) k.Value
value_in source NoVariable = fault (bare_place source) k.Value

-- where a condition is needed
abbrev pub condition_in : s.Expr → Judged → Checked (Cond (Unit {0}))
condition_in source (Typed e) = if is_scalar (operand e).type then Ok (Truth e) else fault (expr_place source) k.Condition
condition_in source (Logical c) = Ok c
condition_in source NoVariable = fault (bare_place source) k.Condition

-- where a place is needed: the operand of `&`, and the left side of `.`, `->` and `=`; the name of a function is none
abbrev pub place_in : s.Expr → Judged → Checked (Option Expr)
place_in source (Typed e) = Ok (Some e)
place_in source (Logical c) = fault (bare_place source) k.Value
place_in source NoVariable = Ok None

-- ---- the forms

abbrev pub judged_name : Option Meaning → Name → Judged
judged_name (Some (Object variable type)) name = Typed (Variable type variable name)
judged_name (Some (Code function signature)) name = NoVariable
judged_name None name = NoVariable

abbrev pub judged_number : Literal → Span → Checked Judged
judged_number x span = if is_four_bytes (literal_type x) then fault span.from k.Long else Ok (Typed (Number (literal_type x) x span))

abbrev pub in_parentheses : Span → Span → Judged → Judged
in_parentheses left right (Typed e) = Typed (Parenthesis (type_at e) left e right)
in_parentheses left right (Logical c) = Logical (InParentheses left c right)
in_parentheses left right NoVariable = NoVariable

abbrev pub sum_type : List StructType → Operand → Operand → Option CType
sum_type structs l r =
    if are_integers l r then Some (common l.type r.type)
    else if are_pointer_and_steps structs l r then Some l.type
    else if are_pointer_and_steps structs r l then Some r.type
    else None

abbrev pub difference_type : List StructType → Operand → Operand → Option CType
difference_type structs l r =
    if are_integers l r then Some (common l.type r.type)
    else if are_pointer_and_steps structs l r then Some l.type
    else None

abbrev pub bits_type : Operand → Operand → Option CType
bits_type l r = if are_integers l r then Some (common l.type r.type) else None

abbrev pub product_type : Operand → Operand → Option CType
product_type l r = if are_unsigned_chars l r then Some int else None

abbrev pub shift_type : Operand → Operand → Option CType
shift_type l r = if is_integer l.type && is_shift_count r then Some (promoted l.type) else None

abbrev pub order_type : Operand → Operand → Option CType
order_type l r = if are_integers l r || are_like_pointers l r then Some int else None

abbrev pub equality_type : Operand → Operand → Option CType
equality_type l r =
    if (are_integers l r || are_like_pointers l r) || (are_pointer_and_null l r || are_pointer_and_null r l) then Some int else None

abbrev pub binary_type : List StructType → BinaryOperator → Operand → Operand → Option CType
binary_type structs b.LogicalOr l r = None
binary_type structs b.LogicalAnd l r = None
binary_type structs b.BitOr l r = bits_type l r
binary_type structs b.BitXor l r = bits_type l r
binary_type structs b.BitAnd l r = bits_type l r
binary_type structs b.Equal l r = equality_type l r
binary_type structs b.NotEqual l r = equality_type l r
binary_type structs b.Less l r = order_type l r
binary_type structs b.Greater l r = order_type l r
binary_type structs b.LessOrEqual l r = order_type l r
binary_type structs b.GreaterOrEqual l r = order_type l r
binary_type structs b.ShiftLeft l r = shift_type l r
binary_type structs b.ShiftRight l r = shift_type l r
binary_type structs b.Add l r = sum_type structs l r
binary_type structs b.Subtract l r = difference_type structs l r
binary_type structs b.Multiply l r = product_type l r
binary_type structs b.Divide l r = product_type l r
binary_type structs b.Remainder l r = product_type l r

-- what is wrong where an operator doesn't take its operands
abbrev pub binary_kind : BinaryOperator → TypeKind
binary_kind b.Divide = k.Division
binary_kind b.Remainder = k.Division
binary_kind b.ShiftLeft = k.Shift
binary_kind b.ShiftRight = k.Shift
binary_kind operator = k.Operand

abbrev pub of_values : List StructType → BinaryOperator → Span → Expr → Expr → Checked Judged
of_values structs operator at l r =
    or_fault (binary_type structs operator (operand l) (operand r)) (λ type. Typed (Binary type l operator at r)) at.from (binary_kind operator)

-- `&&` and `||`
abbrev pub is_logical_operator : BinaryOperator → Bool
is_logical_operator b.LogicalAnd = true
is_logical_operator b.LogicalOr = true
is_logical_operator operator = false

abbrev pub of_conditions : BinaryOperator → Span → Cond (Unit {0}) → Cond (Unit {0}) → Cond (Unit {0})
of_conditions b.LogicalAnd at l r = Both l at tt tt r
of_conditions operator at l r = Either l at tt tt r

abbrev pub logical_form : BinaryOperator → Span → (l r : s.Expr) → (x y : Checked Judged) → Checked Judged
logical_form operator at l r x y = do
  c ← x >>= condition_in l
  d ← y >>= condition_in r
  Ok (Logical (of_conditions operator at c d))

abbrev pub value_form : List StructType → BinaryOperator → Span → (l r : s.Expr) → (x y : Checked Judged) → Checked Judged
value_form structs operator at l r x y = do
  e ← x >>= value_in l
  f ← y >>= value_in r
  of_values structs operator at e f

abbrev pub judged_binary : List StructType → BinaryOperator → Span → (l r : s.Expr) → (x y : Checked Judged) → Checked Judged
judged_binary structs operator at l r x y =
    if is_logical_operator operator then logical_form operator at l r x y else value_form structs operator at l r x y

-- `-e` and `~e`
abbrev pub promoted_type : Expr → Option CType
promoted_type e = if is_integer (operand e).type then Some (promoted (operand e).type) else None

-- `*e`
abbrev pub dereferenced_type : Expr → Option CType
dereferenced_type e = if is_pointer (operand e).type then Some (target_of (operand e).type) else None

-- `&e`
abbrev pub address_type : Expr → Option CType
address_type e = if is_place e && not (is_array (type_at e)) then Some (Pointer (type_at e)) else None

abbrev pub address_of : Span → Option Expr → Checked Judged
address_of at (Some e) = or_fault (address_type e) (λ type. Typed (Prefix type p.AddressOf at e)) at.from k.Operand
address_of at None = fault at.from k.Operand

abbrev pub judged_prefix : PrefixOperator → Span → s.Expr → Checked Judged → Checked Judged
judged_prefix p.Negate at source x = do
  e ← x >>= value_in source
  or_fault (promoted_type e) (λ type. Typed (Prefix type p.Negate at e)) at.from k.Operand
judged_prefix p.Complement at source x = do
  e ← x >>= value_in source
  or_fault (promoted_type e) (λ type. Typed (Prefix type p.Complement at e)) at.from k.Operand
judged_prefix p.Not at source x = do
  c ← x >>= condition_in source
  Ok (Logical (Not at c))
judged_prefix p.Dereference at source x = do
  e ← x >>= value_in source
  or_fault (dereferenced_type e) (λ type. Typed (Prefix type p.Dereference at e)) at.from k.Operand
judged_prefix p.AddressOf at source x = do
  e ← x >>= place_in source
  address_of at e

-- the words of a type that is neither `long` nor `void`
abbrev pub object_words : CType → Specifiers → Checked CType
object_words Void words = fault (words_start words) k.Void
object_words type words = if is_four_bytes type then fault (words_start words) k.Long else Ok type

abbrev pub cast_type : CType → Expr → Option CType
cast_type type e = if is_integer type && is_integer (operand e).type then Some type else None

abbrev pub cast_form : Span → Specifiers → Span → CType → Expr → Checked Judged
cast_form left words right type e = or_fault (cast_type type e) (λ type. Typed (Cast type left words right e)) left.from k.Operand

-- the same, where the operand is judged
abbrev pub cast_judged : Span → Specifiers → Span → s.Expr → CType → Judged → Checked Judged
cast_judged left words right source type j = value_in source j >>= cast_form left words right type

abbrev pub judged_cast : List StructType → Span → Specifiers → Span → s.Expr → Checked Judged → Checked Judged
judged_cast structs left words right source x = do
  type ← object_words (named_type structs words) words
  e ← x >>= value_in source
  cast_form left words right type e

abbrev pub element_type : List StructType → Operand → Operand → Option CType
element_type structs base index = if are_pointer_and_steps structs base index then Some (target_of base.type) else None

abbrev pub element_form : List StructType → Span → Span → Expr → Expr → Checked Judged
element_form structs left right e f = or_fault (element_type structs (operand e) (operand f)) (λ type. Typed (Index type e left f right)) left.from k.Operand

-- the same, where the index is judged
abbrev pub element_judged : List StructType → Span → Span → s.Expr → Expr → Judged → Checked Judged
element_judged structs left right source e j = value_in source j >>= element_form structs left right e

abbrev pub judged_index : List StructType → Span → Span → (base index : s.Expr) → (x y : Checked Judged) → Checked Judged
judged_index structs left right base index x y = do
  e ← x >>= value_in base
  f ← y >>= value_in index
  element_form structs left right e f

-- the type from which a member is selected; `void` has none
abbrev pub selected_type : MemberOperator → Expr → CType
selected_type m.Dot e = type_at e
selected_type m.Arrow e = if is_pointer (operand e).type then target_of (operand e).type else Void

abbrev pub found_member : Option Member → Expr → MemberOperator → Span → Name → Checked Judged
found_member (Some x) e operator at member = Ok (Typed (Select x.type e operator at member x.offset))
found_member None e operator at member = fault at.from k.Member

abbrev pub select_from : List StructType → MemberOperator → Span → Name → Option Expr → Checked Judged
select_from structs operator at member (Some e) = found_member (member_of structs (selected_type operator e) member.number) e operator at member
select_from structs operator at member None = fault at.from k.Member

abbrev pub judged_select : List StructType → MemberOperator → Span → Name → s.Expr → Checked Judged → Checked Judged
judged_select structs operator at member source x = do
  e ← x >>= place_in source
  select_from structs operator at member e

-- an expression by itself
abbrev pub judged : Scope → s.Expr → Checked Judged
judged scope (s.Variable name) = Ok (judged_name (meaning_of scope name.number) name)
judged scope (s.Number number span) = judged_number number span
judged scope (s.Parenthesis left e right) = judged scope e >>= (λ x. Ok (in_parentheses left right x))
judged scope (s.Binary l operator at r) = judged_binary scope.structs operator at l r (judged scope l) (judged scope r)
judged scope (s.Prefix operator at e) = judged_prefix operator at e (judged scope e)
judged scope (s.Cast left words right e) = judged_cast scope.structs left words right e (judged scope e)
judged scope (s.Index base left index right) = judged_index scope.structs left right base index (judged scope base) (judged scope index)
judged scope (s.Select e operator at member) = judged_select scope.structs operator at member e (judged scope e)

-- ---- expressions in their places

abbrev pub typed_value : Scope → s.Expr → Checked Expr
typed_value scope e = judged scope e >>= value_in e

abbrev pub typed_condition : Scope → s.Expr → Checked (Cond (Unit {0}))
typed_condition scope e = judged scope e >>= condition_in e

abbrev pub typed_place : Scope → s.Expr → Checked (Option Expr)
typed_place scope e = judged scope e >>= place_in e
