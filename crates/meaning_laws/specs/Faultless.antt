-- Where a meaning is no fault: entering a call (ISO/IEC 9899:1999, 6.5.2.2), and expressions without division, pointer arithmetic and
-- accesses through pointers (6.5).
use Rattle.std.specs.Prelude.{◌≡◌, ℕ, List, Some, Ok, slice_get}
use Rattle.cerco_base.specs.declared.events.Label.{Label}
use Rattle.clight_source.specs.declared.tree.BinaryOperator.{BinaryOperator}
use Rattle.clight_source.specs.declared.tree.BinaryOperator.TheVariants as o
use Rattle.clight_source.specs.declared.tree.PrefixOperator.TheVariants.{Negate, Complement, AddressOf}
use Rattle.c_types.specs.Types.{CType, Integer, Pointer}
use Rattle.c_types.specs.Kinds.{value_type}
use Rattle.clight_syntax.specs.TypedTrees.{Expr, Variable, Number, Parenthesis, Binary, Prefix, Cast, type_at, Function, TypedProgram, own_variables}
use Rattle.clight_values.specs.declared.value.Value.{Value}
use Rattle.clight_values.specs.declared.value.Value.TheVariants as v
use Rattle.clight_values.specs.Memory.{State}
use Rattle.clight_meaning.specs.Expressions.{value}
use Rattle.clight_meaning.specs.Meaning.{entered, homed}
use Rattle.clight_programs.specs.Expressions.{IsTyped}
use Rattle.clight_programs.specs.Programs.{IsChecked, IsInteger}

-- ---- calls

-- In a checked program, whatever a function is called with, and from whatever state, its fresh variables get their first values.
abbrev pub CallsAreEntered : Type 0
CallsAreEntered =
    (p : TypedProgram Label) → IsChecked p → (h : ℕ) (f : Function Label) → slice_get p.functions h ≡ Some f → (arguments : List Value) (st : State)
    → (begun : State) × (homed (own_variables f p.variables) 0 (entered p f arguments st) ≡ Ok begun)

-- ---- expressions

-- an operator that has a value for all integers: no `/` or `%`, and none of those that are conditions
abbrev pub IsTotal : BinaryOperator → Type 0
IsTotal o.Divide = ⊥
IsTotal o.Remainder = ⊥
IsTotal o.LogicalAnd = ⊥
IsTotal o.LogicalOr = ⊥
IsTotal operator = Unit {0}

-- a variable, in parentheses or not
abbrev pub IsName : Expr → Type 0
IsName (Variable T n name) = Unit {0}
IsName (Parenthesis T left e right) = IsName e
IsName e = ⊥

-- variables and their addresses, numbers, conversions, and operators on integers, without `/` and `%`
abbrev pub IsPlain : Expr → Type 0
IsPlain (Variable T n name) = Unit {0}
IsPlain (Number T number span) = Unit {0}
IsPlain (Parenthesis T left e right) = IsPlain e
IsPlain (Binary T l operator at r) = IsTotal operator × IsInteger (type_at l) × IsInteger (type_at r) × IsPlain l × IsPlain r
IsPlain (Prefix T Negate at e) = IsPlain e
IsPlain (Prefix T Complement at e) = IsPlain e
IsPlain (Prefix T AddressOf at e) = IsName e
IsPlain (Cast T left words right e) = IsPlain e
IsPlain e = ⊥

-- an integer, or a pointer
abbrev pub IsValueOf : CType → Value → Type 0
IsValueOf (Integer size signed) (v.Integer n) = Unit {0}
IsValueOf (Pointer target) v.Null = Unit {0}
IsValueOf (Pointer target) (v.Pointer at) = Unit {0}
IsValueOf T w = ⊥

-- an expression has a value of its type
abbrev pub HasValue : TypedProgram Label → Expr → State → Type 0
HasValue p e st = (w : Value) × (value p e st ≡ Ok w) × IsValueOf (value_type (type_at e)) w

-- the variables whose values are used have some
abbrev pub AreSet : TypedProgram Label → Expr → State → Type 0
AreSet p (Variable T n name) st = HasValue p (Variable T n name) st
AreSet p (Parenthesis T left e right) st = AreSet p e st
AreSet p (Binary T l operator at r) st = AreSet p l st × AreSet p r st
AreSet p (Prefix T Negate at e) st = AreSet p e st
AreSet p (Prefix T Complement at e) st = AreSet p e st
AreSet p (Cast T left words right e) st = AreSet p e st
AreSet p e st = Unit {0}

abbrev pub PlainHaveValues : Type 0
PlainHaveValues = (p : TypedProgram Label) (f : Function Label) (e : Expr) (st : State) → IsTyped p f e → IsPlain e → AreSet p e st → HasValue p e st
