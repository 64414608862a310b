-- Expressions whose types fit their operands (ISO/IEC 9899:1999, 6.5, in the compiler's profile), as far as a compiler needs it: a place
-- is asked no more than its parts.
use Rattle.std.specs.Prelude.{◌≡◌, ℕ, ◌^◌, ◌<◌, ◌⊎◌, List, Option, Some, None, slice_get, true, false}
use Rattle.clight_source.specs.declared.tree.BinaryOperator.{BinaryOperator}
use Rattle.clight_source.specs.declared.tree.BinaryOperator.TheVariants as o
use Rattle.clight_source.specs.declared.tree.PrefixOperator.TheVariants.{Negate, Complement, Not as NotPrefix, Dereference, AddressOf}
use Rattle.clight_source.specs.declared.tree.MemberOperator.TheVariants.{Dot, Arrow}
use Rattle.c_types.specs.declared.integers.Size.TheVariants.{Two}
use Rattle.c_types.specs.Types.{CType, Integer, Pointer, StructType, size_of}
use Rattle.c_types.specs.Kinds.{value_type}
use Rattle.c_types.specs.Conversions.{int, unsigned_char, promoted, common}
use Rattle.clight_syntax.specs.declared.typed.Home.{Home}
use Rattle.clight_syntax.specs.declared.typed.Home.TheVariants as h
use Rattle.clight_syntax.specs.TypedTrees.{Expr, Variable, Number, Parenthesis, Binary, Prefix, Cast, Index, Select, type_at, Cond, Truth, InParentheses, Not, Both, Either, Function, Variable', TypedProgram}
use Rattle.clight_programs.specs.Numbers.{as_number}
use Rattle.clight_programs.specs.Scopes.{IsShortInteger, IsVariable}

-- a constant of this type and value
abbrev pub IsConstant : CType → ℕ → Type 0
IsConstant T n = (T ≡ Integer Two false) × (n < 65536) ⊎ (T ≡ Integer Two true) × (n < 32768)

-- ---- operands

-- an integer operand, perhaps a number, steps over elements of a size
abbrev pub StepsOver : ℕ → CType → Option ℕ → Type 0
StepsOver size T number = IsShortInteger T × (((n : ℕ) × (number ≡ Some n) × IsConstant T n) ⊎ ((k : ℕ) × (k < 16) × (2 ^ k ≡ size)) ⊎ ((T ≡ unsigned_char) × (size < 256)))

-- a pointer of the type T, and an integer that steps over what it points to
abbrev pub StepsFit : List StructType → CType → CType → CType → Option ℕ → Type 0
StepsFit structs T L R number = (target : CType) × (T ≡ Pointer target) × (value_type L ≡ T) × StepsOver (size_of structs target) R number

abbrev pub IsPointer : CType → Type 0
IsPointer T = (target : CType) × (value_type T ≡ Pointer target)

-- two pointers, or one and the number 0
abbrev pub AreComparable : CType → CType → Option ℕ → Option ℕ → Type 0
AreComparable L R l r = (IsPointer L × IsPointer R) ⊎ (IsPointer L × IsShortInteger R × (r ≡ Some 0)) ⊎ (IsShortInteger L × (l ≡ Some 0) × IsPointer R)

-- an operator where an operand is a pointer
abbrev pub PointersFit : List StructType → CType → BinaryOperator → CType → CType → Option ℕ → Option ℕ → Type 0
PointersFit structs T o.Add L R l r = (IsShortInteger L × StepsFit structs T R L l) ⊎ StepsFit structs T L R r
PointersFit structs T o.Subtract L R l r = StepsFit structs T L R r
PointersFit structs T o.Equal L R l r = (T ≡ int) × AreComparable L R l r
PointersFit structs T o.NotEqual L R l r = (T ≡ int) × AreComparable L R l r
PointersFit structs T o.Less L R l r = (T ≡ int) × IsPointer L × IsPointer R
PointersFit structs T o.Greater L R l r = (T ≡ int) × IsPointer L × IsPointer R
PointersFit structs T o.LessOrEqual L R l r = (T ≡ int) × IsPointer L × IsPointer R
PointersFit structs T o.GreaterOrEqual L R l r = (T ≡ int) × IsPointer L × IsPointer R
PointersFit structs T operator L R l r = ⊥

-- an operator on two integers
abbrev pub IntegersFit : CType → BinaryOperator → CType → CType → Option ℕ → Type 0
IntegersFit T o.Add L R r = T ≡ common L R
IntegersFit T o.Subtract L R r = T ≡ common L R
IntegersFit T o.BitAnd L R r = T ≡ common L R
IntegersFit T o.BitOr L R r = T ≡ common L R
IntegersFit T o.BitXor L R r = T ≡ common L R
IntegersFit T o.Multiply L R r = (T ≡ int) × (L ≡ unsigned_char) × (R ≡ unsigned_char)
IntegersFit T o.Divide L R r = (T ≡ int) × (L ≡ unsigned_char) × (R ≡ unsigned_char)
IntegersFit T o.Remainder L R r = (T ≡ int) × (L ≡ unsigned_char) × (R ≡ unsigned_char)
IntegersFit T o.ShiftLeft L R r = (T ≡ promoted L) × ((n : ℕ) × (r ≡ Some n) × (n < 16))
IntegersFit T o.ShiftRight L R r = (T ≡ promoted L) × ((n : ℕ) × (r ≡ Some n) × (n < 16))
IntegersFit T o.LogicalAnd L R r = ⊥
IntegersFit T o.LogicalOr L R r = ⊥
IntegersFit T comparison L R r = T ≡ int

abbrev pub OperandsFit : List StructType → CType → BinaryOperator → CType → CType → Option ℕ → Option ℕ → Type 0
OperandsFit structs T operator L R l r = (IsShortInteger L × IsShortInteger R × IntegersFit T operator L R r) ⊎ PointersFit structs T operator L R l r

-- ---- places

-- a scalar that lives in no block isn't in external RAM
abbrev pub LivesInRam : Home → Type 0
LivesInRam (h.Global b) = Unit {0}
LivesInRam (h.Block b) = Unit {0}
LivesInRam (h.Scalar n) = ⊥

abbrev pub IsInRam : Option Variable' → Type 0
IsInRam None = ⊥
IsInRam (Some x) = LivesInRam x.home

-- 6.5.3.2: an operand of `&` is a variable in external RAM, a member, an element, or what a pointer points to
abbrev pub HasAddress : {L : Type 0} → TypedProgram L → Expr → Type 0
HasAddress p (Variable T n name) = IsInRam (slice_get p.variables n)
HasAddress p (Parenthesis T left e right) = HasAddress p e
HasAddress p (Prefix T Dereference at e) = Unit {0}
HasAddress p (Index T base left index right) = Unit {0}
HasAddress p (Select T e operator at name offset) = Unit {0}
HasAddress p e = ⊥

-- ---- expressions

abbrev pub IsTyped : {L : Type 0} → TypedProgram L → Function L → Expr → Type 0
IsTyped p f (Variable T n name) = IsVariable p f n T
IsTyped p f (Number T number span) = IsConstant T number.value
IsTyped p f (Parenthesis T left e right) = (T ≡ type_at e) × IsTyped p f e
IsTyped p f (Binary T l operator at r) = IsTyped p f l × IsTyped p f r × OperandsFit p.structs T operator (type_at l) (type_at r) (as_number l) (as_number r)
IsTyped p f (Prefix T Negate at e) = IsTyped p f e × IsShortInteger (type_at e) × (T ≡ promoted (type_at e))
IsTyped p f (Prefix T Complement at e) = IsTyped p f e × IsShortInteger (type_at e) × (T ≡ promoted (type_at e))
IsTyped p f (Prefix T Dereference at e) = IsTyped p f e × (value_type (type_at e) ≡ Pointer T)
IsTyped p f (Prefix T AddressOf at e) = IsTyped p f e × HasAddress p e × (T ≡ Pointer (type_at e))
IsTyped p f (Prefix T NotPrefix at e) = ⊥
IsTyped p f (Cast T left words right e) = IsTyped p f e × IsShortInteger T × IsShortInteger (type_at e)
IsTyped p f (Index T base left index right) =
    IsTyped p f base × IsTyped p f index × (value_type (type_at base) ≡ Pointer T) × StepsOver (size_of p.structs T) (type_at index) (as_number index)
IsTyped p f (Select T e Dot at name offset) = IsTyped p f e
IsTyped p f (Select T e Arrow at name offset) = IsTyped p f e × IsPointer (type_at e)

abbrev pub IsTypedCond : {L M : Type 0} → TypedProgram L → Function L → Cond M → Type 0
IsTypedCond p f (Truth e) = IsTyped p f e
IsTypedCond p f (InParentheses left c right) = IsTypedCond p f c
IsTypedCond p f (Not at c) = IsTypedCond p f c
IsTypedCond p f (Both l at on_true on_false r) = IsTypedCond p f l × IsTypedCond p f r
IsTypedCond p f (Either l at on_true on_false r) = IsTypedCond p f l × IsTypedCond p f r
