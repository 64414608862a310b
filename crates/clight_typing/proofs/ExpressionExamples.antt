-- The types of small expressions and the faults in them, computed.
use Rattle.std.proofs.Common.{◌≡◌, ℕ, ◌+◌, Bool, true, false, List, [], ◌∷◌, map, refl}
use Rattle.std.specs.Prelude.{Option, Some, None, Result, Ok, Err}
use Rattle.cerco_base.specs.declared.reasons.TypeKind.{TypeKind}
use Rattle.cerco_base.specs.declared.reasons.TypeKind.TheVariants as k
use Rattle.clight_source.specs.declared.symbol.Radix.TheVariants.{Decimal, Octal, Hexadecimal}
use Rattle.clight_source.specs.declared.tree.BinaryOperator.TheVariants as b
use Rattle.clight_source.specs.declared.tree.PrefixOperator.TheVariants as o
use Rattle.clight_source.specs.declared.tree.Specifiers.TheVariants as t
use Rattle.clight_source.specs.Trees.{Expr, Number}
use Rattle.clight_syntax.specs.TypedTrees.{type_at, Cond}
use Rattle.c_types.specs.declared.integers.Size.TheVariants.{One, Two, Four}
use Rattle.c_types.specs.Types.{CType, Void, Integer, Pointer, Array, Struct, Member, StructType}
use Rattle.c_types.specs.Conversions.{common, unsigned_char, int, unsigned_int, long, unsigned_long}
use Rattle.clight_syntax.specs.LiteralTypes.{literal_type}
use Rattle.c_types.specs.Kinds.{value_type}
use Rattle.clight_types.specs.Scopes.{Scope, Named, Meaning, Meanings, Object, Code, declare, nothing, visible}
use Rattle.clight_types.specs.TypedExpressions.{Checked, typed_value, typed_condition, ◌>>=◌}
use Rattle.clight_typing.proofs.Samples.{at, name, literal, var, num, par, bin, pre, cast, idx, dot, arrow}

abbrev signed_char : CType
signed_char = Integer One true

-- ---- constants and common types

constants :
    map literal_type (literal 32767 Decimal false ∷ literal 32768 Decimal false ∷ literal 0 Decimal true ∷ literal 65535 Decimal true
    ∷ literal 32767 Hexadecimal false ∷ literal 32768 Hexadecimal false ∷ literal 65535 Octal false ∷ literal 7 Octal true ∷ [])
    ≡ int ∷ long ∷ unsigned_int ∷ unsigned_int ∷ int ∷ unsigned_int ∷ unsigned_int ∷ unsigned_int ∷ []
constants = refl

long_constants :
    map literal_type (literal 65536 Decimal false ∷ literal 65536 Hexadecimal false ∷ literal 4294967295 Hexadecimal false ∷ literal 65536 Decimal true ∷ [])
    ≡ long ∷ long ∷ unsigned_long ∷ unsigned_long ∷ []
long_constants = refl

common_types :
    common unsigned_char unsigned_char ∷ common signed_char unsigned_char ∷ common unsigned_char unsigned_int ∷ common int unsigned_int
    ∷ common int signed_char ∷ common long unsigned_int ∷ common unsigned_long long ∷ common unsigned_char long ∷ []
    ≡ int ∷ int ∷ unsigned_int ∷ unsigned_int ∷ int ∷ long ∷ unsigned_long ∷ long ∷ []
common_types = refl

-- ---- a scope

-- struct { int m; unsigned char n; }, of 3 bytes
abbrev pub triple : StructType
triple = record {
  tag = 20;
  members = record { name = 21; type = int; offset = 0 } ∷ record { name = 22; type = unsigned_char; offset = 2 } ∷ [];
  size = 3;
}

abbrev pub object : ℕ → CType → Named
object number type = record { name = number; meaning = Object number type }

-- u: unsigned char; i: int; w: unsigned int; c: signed char; p: unsigned char *; q: struct *; a: unsigned char [4]; s: struct;
-- r: struct [2]; j: int *; f: unsigned char f(int)
abbrev behind : List Named → Meanings
behind [] = nothing
behind (x ∷ rest) = declare x (behind rest)

abbrev pub scope : Scope
scope = visible (triple ∷ []) (behind (
    object 0 unsigned_char ∷ object 1 int ∷ object 2 unsigned_int ∷ object 3 signed_char ∷ object 4 (Pointer unsigned_char)
    ∷ object 5 (Pointer (Struct 0)) ∷ object 6 (Array unsigned_char 4) ∷ object 7 (Struct 0) ∷ object 8 (Array (Struct 0) 2) ∷ object 9 (Pointer int)
    ∷ record { name = 10; meaning = Code 0 (record { result = unsigned_char; parameters = int ∷ [] }) } ∷ []))

abbrev u : Expr
u = var 0 50

abbrev i : Expr
i = var 1 51

abbrev w : Expr
w = var 2 52

abbrev c : Expr
c = var 3 53

abbrev p : Expr
p = var 4 54

abbrev q : Expr
q = var 5 55

abbrev a : Expr
a = var 6 56

abbrev s : Expr
s = var 7 57

abbrev r : Expr
r = var 8 58

abbrev j : Expr
j = var 9 59

abbrev f : Expr
f = var 10 60

data Answer : Type 0 where
  has : CType → Answer
  no : ℕ → TypeKind → Answer

abbrev answer : {A : Type 0} → (A → CType) → Checked A → Answer
answer type_of (Ok x) = has (type_of x)
answer type_of (Err x) = no x.at x.kind

-- the type of an expression's value
abbrev value : Expr → Answer
value e = answer (λ t. value_type (type_at t)) (typed_value scope e)

-- any type stands for a condition
abbrev condition : Expr → Answer
condition e = answer (λ t. Void) (typed_condition scope e)

-- ---- types

arithmetic :
    map value (bin u b.Add 1 u ∷ bin c b.Subtract 1 u ∷ bin u b.BitAnd 1 w ∷ bin i b.BitXor 1 c ∷ bin u b.BitOr 1 u ∷ bin u b.Multiply 1 (par 2 u)
    ∷ bin u b.Divide 1 u ∷ bin u b.Remainder 1 u ∷ pre o.Negate 1 u ∷ pre o.Complement 1 w ∷ pre o.Negate 1 (num 1 2)
    ∷ bin u b.ShiftLeft 1 (num 15 2) ∷ bin w b.ShiftRight 1 (par 2 (num 0 3)) ∷ bin u b.Less 1 w ∷ bin u b.Equal 1 c
    ∷ cast 1 (t.UnsignedChar (at 2) (at 3)) i ∷ cast 1 (t.Signed (at 2)) u ∷ [])
    ≡ has int ∷ has int ∷ has unsigned_int ∷ has int ∷ has int ∷ has int
    ∷ has int ∷ has int ∷ has int ∷ has unsigned_int ∷ has int
    ∷ has int ∷ has unsigned_int ∷ has int ∷ has int
    ∷ has unsigned_char ∷ has int ∷ []
arithmetic = refl

pointers :
    map value (bin p b.Add 1 i ∷ bin i b.Add 1 p ∷ bin p b.Subtract 1 w ∷ bin a b.Add 1 u ∷ bin q b.Add 1 u ∷ bin q b.Add 1 (num 700 2) ∷ bin j b.Add 1 i
    ∷ idx a 1 i ∷ idx r 1 u ∷ idx r 1 (par 2 (num 1 3)) ∷ pre o.Dereference 1 p ∷ pre o.Dereference 1 a ∷ pre o.AddressOf 1 u ∷ pre o.AddressOf 1 (par 2 s)
    ∷ dot s 1 22 ∷ dot (par 1 s) 2 21 ∷ arrow q 1 21 ∷ arrow r 1 22 ∷ dot (idx r 1 u) 2 22 ∷ dot (pre o.Dereference 1 q) 2 21
    ∷ bin p b.Equal 1 a ∷ bin p b.Less 1 p ∷ bin p b.NotEqual 1 (num 0 2) ∷ bin (par 1 (num 0 2)) b.Equal 3 q ∷ pre o.AddressOf 1 (pre o.Dereference 2 p) ∷ [])
    ≡ has (Pointer unsigned_char) ∷ has (Pointer unsigned_char) ∷ has (Pointer unsigned_char) ∷ has (Pointer unsigned_char) ∷ has (Pointer (Struct 0)) ∷ has (Pointer (Struct 0)) ∷ has (Pointer int)
    ∷ has unsigned_char ∷ no 1 k.Value ∷ no 1 k.Value ∷ has unsigned_char ∷ has unsigned_char ∷ has (Pointer unsigned_char) ∷ has (Pointer (Struct 0))
    ∷ has unsigned_char ∷ has int ∷ has int ∷ has unsigned_char ∷ has unsigned_char ∷ has int
    ∷ has int ∷ has int ∷ has int ∷ has int ∷ has (Pointer unsigned_char) ∷ []
pointers = refl

-- ---- faults

-- each kind at its plain place
plain_faults :
    map value (num 32768 1 ∷ cast 1 (t.Long (at 2)) u ∷ cast 1 (t.UnsignedLongInt (at 2) (at 3) (at 4)) u ∷ cast 1 (t.Void (at 2)) u
    ∷ dot u 1 21 ∷ arrow s 1 21 ∷ dot s 1 23 ∷ dot q 1 21 ∷ dot f 1 21 ∷ arrow f 1 21
    ∷ bin u b.Multiply 1 i ∷ bin p b.Add 1 p ∷ pre o.Negate 1 p ∷ pre o.Dereference 1 u ∷ pre o.AddressOf 1 (num 1 2) ∷ pre o.AddressOf 1 a ∷ pre o.AddressOf 1 f
    ∷ cast 1 (t.Int (at 2)) p ∷ cast 1 (t.Struct (at 2) (name 20 3)) u ∷ idx i 1 p ∷ bin p b.Less 1 j ∷ bin p b.Equal 1 u ∷ bin p b.Less 1 (num 0 2) ∷ bin i b.Subtract 1 p
    ∷ bin u b.Divide 1 c ∷ bin i b.Remainder 1 u ∷ bin u b.ShiftLeft 1 (num 16 2) ∷ bin u b.ShiftRight 1 u ∷ bin p b.ShiftLeft 1 (num 1 2)
    ∷ s ∷ f ∷ pre o.Not 1 u ∷ bin u b.LogicalAnd 1 u ∷ bin u b.LogicalOr 1 u ∷ [])
    ≡ no 1 k.Long ∷ no 2 k.Long ∷ no 2 k.Long ∷ no 2 k.Void
    ∷ no 1 k.Member ∷ no 1 k.Member ∷ no 1 k.Member ∷ no 1 k.Member ∷ no 1 k.Member ∷ no 1 k.Member
    ∷ no 1 k.Operand ∷ no 1 k.Operand ∷ no 1 k.Operand ∷ no 1 k.Operand ∷ no 1 k.Operand ∷ no 1 k.Operand ∷ no 1 k.Operand
    ∷ no 1 k.Operand ∷ no 1 k.Operand ∷ no 1 k.Operand ∷ no 1 k.Operand ∷ no 1 k.Operand ∷ no 1 k.Operand ∷ no 1 k.Operand
    ∷ no 1 k.Division ∷ no 1 k.Division ∷ no 1 k.Shift ∷ no 1 k.Shift ∷ no 1 k.Shift
    ∷ no 57 k.Value ∷ no 60 k.Value ∷ no 1 k.Value ∷ no 1 k.Value ∷ no 1 k.Value ∷ []
plain_faults = refl

-- An integer steps over what its type and value allow: an `int` not over a struct of 3 bytes.
steps :
    map value (bin q b.Add 1 i ∷ bin i b.Add 1 q ∷ bin q b.Subtract 1 w ∷ idx r 1 i ∷ idx q 1 c ∷ bin q b.Add 1 (bin u b.Add 2 u) ∷ bin q b.Subtract 1 u ∷ [])
    ≡ no 1 k.Operand ∷ no 1 k.Operand ∷ no 1 k.Operand ∷ no 1 k.Operand ∷ no 1 k.Operand ∷ no 1 k.Operand ∷ has (Pointer (Struct 0)) ∷ []
steps = refl

-- where two nodes compete: parts before the whole, and the left part first
competing_faults :
    map value (bin (num 1 0) b.Divide 1 (par 2 (bin (num 2 3) b.Multiply 4 (num 3 5))) ∷ bin s b.Add 1 (num 40000 2) ∷ bin (num 40000 1) b.Add 2 s
    ∷ pre o.Negate 1 s ∷ pre o.Dereference 1 f ∷ idx s 1 (num 1 2) ∷ idx f 1 s ∷ cast 1 (t.Void (at 2)) (num 40000 3) ∷ cast 1 (t.Int (at 2)) s
    ∷ par 1 s ∷ par 1 (par 2 s) ∷ par 1 f ∷ par 1 (par 2 (pre o.Not 3 u)) ∷ pre o.Not 1 (par 2 (bin u b.LogicalAnd 3 u)) ∷ pre o.Not 1 s ∷ pre o.Not 1 f ∷ pre o.Not 1 (par 2 f)
    ∷ pre o.AddressOf 1 (par 2 f) ∷ bin (num 1 1) b.LogicalAnd 2 (par 3 f) ∷ arrow (par 1 (par 2 f)) 3 21 ∷ bin s b.LogicalOr 1 (num 40000 2) ∷ pre o.AddressOf 1 (pre o.Not 2 u) ∷ dot (par 1 f) 2 21 ∷ dot (pre o.Dereference 1 u) 2 21 ∷ bin (pre o.Not 1 u) b.Add 2 s ∷ [])
    ≡ no 4 k.Operand ∷ no 57 k.Value ∷ no 1 k.Long
    ∷ no 57 k.Value ∷ no 60 k.Value ∷ no 57 k.Value ∷ no 60 k.Value ∷ no 2 k.Void ∷ no 57 k.Value
    ∷ no 1 k.Value ∷ no 1 k.Value ∷ no 60 k.Value ∷ no 3 k.Value ∷ no 1 k.Value ∷ no 57 k.Condition ∷ no 60 k.Condition ∷ no 60 k.Condition
    ∷ no 1 k.Operand ∷ no 60 k.Condition ∷ no 3 k.Member ∷ no 57 k.Condition ∷ no 2 k.Value ∷ no 2 k.Member ∷ no 1 k.Operand ∷ no 1 k.Value ∷ []
competing_faults = refl

conditions :
    map condition (u ∷ p ∷ a ∷ pre o.Not 1 p ∷ par 1 (bin (par 2 (bin u b.LogicalOr 3 p)) b.LogicalAnd 4 (pre o.Not 5 (par 6 u))) ∷ s ∷ f ∷ par 1 s ∷ par 1 (par 2 f)
    ∷ pre o.Not 1 (dot s 2 23) ∷ bin (bin p b.Add 1 p) b.LogicalAnd 2 f ∷ bin u b.LogicalAnd 2 f ∷ bin (pre o.Not 1 u) b.Equal 2 u ∷ [])
    ≡ has Void ∷ has Void ∷ has Void ∷ has Void ∷ has Void ∷ no 57 k.Condition ∷ no 60 k.Condition ∷ no 1 k.Condition ∷ no 60 k.Condition
    ∷ no 2 k.Member ∷ no 1 k.Operand ∷ no 60 k.Condition ∷ no 1 k.Value ∷ []
conditions = refl
