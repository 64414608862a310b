-- What becomes of C's operators in Cminor (ISO/IEC 9899:1999, 6.5.2 to 6.5.12; CerCo, deliverable 3.3): operands are words, each
-- the value of its integer type extended to two bytes, or an address. Steps of pointers are sums of addresses and bytes.
use Rattle.std.specs.Prelude.{ℕ, ◌+◌, ◌-◌, ◌*◌, ◌%◌, Bool, true, false, Option, Some, None, nat_eq, if◌then◌else◌}
use Rattle.cerco_middle.specs.declared.operators.Held.TheVariants.{U8, I8}
use Rattle.cerco_middle.specs.declared.operators.CmOp.{CmOp}
use Rattle.cerco_middle.specs.declared.operators.CmOp.TheVariants.{Add, Sub, Mul, Div, Rem, And, Or, Xor, Eq, Ne, LtS, LtU, LeS, LeU}
use Rattle.cerco_middle.specs.Cminor.Trees.{CmExpr, Const, Var, Load, Neg, Complement, Narrow, Bin, Shl, Shr}
use Rattle.clight_source.specs.declared.tree.BinaryOperator.{BinaryOperator}
use Rattle.clight_source.specs.declared.tree.BinaryOperator.TheVariants as o
use Rattle.c_types.specs.declared.integers.IntegerType.{IntegerType}
use Rattle.c_types.specs.declared.integers.Size.TheVariants.{One}
use Rattle.c_types.specs.Types.{CType, Integer}
use Rattle.c_types.specs.Kinds.{is_scalar}
use Rattle.c_types.specs.Conversions.{common_integer}
pub use Rattle.clight_programs.specs.Numbers.{shift_for}
pub use Rattle.flat_memory.specs.HeldTypes.{held_of}

-- ---- types

-- the value at an address: an array or a struct is its address
abbrev pub read_at : CType → CmExpr → CmExpr
read_at T e = if is_scalar T then Load (held_of T) e else e

-- a conversion, which drops bytes where the type has one
abbrev pub cast_to : CType → CmExpr → CmExpr
cast_to (Integer One false) e = Narrow U8 e
cast_to (Integer One true) e = Narrow I8 e
cast_to T e = e

-- ---- steps of pointers

abbrev pub constant_of : CmExpr → Option ℕ
constant_of (Const number) = Some number
constant_of (Var x) = None
constant_of (Load h e) = None
constant_of (Neg e) = None
constant_of (Complement e) = None
constant_of (Narrow h e) = None
constant_of (Bin o a b) = None
constant_of (Shl k e) = None
constant_of (Shr k arithmetic e) = None

abbrev pub with_constant : Option ℕ → CmExpr → ℕ → CmExpr
with_constant (Some number) e offset = Const ((number + offset) % 65536)
with_constant None e offset = if nat_eq offset 0 then e else Bin Add e (Const offset)

-- an address so many bytes further on: one number, where the address is a number
abbrev pub with_offset : CmExpr → ℕ → CmExpr
with_offset e offset = with_constant (constant_of e) e offset

-- so many bytes further on or back
abbrev pub offset_by : Bool → ℕ → ℕ
offset_by false bytes = bytes % 65536
offset_by true bytes = (65536 - bytes % 65536) % 65536

abbrev pub shifted : ℕ → CmExpr → CmExpr
shifted k e = if nat_eq k 0 then e else Shl k e

-- by a word over elements whose size is a power of 2, or is none and then the word is an unsigned byte, whose product comes first
abbrev pub step_over : Option ℕ → ℕ → Bool → CmExpr → CmExpr → CmExpr
step_over (Some k) size false pointer e = Bin Add pointer (shifted k e)
step_over (Some k) size true pointer e = Bin Sub pointer (shifted k e)
step_over None size false pointer e = Bin Add (Bin Mul e (Const (size % 65536))) pointer
step_over None size true pointer e = Bin Add (Neg (Bin Mul e (Const (size % 65536)))) pointer

-- a step over elements of a size by a number, or by a word
abbrev pub step : Option ℕ → ℕ → Bool → CmExpr → CmExpr → CmExpr
step (Some number) size back pointer e = with_offset pointer (offset_by back (number * size))
step None size back pointer e = step_over (shift_for size) size back pointer e

-- ---- operators on two operands

-- what is known of an operand besides its value: its type, where it is an integer, and its number, where it is one
pub record Operand : Type 0 where
  pub integer : Option IntegerType
  pub number : Option ℕ

-- whether two operands are compared as signed numbers
abbrev pub signed_between : Option IntegerType → Option IntegerType → Bool
signed_between (Some I) (Some J) = (common_integer I J).signed
signed_between _ _ = false

abbrev pub signed_at : Option IntegerType → Bool
signed_at (Some I) = I.signed
signed_at None = false

abbrev pub less : Bool → CmOp
less true = LtS
less false = LtU

abbrev pub at_most : Bool → CmOp
at_most true = LeS
at_most false = LeU

-- of a pointer and an integer, in either order
abbrev pub pointer_sum : Option IntegerType → ℕ → Bool → Operand → Operand → CmExpr → CmExpr → CmExpr
pointer_sum (Some I) size back l r x y = step l.number size back y x
pointer_sum None size back l r x y = step r.number size back x y

-- a sum or a difference: over elements of so many bytes where it is a pointer
abbrev pub sum : Option ℕ → Bool → Operand → Operand → CmExpr → CmExpr → CmExpr
sum None false l r x y = Bin Add x y
sum None true l r x y = Bin Sub x y
sum (Some size) back l r x y = pointer_sum l.integer size back l r x y

-- a shift is by a number
abbrev pub bits_of : Option ℕ → ℕ
bits_of None = 0
bits_of (Some n) = n % 256

abbrev pub operation : Option ℕ → BinaryOperator → Operand → Operand → CmExpr → CmExpr → CmExpr
operation size o.Add l r x y = sum size false l r x y
operation size o.Subtract l r x y = sum size true l r x y
operation size o.Multiply l r x y = Bin Mul x y
operation size o.Divide l r x y = Bin Div x y
operation size o.Remainder l r x y = Bin Rem x y
operation size o.BitAnd l r x y = Bin And x y
operation size o.BitOr l r x y = Bin Or x y
operation size o.BitXor l r x y = Bin Xor x y
operation size o.ShiftLeft l r x y = Shl (bits_of r.number) x
operation size o.ShiftRight l r x y = Shr (bits_of r.number) (signed_at l.integer) x
operation size o.Equal l r x y = Bin Eq x y
operation size o.NotEqual l r x y = Bin Ne x y
operation size o.Less l r x y = Bin (less (signed_between l.integer r.integer)) x y
operation size o.Greater l r x y = Bin (less (signed_between l.integer r.integer)) y x
operation size o.LessOrEqual l r x y = Bin (at_most (signed_between l.integer r.integer)) x y
operation size o.GreaterOrEqual l r x y = Bin (at_most (signed_between l.integer r.integer)) y x
-- these two are in conditions alone
operation size o.LogicalAnd l r x y = x
operation size o.LogicalOr l r x y = x
