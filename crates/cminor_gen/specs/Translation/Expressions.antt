-- What becomes of C's expressions and conditions in Cminor (ISO/IEC 9899:1999, 6.5; CerCo, deliverable 3.3): a scalar that lives in
-- no block is a variable of its call, and each other place is its address. Conversions to two bytes need no operation, since a
-- variable and a load extend what they hold.
use Rattle.std.specs.Prelude.{false, ℕ, ◌%◌, List, Option, Some, None, slice_get, map}
use Rattle.cerco_base.specs.declared.events.Label.{Label}
use Rattle.cerco_middle.specs.Cminor.Trees as m
use Rattle.cerco_middle.specs.Cminor.Trees.{CmExpr, CmCond}
use Rattle.clight_source.specs.declared.tree.PrefixOperator.{PrefixOperator}
use Rattle.clight_source.specs.declared.tree.MemberOperator.{MemberOperator}
use Rattle.clight_source.specs.declared.tree.PrefixOperator.TheVariants.{Negate, Complement, Not as NotPrefix, Dereference, AddressOf}
use Rattle.clight_source.specs.declared.tree.MemberOperator.TheVariants.{Dot, Arrow}
use Rattle.c_types.specs.Types.{CType, Pointer, StructType, size_of}
use Rattle.c_types.specs.Kinds.{integer_type}
use Rattle.clight_syntax.specs.declared.typed.Home.{Home}
use Rattle.clight_syntax.specs.declared.typed.Home.TheVariants as h
use Rattle.clight_syntax.specs.TypedTrees.{Expr, Variable, Number, Parenthesis, Binary, Prefix, Cast, Index, Select, type_at, Cond, Truth, InParentheses, Not, Both, Either, Variable', TypedProgram, address_at}
pub use Rattle.clight_programs.specs.Numbers.{as_number}
use Rattle.cminor_gen.specs.Translation.Operators.{read_at, cast_to, with_offset, step, Operand, operation}

-- ---- variables

-- the number of a scalar that lives in no block
abbrev pub scalar_of : Home → Option ℕ
scalar_of (h.Global b) = None
scalar_of (h.Block b) = None
scalar_of (h.Scalar n) = Some n

abbrev pub scalar_in : Option Variable' → Option ℕ
scalar_in None = None
scalar_in (Some x) = scalar_of x.home

-- the scalar in no block that a place is
abbrev pub scalar_at : TypedProgram Label → Expr → Option ℕ
scalar_at p (Variable T n name) = scalar_in (slice_get p.variables n)
scalar_at p (Parenthesis T left e right) = scalar_at p e
scalar_at p e = None

-- the value of a variable of this type, a scalar in no block or at an address
abbrev pub variable_value : Option ℕ → CType → ℕ → CmExpr
variable_value (Some n) T address = m.Var n
variable_value None T address = read_at T (m.Const address)

-- ---- expressions

abbrev pub operand_of : Expr → Operand
operand_of e = record { integer = integer_type (type_at e); number = as_number e }

-- the bytes of what a pointer of this type points to
abbrev pub step_size : List StructType → CType → Option ℕ
step_size structs (Pointer target) = Some (size_of structs target)
step_size structs T = None

abbrev mutual
  -- the address of a place
  pub place : TypedProgram Label → Expr → CmExpr
  place p (Variable T n name) = m.Const (address_at p n)
  place p (Parenthesis T left e right) = place p e
  place p (Prefix T Dereference at e) = value p e
  place p (Index T base left index right) = step (as_number index) (size_of p.structs T) false (value p base) (value p index)
  place p (Select T e Dot at name offset) = with_offset (place p e) (offset % 65536)
  place p (Select T e Arrow at name offset) = with_offset (value p e) (offset % 65536)
  place p e = m.Const 0

  pub value : TypedProgram Label → Expr → CmExpr
  value p (Variable T n name) = variable_value (scalar_in (slice_get p.variables n)) T (address_at p n)
  value p (Number T number span) = m.Const (number.value % 65536)
  value p (Parenthesis T left e right) = value p e
  value p (Binary T l o at r) = operation (step_size p.structs T) o (operand_of l) (operand_of r) (value p l) (value p r)
  value p (Prefix T Negate at e) = m.Neg (value p e)
  value p (Prefix T Complement at e) = m.Complement (value p e)
  value p (Prefix T Dereference at e) = read_at T (value p e)
  value p (Prefix T AddressOf at e) = place p e
  -- is in conditions alone
  value p (Prefix T NotPrefix at e) = value p e
  value p (Cast T left words right e) = cast_to T (value p e)
  value p (Index T base left index right) = read_at T (step (as_number index) (size_of p.structs T) false (value p base) (value p index))
  value p (Select T e Dot at name offset) = read_at T (with_offset (place p e) (offset % 65536))
  value p (Select T e Arrow at name offset) = read_at T (with_offset (value p e) (offset % 65536))

-- ---- the same by parts

-- the address of an element
abbrev pub element : TypedProgram Label → CType → Expr → CmExpr → CmExpr → CmExpr
element p T index pointer e = step (as_number index) (size_of p.structs T) false pointer e

-- the address of the struct of which a member is taken
abbrev pub base : TypedProgram Label → MemberOperator → Expr → CmExpr
base p Dot e = place p e
base p Arrow e = value p e

-- what a prefix operator is applied to: a value, but for an address
abbrev pub operand : TypedProgram Label → PrefixOperator → Expr → CmExpr
operand p AddressOf e = place p e
operand p Negate e = value p e
operand p Complement e = value p e
operand p Dereference e = value p e
operand p NotPrefix e = value p e

abbrev pub prefixed : CType → PrefixOperator → CmExpr → CmExpr
prefixed T Negate e = m.Neg e
prefixed T Complement e = m.Complement e
prefixed T Dereference e = read_at T e
prefixed T AddressOf e = e
prefixed T NotPrefix e = e

abbrev pub values : TypedProgram Label → List Expr → List CmExpr
values p es = map (value p) es

-- ---- conditions

abbrev pub condition : TypedProgram Label → Cond Label → CmCond
condition p (Truth e) = m.Test (value p e)
condition p (InParentheses left c right) = condition p c
condition p (Not at c) = m.Not (condition p c)
condition p (Both l at on_true on_false r) = m.Both (condition p l) on_true on_false (condition p r)
condition p (Either l at on_true on_false r) = m.Either (condition p l) on_true on_false (condition p r)
