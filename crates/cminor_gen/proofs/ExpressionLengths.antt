-- The code of no expression or condition of the translation is longer than the source's bound.
use Rattle.std.proofs.Common.{ℕ, ◌+◌, ◌*◌, ◌%◌, ◌^◌, ◌≤◌, List, Option, Some, None, Bool, true, false, arith}
use Rattle.std.specs.Prelude.{slice_get, nat_eq, if◌then◌else◌}
use Rattle.cerco_base.specs.declared.events.Label.{Label}
use Rattle.cerco_middle.specs.declared.operators.Held.{Held}
use Rattle.cerco_middle.specs.declared.operators.Held.TheVariants.{U8, I8, W16}
use Rattle.cerco_middle.specs.declared.operators.CmOp.TheVariants.{Add}
use Rattle.cerco_middle.specs.Operators.{held_bytes, word_bytes}
use Rattle.cerco_middle.specs.Lengths.{get_length, put_length, load_length, store_length, argument_length, operator_length, shift_right_length}
use Rattle.cerco_middle.specs.Calls.{variable_held}
use Rattle.cerco_middle.specs.Cminor.Trees as cm
use Rattle.cerco_middle.specs.Cminor.Trees.{CmExpr}
use Rattle.cerco_middle.specs.Cminor.Sums.{expr_length, cond_length}
use Rattle.c_types.specs.declared.integers.IntegerType.{IntegerType}
use Rattle.c_types.specs.declared.integers.Size.TheVariants.{One, Two, Four}
use Rattle.c_types.specs.Types.{CType, Void, Integer, Pointer, Array, Struct, StructType, size_of}
use Rattle.c_types.specs.Kinds.{is_scalar}
use Rattle.clight_source.specs.declared.tree.BinaryOperator.{BinaryOperator}
use Rattle.clight_source.specs.declared.tree.BinaryOperator.TheVariants as o
use Rattle.clight_source.specs.declared.tree.PrefixOperator.TheVariants.{Negate, Complement, Not as NotPrefix, Dereference, AddressOf}
use Rattle.clight_source.specs.declared.tree.MemberOperator.TheVariants.{Dot, Arrow}
use Rattle.clight_syntax.specs.declared.typed.Home.{Home}
use Rattle.clight_syntax.specs.declared.typed.Home.TheVariants as home
use Rattle.clight_syntax.specs.Bounds as b
use Rattle.clight_syntax.specs.TypedTrees.{Expr, Variable, Number, Parenthesis, Binary, Prefix, Cast, Index, Select, Cond, Truth, InParentheses, Not, Both, Either, Function, Variable', TypedProgram, address_at}
use Rattle.clight_programs.specs.Numbers.{as_number, shift_for}
use Rattle.clight_programs.specs.Expressions.{LivesInRam, IsInRam, HasAddress, IsTyped, IsTypedCond}
use Rattle.flat_memory.specs.HeldTypes.{held_of}
use Rattle.cminor_gen.specs.Translation.Operators.{read_at, cast_to, constant_of, with_constant, with_offset, offset_by, shifted, step_over, step, Operand, pointer_sum, sum, less, at_most, bits_of, signed_at, signed_between, operation}
use Rattle.cminor_gen.specs.Translation.Expressions as x

-- ---- operations alone

pub get_short : (h : Held) → get_length h ≤ 15
get_short U8 = omega arith
get_short I8 = omega arith
get_short W16 = omega arith

pub put_short : (h : Held) → put_length h ≤ 9
put_short U8 = omega arith
put_short I8 = omega arith
put_short W16 = omega arith

load_short : (h : Held) → load_length h ≤ 32
load_short U8 = omega arith
load_short I8 = omega arith
load_short W16 = omega arith

pub store_short : (h : Held) → store_length h ≤ 16
store_short U8 = omega arith
store_short I8 = omega arith
store_short W16 = omega arith

pub argument_short : (h : Held) → argument_length h ≤ 8 * held_bytes h
argument_short U8 = omega arith
argument_short I8 = omega arith
argument_short W16 = omega arith

right_short : (t : Bool) (k : ℕ) → shift_right_length word_bytes t k ≤ 3 + 13 * k
right_short true k = omega arith
right_short false k = omega arith

less_short : (t : Bool) → operator_length word_bytes (less t) ≤ 48
less_short true = omega arith
less_short false = omega arith

at_most_short : (t : Bool) → operator_length word_bytes (at_most t) ≤ 48
at_most_short true = omega arith
at_most_short false = omega arith

-- a shift is by no more than the number in the source
bits_few : (e : Expr) → bits_of (as_number e) ≤ b.number_of e
bits_few (Variable T n name) = omega arith
bits_few (Number T number span) = omega arith
bits_few (Parenthesis T lf e rt) = bits_few e
bits_few (Binary T l op at r) = omega arith
bits_few (Prefix T op at e) = omega arith
bits_few (Cast T lf words rt e) = omega arith
bits_few (Index T base lf index rt) = omega arith
bits_few (Select T e op at name offset) = omega arith

-- ---- operators on words

module _ (held : List Held) where
  abbrev long : CmExpr → ℕ
  long e = expr_length held e

  read_length : (T : CType) (e : CmExpr) → long (read_at T e) ≤ long e + b.reading_bound T
  read_length T e = by (is_scalar T)
    where
      by : (t : Bool) → long (if t then cm.Load (held_of T) e else e) ≤ long e + (if t then 32 else 0)
      by true = let h = load_short (held_of T) in omega arith
      by false = omega arith

  cast_length : (T : CType) (e : CmExpr) → long (cast_to T e) ≤ 16 + long e
  cast_length (Integer One true) e = omega arith
  cast_length (Integer One false) e = omega arith
  cast_length (Integer Two g) e = omega arith
  cast_length (Integer Four g) e = omega arith
  cast_length Void e = omega arith
  cast_length (Pointer T) e = omega arith
  cast_length (Array T n) e = omega arith
  cast_length (Struct n) e = omega arith

  offset_length : (number : Option ℕ) (e : CmExpr) (offset : ℕ) → long (with_constant number e offset) ≤ long e + 24
  offset_length (Some n) e offset = omega arith
  offset_length None e offset = by (nat_eq offset 0)
    where
      by : (t : Bool) → long (if t then e else cm.Bin Add e (cm.Const offset)) ≤ long e + 24
      by true = omega arith
      by false = omega arith

  shifted_length : (k : ℕ) (e : CmExpr) → long (shifted k e) ≤ long e + (3 + 12 * k)
  shifted_length k e = by (nat_eq k 0)
    where
      by : (t : Bool) → long (if t then e else cm.Shl k e) ≤ long e + (3 + 12 * k)
      by true = omega arith
      by false = omega arith

  step_over_length : (t : Bool) (k size : ℕ) (back : Bool) (a e : CmExpr) → long (step_over (if t then Some k else None) size back a e) ≤ long a + long e + (80 + 14 * k)
  step_over_length true k size false a e = let q = shifted_length k e in omega arith
  step_over_length true k size true a e = let q = shifted_length k e in omega arith
  step_over_length false k size false a e = omega arith
  step_over_length false k size true a e = omega arith

  -- a step is as long as its bound allows, however many bytes its elements have
  wide_enough : (y i j k : ℕ) → y ≤ i + 24 → y ≤ i + j + (80 + 14 * k)
  wide_enough y i j k le = omega arith

  step_length : (number : Option ℕ) (size : ℕ) (back : Bool) (a e : CmExpr) → long (step number size back a e) ≤ long a + long e + b.step_bound size
  unfolding shift_for
  step_length (Some number) size back a e = wide_enough _ (long a) (long e) (b.exponent_from 16 0 size) (offset_length (constant_of a) a (offset_by back (number * size)))
  step_length None size back a e = step_over_length (nat_eq (2 ^ b.exponent_from 16 0 size) size) (b.exponent_from 16 0 size) size back a e

  turned : (y i j k : ℕ) → y ≤ j + i + k → y ≤ i + j + k
  turned y i j k le = omega arith

  pointer_length : (I : Option IntegerType) (size : ℕ) (back : Bool) (l r : Operand) (a e : CmExpr) → long (pointer_sum I size back l r a e) ≤ long a + long e + b.step_bound size
  pointer_length (Some I) size back l r a e = turned _ (long a) (long e) (b.step_bound size) (step_length l.number size back e a)
  pointer_length None size back l r a e = step_length r.number size back a e

  sum_length : (structs : List StructType) (T : CType) (back : Bool) (l r : Operand) (a e : CmExpr) → long (sum (x.step_size structs T) back l r a e) ≤ long a + long e + b.sum_bound structs T
  sum_length structs (Pointer T) back l r a e = pointer_length l.integer (size_of structs T) back l r a e
  sum_length structs (Integer size g) false l r a e = omega arith
  sum_length structs (Integer size g) true l r a e = omega arith
  sum_length structs Void false l r a e = omega arith
  sum_length structs Void true l r a e = omega arith
  sum_length structs (Array T n) false l r a e = omega arith
  sum_length structs (Array T n) true l r a e = omega arith
  sum_length structs (Struct n) false l r a e = omega arith
  sum_length structs (Struct n) true l r a e = omega arith

  operation_length : (structs : List StructType) (T : CType) (op : BinaryOperator) (l r : Expr) (a e : CmExpr)
      → long (operation (x.step_size structs T) op (x.operand_of l) (x.operand_of r) a e) ≤ long a + long e + b.operator_bound structs T op r
  operation_length structs T o.Add l r a e = sum_length structs T false (x.operand_of l) (x.operand_of r) a e
  operation_length structs T o.Subtract l r a e = sum_length structs T true (x.operand_of l) (x.operand_of r) a e
  operation_length structs T o.Multiply l r a e = omega arith
  operation_length structs T o.Divide l r a e = omega arith
  operation_length structs T o.Remainder l r a e = omega arith
  operation_length structs T o.BitAnd l r a e = omega arith
  operation_length structs T o.BitOr l r a e = omega arith
  operation_length structs T o.BitXor l r a e = omega arith
  operation_length structs T o.ShiftLeft l r a e = let k = bits_few r in omega arith
  operation_length structs T o.ShiftRight l r a e = let k = bits_few r in let q = right_short (signed_at (x.operand_of l).integer) (bits_of (as_number r)) in omega arith
  operation_length structs T o.Equal l r a e = omega arith
  operation_length structs T o.NotEqual l r a e = omega arith
  operation_length structs T o.Less l r a e = let q = less_short (signed_between (x.operand_of l).integer (x.operand_of r).integer) in omega arith
  operation_length structs T o.Greater l r a e = let q = less_short (signed_between (x.operand_of l).integer (x.operand_of r).integer) in omega arith
  operation_length structs T o.LessOrEqual l r a e = let q = at_most_short (signed_between (x.operand_of l).integer (x.operand_of r).integer) in omega arith
  operation_length structs T o.GreaterOrEqual l r a e = let q = at_most_short (signed_between (x.operand_of l).integer (x.operand_of r).integer) in omega arith
  operation_length structs T o.LogicalAnd l r a e = omega arith
  operation_length structs T o.LogicalOr l r a e = omega arith

  -- ---- expressions

  variable_length : (z : Option Variable') (T : CType) (a : ℕ) → long (x.variable_value (x.scalar_in z) T a) ≤ (if b.is_held_in z then 16 else 9 + b.reading_bound T)
  variable_length None T a = read_length T (cm.Const a)
  variable_length (Some v) T a = by v.home
    where
      by : (q : Home) → long (x.variable_value (x.scalar_of q) T a) ≤ (if elim q [ home.Global n ↦ false | home.Block n ↦ false | home.Scalar n ↦ true ] then 16 else 9 + b.reading_bound T)
      by (home.Global n) = read_length T (cm.Const a)
      by (home.Block n) = read_length T (cm.Const a)
      by (home.Scalar n) = let q = get_short (variable_held held n) in omega arith

  -- a variable in external RAM is its address
  ram_length : (z : Option Variable') → IsInRam z → 9 ≤ (if b.is_held_in z then 0 else 9)
  ram_length None is = omega arith
  ram_length (Some v) is = by v.home is
    where
      by : (q : Home) → LivesInRam q → 9 ≤ (if elim q [ home.Global n ↦ false | home.Block n ↦ false | home.Scalar n ↦ true ] then 0 else 9)
      by (home.Global n) is = omega arith
      by (home.Block n) is = omega arith
      by (home.Scalar n) is = absurd is

  module _ (p : TypedProgram Label) (f : Function Label) where
    -- a sum that is read
    read_sum : (y i j m n : ℕ) → i ≤ m → j ≤ n → (s : ℕ) → y ≤ i + j + s → (r z : ℕ) → z ≤ y + r → z ≤ m + n + s + r
    read_sum y i j m n le le' s sum r z read = omega arith

    sums : (y i j m n s : ℕ) → i ≤ m → j ≤ n → y ≤ i + j + s → y ≤ m + n + s
    sums y i j m n s le le' sum = omega arith

    further : (i y m : ℕ) → i ≤ m → y ≤ i + 24 → y ≤ 24 + m
    further i y m le le' = omega arith

    nine : (i m : ℕ) → i ≤ m → i ≤ 9 + m
    nine i m le = omega arith

    -- an element, of whose pointer and index it is known
    element_length : (T : CType) (base : Expr) (lf : _) (index : Expr) (rt : _) → long (x.value p base) ≤ b.value_bound p base → long (x.value p index) ≤ b.value_bound p index
        → long (x.place p (Index T base lf index rt)) ≤ b.place_bound p (Index T base lf index rt)
    element_length T base lf index rt i j =
        sums _ (long (x.value p base)) (long (x.value p index)) (b.value_bound p base) (b.value_bound p index) (b.step_bound (size_of p.structs T)) i j
        (step_length (as_number index) (size_of p.structs T) false (x.value p base) (x.value p index))

    mutual
      -- with an offset the address of any place has its bound, and 24 bytes more
      pub member_length : (e : Expr) → IsTyped p f e → (offset : ℕ) → long (with_offset (x.place p e) offset) ≤ 24 + b.place_bound p e
      member_length (Variable T n name) ty offset = omega arith
      member_length (Number T number span) ty offset = omega arith
      member_length (Parenthesis T lf e rt) ty offset = member_length e ty.1 offset
      member_length (Binary T l op at r) ty offset = omega arith
      member_length (Prefix T Negate at e) ty offset = omega arith
      member_length (Prefix T Complement at e) ty offset = omega arith
      member_length (Prefix T Dereference at e) ty offset = let q = value_length e ty.0 in let k = offset_length (constant_of (x.value p e)) (x.value p e) offset in omega arith
      member_length (Prefix T AddressOf at e) ty offset = omega arith
      member_length (Prefix T NotPrefix at e) ty offset = omega arith
      member_length (Cast T lf words rt e) ty offset = omega arith
      member_length (Index T base lf index rt) ty offset =
          let a = x.place p (Index T base lf index rt) in
          let q = element_length T base lf index rt (value_length base ty.0) (value_length index ty.1) in
          let k = offset_length (constant_of a) a offset in
          further _ _ _ q k
      member_length (Select T e Dot at name offset) ty more =
          let a = with_offset (x.place p e) (offset % 65536) in
          let q = member_length e ty (offset % 65536) in
          let k = offset_length (constant_of a) a more in
          further _ _ _ q k
      member_length (Select T e Arrow at name offset) ty more =
          let a = with_offset (x.value p e) (offset % 65536) in
          let i = value_length e ty.0 in
          let q = offset_length (constant_of (x.value p e)) (x.value p e) (offset % 65536) in
          let k = offset_length (constant_of a) a more in
          omega arith

      -- the address of what has one
      pub place_length : (e : Expr) → IsTyped p f e → HasAddress p e → long (x.place p e) ≤ b.place_bound p e
      place_length (Variable T n name) ty is = ram_length (slice_get p.variables n) is
      place_length (Number T number span) ty is = absurd is
      place_length (Parenthesis T lf e rt) ty is = place_length e ty.1 is
      place_length (Binary T l op at r) ty is = absurd is
      place_length (Prefix T Negate at e) ty is = absurd is
      place_length (Prefix T Complement at e) ty is = absurd is
      place_length (Prefix T Dereference at e) ty is = value_length e ty.0
      place_length (Prefix T AddressOf at e) ty is = absurd is
      place_length (Prefix T NotPrefix at e) ty is = absurd is
      place_length (Cast T lf words rt e) ty is = absurd is
      place_length (Index T base lf index rt) ty is = element_length T base lf index rt (value_length base ty.0) (value_length index ty.1)
      place_length (Select T e Dot at name offset) ty is = member_length e ty (offset % 65536)
      place_length (Select T e Arrow at name offset) ty is =
          let i = value_length e ty.0 in
          let q = offset_length (constant_of (x.value p e)) (x.value p e) (offset % 65536) in
          omega arith

      pub value_length : (e : Expr) → IsTyped p f e → long (x.value p e) ≤ b.value_bound p e
      value_length (Variable T n name) ty = variable_length (slice_get p.variables n) T (address_at p n)
      value_length (Number T number span) ty = omega arith
      value_length (Parenthesis T lf e rt) ty = value_length e ty.1
      value_length (Binary T l op at r) ty =
          sums _ (long (x.value p l)) (long (x.value p r)) (b.value_bound p l) (b.value_bound p r) (b.operator_bound p.structs T op r) (value_length l ty.0) (value_length r ty.1)
          (operation_length p.structs T op l r (x.value p l) (x.value p r))
      value_length (Prefix T Negate at e) ty = let q = value_length e ty.0 in omega arith
      value_length (Prefix T Complement at e) ty = let q = value_length e ty.0 in omega arith
      value_length (Prefix T Dereference at e) ty = let q = value_length e ty.0 in let r = read_length T (x.value p e) in omega arith
      value_length (Prefix T AddressOf at e) ty = place_length e ty.0 ty.1
      value_length (Prefix T NotPrefix at e) ty = absurd ty
      value_length (Cast T lf words rt e) ty = let q = value_length e ty.0 in let r = cast_length T (x.value p e) in omega arith
      value_length (Index T base lf index rt) ty =
          read_sum _ (long (x.value p base)) (long (x.value p index)) (b.value_bound p base) (b.value_bound p index) (value_length base ty.0) (value_length index ty.1) (b.step_bound (size_of p.structs T))
          (step_length (as_number index) (size_of p.structs T) false (x.value p base) (x.value p index)) (b.reading_bound T) _ (read_length T (x.place p (Index T base lf index rt)))
      value_length (Select T e Dot at name offset) ty = let q = member_length e ty (offset % 65536) in let r = read_length T (with_offset (x.place p e) (offset % 65536)) in omega arith
      value_length (Select T e Arrow at name offset) ty =
          let i = value_length e ty.0 in
          let q = offset_length (constant_of (x.value p e)) (x.value p e) (offset % 65536) in
          let r = read_length T (with_offset (x.value p e) (offset % 65536)) in
          omega arith

    -- ---- places that are set, and conditions

    -- the address of any place, one that is no address included
    pub target_length : (e : Expr) → IsTyped p f e → long (x.place p e) ≤ 9 + b.place_bound p e
    target_length (Variable T n name) ty = omega arith
    target_length (Number T number span) ty = omega arith
    target_length (Parenthesis T lf e rt) ty = target_length e ty.1
    target_length (Binary T l op at r) ty = omega arith
    target_length (Prefix T Negate at e) ty = omega arith
    target_length (Prefix T Complement at e) ty = omega arith
    target_length (Prefix T Dereference at e) ty = nine _ _ (value_length e ty.0)
    target_length (Prefix T AddressOf at e) ty = omega arith
    target_length (Prefix T NotPrefix at e) ty = omega arith
    target_length (Cast T lf words rt e) ty = omega arith
    target_length (Index T base lf index rt) ty = nine _ _ (element_length T base lf index rt (value_length base ty.0) (value_length index ty.1))
    target_length (Select T e op at name offset) ty = nine _ _ (place_length (Select T e op at name offset) ty tt)

    pub condition_length : (c : Cond Label) → IsTypedCond p f c → cond_length held (x.condition p c) ≤ b.cond_bound p c
    condition_length (Truth e) ty = let q = value_length e ty in omega arith
    condition_length (InParentheses lf c rt) ty = condition_length c ty
    condition_length (Not at c) ty = condition_length c ty
    condition_length (Both l at t e r) ty = let i = condition_length l ty.0 in let j = condition_length r ty.1 in omega arith
    condition_length (Either l at t e r) ty = let i = condition_length l ty.0 in let j = condition_length r ty.1 in omega arith
