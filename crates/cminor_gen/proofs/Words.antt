-- The words of translated operators, by those of their operands.
use Rattle.std.proofs.Common.{◌≡◌, ℕ, ◌+◌, ◌-◌, ◌*◌, ◌%◌, ◌^◌, ◌<◌, List, [], ◌∷◌, ◌++◌, Option, Some, None, Bool, true, false, refl, sym, ap, ap₂, subst, arith}
use Rattle.std.specs.Prelude.{nat_eq}
use Rattle.cerco_traces.specs.Systems.{EachWithin}
use Rattle.cerco_traces.specs.Worlds.{World}
use Rattle.cerco_middle.specs.declared.operators.CmOp.TheVariants as op
use Rattle.cerco_middle.specs.Operators.{operator_value, shifted_left, negated}
use Rattle.cerco_middle.specs.Calls.{Values}
use Rattle.cerco_middle.specs.Cminor.Trees as m
use Rattle.cerco_middle.specs.Cminor.Meaning as c
use Rattle.clight_source.specs.declared.tree.BinaryOperator.{BinaryOperator}
use Rattle.clight_source.specs.declared.tree.BinaryOperator.TheVariants as o
use Rattle.c_types.specs.declared.integers.IntegerType.{IntegerType}
use Rattle.clight_programs.specs.Numbers.{shift_for}
use Rattle.flat_memory.proofs.Lists.{by_test, same_number}
use Rattle.flat_memory.proofs.Pointers.{Moves, stepped_word}
use Rattle.flat_memory.proofs.Integers.{less_op, most_op, integer_word}
use Rattle.cminor_gen.specs.Translation.Operators as t

pub each_join : (d : ℕ) (as' bs : List ℕ) → EachWithin d as' → EachWithin d bs → EachWithin d (as' ++ bs)
each_join d [] bs h i = i
each_join d (a ∷ as') bs h i = (h.0, h.1, each_join d as' bs h.2 i)

module _ (vs : Values) (w : World) where
  abbrev V : m.CmExpr → ℕ
  V e = c.value e vs w

  abbrev R : m.CmExpr → List ℕ
  R e = c.reads e vs w

  -- ---- offsets

  plain : (e : m.CmExpr) (n : ℕ) → V e < 65536 → n < 65536 → V (t.with_constant None e n) ≡ (V e + n) % 65536
  unfolding operator_value
  plain e n low few =
      by_test (λ r. V r ≡ (V e + n) % 65536) (nat_eq n 0) e (m.Bin op.Add e (m.Const n)) (λ z. let k = same_number n 0 z in omega arith) (λ z. omega arith)

  pub with_offset_word : (e : m.CmExpr) (n : ℕ) → V e < 65536 → n < 65536 → V (t.with_offset e n) ≡ (V e + n) % 65536
  with_offset_word (m.Const number) n low few = omega arith
  with_offset_word (m.Var x) n low few = plain (m.Var x) n low few
  with_offset_word (m.Load h a) n low few = plain (m.Load h a) n low few
  with_offset_word (m.Neg a) n low few = plain (m.Neg a) n low few
  with_offset_word (m.Complement a) n low few = plain (m.Complement a) n low few
  with_offset_word (m.Narrow h a) n low few = plain (m.Narrow h a) n low few
  with_offset_word (m.Bin p a b) n low few = plain (m.Bin p a b) n low few
  with_offset_word (m.Shl k a) n low few = plain (m.Shl k a) n low few
  with_offset_word (m.Shr k s a) n low few = plain (m.Shr k s a) n low few

  plain_reads : (d : ℕ) (e : m.CmExpr) (n : ℕ) → EachWithin d (R e) → EachWithin d (R (t.with_constant None e n))
  plain_reads d e n h = by_test (λ r. EachWithin d (R r)) (nat_eq n 0) e (m.Bin op.Add e (m.Const n)) (λ z. h) (λ z. each_join d (R e) [] h tt)

  pub with_offset_reads : (d : ℕ) (e : m.CmExpr) (n : ℕ) → EachWithin d (R e) → EachWithin d (R (t.with_offset e n))
  with_offset_reads d (m.Const number) n h = tt
  with_offset_reads d (m.Var x) n h = plain_reads d (m.Var x) n h
  with_offset_reads d (m.Load k a) n h = plain_reads d (m.Load k a) n h
  with_offset_reads d (m.Neg a) n h = plain_reads d (m.Neg a) n h
  with_offset_reads d (m.Complement a) n h = plain_reads d (m.Complement a) n h
  with_offset_reads d (m.Narrow k a) n h = plain_reads d (m.Narrow k a) n h
  with_offset_reads d (m.Bin p a b) n h = plain_reads d (m.Bin p a b) n h
  with_offset_reads d (m.Shl k a) n h = plain_reads d (m.Shl k a) n h
  with_offset_reads d (m.Shr k s a) n h = plain_reads d (m.Shr k s a) n h

  -- so many bytes on
  pub offset_moves : (e : m.CmExpr) (n : ℕ) → Moves false n (V e) (V (t.with_offset e (n % 65536)))
  offset_moves e n = λ fit. let q = with_offset_word e (n % 65536) (omega arith) (omega arith) in omega arith

  -- so many bytes on or back
  pub offset_by_moves : (e : m.CmExpr) (back : Bool) (n : ℕ) → Moves back n (V e) (V (t.with_offset e (t.offset_by back n)))
  offset_by_moves e false n = λ fit. let q = with_offset_word e (n % 65536) (omega arith) (omega arith) in omega arith
  offset_by_moves e true n = λ fit low. let q = with_offset_word e ((65536 - n % 65536) % 65536) low (omega arith) in omega arith

  -- ---- steps

  shifted_word : (k : ℕ) (e : m.CmExpr) → V e < 65536 → V (t.shifted k e) ≡ (V e * 2 ^ k) % 65536
  unfolding shifted_left
  shifted_word k e low = by_test (λ r. V r ≡ (V e * 2 ^ k) % 65536) (nat_eq k 0) e (m.Shl k e) (λ z. none (same_number k 0 z)) (λ z. refl)
    where
      none : k ≡ 0 → V e ≡ (V e * 2 ^ k) % 65536
      none e0 = subst (λ j. V e ≡ (V e * 2 ^ j) % 65536) (sym e0) (omega arith)

  pub shift_step_word : (k size : ℕ) (back : Bool) (a e : m.CmExpr) → V e < 65536 → V (t.step_over (Some k) size back a e) ≡ stepped_word back (V a) ((V e * 2 ^ k) % 65536)
  unfolding operator_value
  shift_step_word k size false a e low = ap (λ z. (V a + z) % 65536) (shifted_word k e low)
  shift_step_word k size true a e low = ap (λ z. (V a + (65536 - z)) % 65536) (shifted_word k e low)

  pub product_step_word : (size : ℕ) (back : Bool) (a e : m.CmExpr) → size < 256 → V e < 256 → Moves back (V e * size) (V a) (V (t.step_over None size back a e))
  unfolding operator_value negated
  product_step_word size false a e few low =
      let s : size % 65536 % 65536 % 256 ≡ size = omega arith in
      let b : V e % 256 ≡ V e = omega arith in
      let product : (V e % 256) * (size % 65536 % 65536 % 256) ≡ V e * size = ap₂ (λ x y. x * y) b s in
      λ fit. omega arith
  product_step_word size true a e few low =
      let s : size % 65536 % 65536 % 256 ≡ size = omega arith in
      let b : V e % 256 ≡ V e = omega arith in
      let product : (V e % 256) * (size % 65536 % 65536 % 256) ≡ V e * size = ap₂ (λ x y. x * y) b s in
      λ fit low'. omega arith

  shifted_reads : (d k : ℕ) (e : m.CmExpr) → EachWithin d (R e) → EachWithin d (R (t.shifted k e))
  shifted_reads d k e h = by_test (λ r. EachWithin d (R r)) (nat_eq k 0) e (m.Shl k e) (λ z. h) (λ z. h)

  step_over_reads : (d : ℕ) (k : Option ℕ) (size : ℕ) (back : Bool) (a e : m.CmExpr) → EachWithin d (R a) → EachWithin d (R e) → EachWithin d (R (t.step_over k size back a e))
  step_over_reads d (Some k) size false a e h i = each_join d (R a) _ h (shifted_reads d k e i)
  step_over_reads d (Some k) size true a e h i = each_join d (R a) _ h (shifted_reads d k e i)
  step_over_reads d None size false a e h i = each_join d (R e ++ []) (R a) (each_join d (R e) [] i tt) h
  step_over_reads d None size true a e h i = each_join d (R e ++ []) (R a) (each_join d (R e) [] i tt) h

  pub step_reads : (d : ℕ) (k : Option ℕ) (size : ℕ) (back : Bool) (a e : m.CmExpr) → EachWithin d (R a) → EachWithin d (R e) → EachWithin d (R (t.step k size back a e))
  step_reads d (Some k) size back a e h i = with_offset_reads d a (t.offset_by back (k * size)) h
  step_reads d None size back a e h i = step_over_reads d (shift_for size) size back a e h i

  -- ---- operators

  pointer_sum_reads : (d : ℕ) (I : Option IntegerType) (size : ℕ) (back : Bool) (l r : t.Operand) (a b : m.CmExpr) → EachWithin d (R a) → EachWithin d (R b) → EachWithin d (R (t.pointer_sum I size back l r a b))
  pointer_sum_reads d (Some I) size back l r a b h i = step_reads d l.number size back b a i h
  pointer_sum_reads d None size back l r a b h i = step_reads d r.number size back a b h i

  sum_reads : (d : ℕ) (size : Option ℕ) (back : Bool) (l r : t.Operand) (a b : m.CmExpr) → EachWithin d (R a) → EachWithin d (R b) → EachWithin d (R (t.sum size back l r a b))
  sum_reads d None false l r a b h i = each_join d _ _ h i
  sum_reads d None true l r a b h i = each_join d _ _ h i
  sum_reads d (Some size) back l r a b h i = pointer_sum_reads d l.integer size back l r a b h i

  pub operation_reads : (d : ℕ) (size : Option ℕ) (operator : BinaryOperator) (l r : t.Operand) (a b : m.CmExpr) → EachWithin d (R a) → EachWithin d (R b) → EachWithin d (R (t.operation size operator l r a b))
  operation_reads d size o.Add l r a b h i = sum_reads d size false l r a b h i
  operation_reads d size o.Subtract l r a b h i = sum_reads d size true l r a b h i
  operation_reads d size o.Multiply l r a b h i = each_join d _ _ h i
  operation_reads d size o.Divide l r a b h i = each_join d _ _ h i
  operation_reads d size o.Remainder l r a b h i = each_join d _ _ h i
  operation_reads d size o.BitAnd l r a b h i = each_join d _ _ h i
  operation_reads d size o.BitOr l r a b h i = each_join d _ _ h i
  operation_reads d size o.BitXor l r a b h i = each_join d _ _ h i
  operation_reads d size o.ShiftLeft l r a b h i = h
  operation_reads d size o.ShiftRight l r a b h i = h
  operation_reads d size o.Equal l r a b h i = each_join d _ _ h i
  operation_reads d size o.NotEqual l r a b h i = each_join d _ _ h i
  operation_reads d size o.Less l r a b h i = each_join d _ _ h i
  operation_reads d size o.Greater l r a b h i = each_join d _ _ i h
  operation_reads d size o.LessOrEqual l r a b h i = each_join d _ _ h i
  operation_reads d size o.GreaterOrEqual l r a b h i = each_join d _ _ i h
  operation_reads d size o.LogicalAnd l r a b h i = h
  operation_reads d size o.LogicalOr l r a b h i = h

  less_same : (b : Bool) → t.less b ≡ less_op b
  less_same true = refl
  less_same false = refl

  most_same : (b : Bool) → t.at_most b ≡ most_op b
  most_same true = refl
  most_same false = refl

  -- of two integers, the word of the operator; a shift by so many bits
  pub integers_word : (operator : BinaryOperator) (I J : IntegerType) (k l : Option ℕ) (a b : m.CmExpr)
      → V (t.operation None operator (record { integer = Some I; number = k }) (record { integer = Some J; number = l }) a b) ≡ integer_word operator I J (t.bits_of l) (V a) (V b)
  integers_word o.Add I J k l a b = refl
  integers_word o.Subtract I J k l a b = refl
  integers_word o.Multiply I J k l a b = refl
  integers_word o.Divide I J k l a b = refl
  integers_word o.Remainder I J k l a b = refl
  integers_word o.BitAnd I J k l a b = refl
  integers_word o.BitOr I J k l a b = refl
  integers_word o.BitXor I J k l a b = refl
  integers_word o.ShiftLeft I J k l a b = refl
  integers_word o.ShiftRight I J k l a b = refl
  integers_word o.Equal I J k l a b = refl
  integers_word o.NotEqual I J k l a b = refl
  integers_word o.Less I J k l a b = ap (λ z. operator_value 2 z (V a) (V b)) (less_same (t.signed_between (Some I) (Some J)))
  integers_word o.Greater I J k l a b = ap (λ z. operator_value 2 z (V b) (V a)) (less_same (t.signed_between (Some I) (Some J)))
  integers_word o.LessOrEqual I J k l a b = ap (λ z. operator_value 2 z (V a) (V b)) (most_same (t.signed_between (Some I) (Some J)))
  integers_word o.GreaterOrEqual I J k l a b = ap (λ z. operator_value 2 z (V b) (V a)) (most_same (t.signed_between (Some I) (Some J)))
  integers_word o.LogicalAnd I J k l a b = refl
  integers_word o.LogicalOr I J k l a b = refl
