-- The operators on values (ISO/IEC 9899:1999, 6.3 and 6.5) and the faults at which the standard leaves the behaviour undefined. The
-- definitions are total: what no typed program holds is a fault, or nothing.
use Rattle.std.specs.Prelude.{ℕ, zero, suc, Bool, true, false, not, List, Option, Some, None, Result, Ok, Err}
use Rattle.cerco_base.specs.declared.events.FaultKind.{FaultKind}
use Rattle.cerco_base.specs.declared.events.FaultKind.TheVariants.{Outside}
use Rattle.clight_source.specs.declared.tree.BinaryOperator.{BinaryOperator}
use Rattle.clight_source.specs.declared.tree.BinaryOperator.TheVariants as op
use Rattle.c_types.specs.Kinds.{integer_type, target_of}
use Rattle.c_types.specs.Types.{CType, Void, Integer, Pointer, Array, StructType, size_of}
use Rattle.clight_values.specs.declared.value.Value.{Value}
use Rattle.clight_values.specs.declared.value.Value.TheVariants as v
use Rattle.c_types.specs.Conversions.{promoted_integer}
use Rattle.c_types.specs.declared.integers.IntegerType.{IntegerType}
use Rattle.clight_values.specs.Values.{converted, difference, complement, truth, combined}
use Rattle.clight_values.specs.Memory.{Answer, Memory, stepped, equal, less}

-- ---- conversions (6.3.1.3, 6.3.2.3, 6.5.16.1)

abbrev pub converted_value : IntegerType → IntegerType → Value → Answer
converted_value S T (v.Integer n) = Ok (v.Integer (converted S T n))
converted_value S T v.Null = Err Outside
converted_value S T (v.Pointer at) = Err Outside

-- the number 0 is a null pointer
abbrev pub as_pointer : Value → Answer
as_pointer (v.Integer zero) = Ok v.Null
as_pointer (v.Integer (suc n)) = Err Outside
as_pointer v.Null = Ok v.Null
as_pointer (v.Pointer at) = Ok (v.Pointer at)

-- a value of the first type as one of the second
abbrev pub assigned_value : CType → CType → Value → Answer
assigned_value S (Pointer target) w = as_pointer w
assigned_value (Integer s g) (Integer t h) w = converted_value (record { size = s; signed = g }) (record { size = t; signed = h }) w
assigned_value _ _ w = Err Outside

-- ---- answers, one after the other

abbrev pub then_value : Answer → (Value → Answer) → Answer
then_value (Err k) go = Err k
then_value (Ok w) go = go w

-- on both values, or the first fault
abbrev pub both : (Value → Value → Answer) → Answer → Answer → Answer
both go (Err k) r = Err k
both go (Ok x) (Err k) = Err k
both go (Ok x) (Ok y) = go x y

abbrev pub answer_of : Result Bool FaultKind → Answer
answer_of (Err k) = Err k
answer_of (Ok b) = Ok (truth b)

abbrev pub opposite : Result Bool FaultKind → Result Bool FaultKind
opposite (Err k) = Err k
opposite (Ok b) = Ok (not b)

-- ---- operators

-- two integers
abbrev pub of_integers : BinaryOperator → IntegerType → IntegerType → Value → Value → Answer
of_integers o S T (v.Integer x) (v.Integer y) = combined o S T x y
of_integers o S T _ _ = Err Outside

-- 6.5.6: a pointer over elements of so many bytes, and an integer
abbrev pub of_pointer_and_integer : Memory → BinaryOperator → ℕ → Value → IntegerType → Value → Answer
of_pointer_and_integer m op.Add size p T w = stepped m size false p T w
of_pointer_and_integer m op.Subtract size p T w = stepped m size true p T w
of_pointer_and_integer m op.Equal size p T w = answer_of (equal m p w)
of_pointer_and_integer m op.NotEqual size p T w = answer_of (opposite (equal m p w))
of_pointer_and_integer m _ size p T w = Err Outside

abbrev pub of_integer_and_pointer : Memory → BinaryOperator → ℕ → IntegerType → Value → Value → Answer
of_integer_and_pointer m op.Add size T w p = stepped m size false p T w
of_integer_and_pointer m op.Equal size T w p = answer_of (equal m w p)
of_integer_and_pointer m op.NotEqual size T w p = answer_of (opposite (equal m w p))
of_integer_and_pointer m _ size T w p = Err Outside

-- 6.5.8 and 6.5.9: two pointers
abbrev pub of_pointers : Memory → BinaryOperator → Value → Value → Answer
of_pointers m op.Equal p q = answer_of (equal m p q)
of_pointers m op.NotEqual p q = answer_of (opposite (equal m p q))
of_pointers m op.Less p q = answer_of (less m p q)
of_pointers m op.Greater p q = answer_of (less m q p)
of_pointers m op.LessOrEqual p q = answer_of (opposite (less m q p))
of_pointers m op.GreaterOrEqual p q = answer_of (opposite (less m p q))
of_pointers m _ p q = Err Outside

abbrev pub operated_by : List StructType → Memory → BinaryOperator → CType → CType → Option IntegerType → Option IntegerType → Value → Value → Answer
operated_by structs m o S T (Some I) (Some J) x y = of_integers o I J x y
operated_by structs m o S T None (Some J) x y = of_pointer_and_integer m o (size_of structs (target_of S)) x J y
operated_by structs m o S T (Some I) None x y = of_integer_and_pointer m o (size_of structs (target_of T)) I x y
operated_by structs m o S T None None x y = of_pointers m o x y

-- an operator on values of these two types
abbrev pub operated : List StructType → Memory → BinaryOperator → CType → CType → Value → Value → Answer
operated structs m o S T x y = operated_by structs m o S T (integer_type S) (integer_type T) x y

-- 6.5.3.3
abbrev pub negated : Option IntegerType → Value → Answer
negated (Some T) (v.Integer n) = Ok (v.Integer (difference (promoted_integer T) 0 (converted T (promoted_integer T) n)))
negated _ _ = Err Outside

abbrev pub complemented : Option IntegerType → Value → Answer
complemented (Some T) (v.Integer n) = Ok (v.Integer (complement (promoted_integer T) (converted T (promoted_integer T) n)))
complemented _ _ = Err Outside

-- 6.5.2.1: the element's place
abbrev pub indexed : List StructType → Memory → CType → Value → Option IntegerType → Value → Answer
indexed structs m element p (Some T) w = stepped m (size_of structs element) false p T w
indexed structs m element p None w = Err Outside
