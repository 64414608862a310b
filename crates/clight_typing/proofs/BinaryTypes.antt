-- The type of a binary form is that of its row, and the rows don't overlap.
use Rattle.std.proofs.Common.{◌≡◌, ◌∙◌, ℕ, Bool, true, false, ◌&&◌, ◌||◌, IsTrue, List, Option, Some, None, refl, sym, ap, subst}
use Rattle.std.specs.Prelude.{IfSome, if◌then◌else◌, not, ◌⊎◌}
use Rattle.std.proofs.Common.{inl, inr}
use Rattle.std.proofs.lemmas.Bool.{and_parts, or_cases, and_left, and_right}
use Rattle.clight_source.specs.declared.tree.BinaryOperator.{BinaryOperator}
use Rattle.clight_source.specs.declared.tree.BinaryOperator.TheVariants as b
use Rattle.c_types.specs.Types.{CType, Void, Integer, Pointer, Array, Struct, StructType, size_of, type_eq}
use Rattle.c_types.specs.Conversions.{promoted, common, int}
use Rattle.c_types.specs.Kinds.{is_integer, is_pointer, target_of}
use Rattle.clight_types.specs.Operands.{is_number, is_zero, Operand, steps_over, steps_along}
use Rattle.clight_types.specs.Expressions.{HasBinary, arithmetic, product, quotient, shifted, compared, compared_pointers, compared_to_null, null_compared, stepped, steps_first, stepped_back, is_arithmetic, is_division, is_shift, is_comparison, is_equality, are_integers, are_unsigned_chars, are_like_pointers, are_pointer_and_null, are_pointer_and_steps, is_shift_count}
use Rattle.clight_types.specs.TypedExpressions.{binary_type, sum_type, difference_type, bits_type, product_type, shift_type, order_type, equality_type}
use Rattle.clight_typing.proofs.Checks.{some_holds, if_true, if_false, or_first, or_second}

-- ---- each type has its row

bits_row : (structs : List StructType) (operator : BinaryOperator) (l r : Operand) → IsTrue (is_arithmetic operator) →
    IfSome (bits_type l r) (HasBinary structs operator l r)
bits_row structs operator l r is = some_holds (HasBinary structs operator l r) (are_integers l r) _ None (λ h. arithmetic is h refl) tt

order_row : (structs : List StructType) (operator : BinaryOperator) (l r : Operand) → IsTrue (is_comparison operator) →
    IfSome (order_type l r) (HasBinary structs operator l r)
order_row structs operator l r is = some_holds (HasBinary structs operator l r) _ _ None (λ h. row (or_cases _ _ h)) tt
  where
    row : IsTrue (are_integers l r) ⊎ IsTrue (are_like_pointers l r) → HasBinary structs operator l r int
    row (inl h) = compared is h refl
    row (inr h) = compared_pointers is h refl

equality_row : (structs : List StructType) (operator : BinaryOperator) (l r : Operand) → IsTrue (is_comparison operator) → IsTrue (is_equality operator) →
    IfSome (equality_type l r) (HasBinary structs operator l r)
equality_row structs operator l r is same = some_holds (HasBinary structs operator l r) _ _ None (λ h. row (or_cases _ _ h)) tt
  where
    first : IsTrue (are_integers l r) ⊎ IsTrue (are_like_pointers l r) → HasBinary structs operator l r int
    first (inl h) = compared is h refl
    first (inr h) = compared_pointers is h refl

    second : IsTrue (are_pointer_and_null l r) ⊎ IsTrue (are_pointer_and_null r l) → HasBinary structs operator l r int
    second (inl h) = compared_to_null same h refl
    second (inr h) = null_compared same h refl

    row : IsTrue (are_integers l r || are_like_pointers l r) ⊎ IsTrue (are_pointer_and_null l r || are_pointer_and_null r l) → HasBinary structs operator l r int
    row (inl h) = first (or_cases _ _ h)
    row (inr h) = second (or_cases _ _ h)

shift_row : (structs : List StructType) (operator : BinaryOperator) (l r : Operand) → IsTrue (is_shift operator) →
    IfSome (shift_type l r) (HasBinary structs operator l r)
shift_row structs operator l r is =
    some_holds (HasBinary structs operator l r) _ _ None (λ h. let parts = and_parts (is_integer l.type) (is_shift_count r) h in shifted is parts.0 parts.1 refl) tt

product_row : (structs : List StructType) (operator : BinaryOperator) (l r : Operand) → IsTrue (is_division operator) →
    IfSome (product_type l r) (HasBinary structs operator l r)
product_row structs operator l r is = some_holds (HasBinary structs operator l r) (are_unsigned_chars l r) int None (λ h. quotient is h refl) tt

pub has_row : (structs : List StructType) (operator : BinaryOperator) (l r : Operand) →
    IfSome (binary_type structs operator l r) (HasBinary structs operator l r)
has_row structs b.LogicalOr l r = tt
has_row structs b.LogicalAnd l r = tt
has_row structs b.BitOr l r = bits_row structs b.BitOr l r refl
has_row structs b.BitXor l r = bits_row structs b.BitXor l r refl
has_row structs b.BitAnd l r = bits_row structs b.BitAnd l r refl
has_row structs b.Equal l r = equality_row structs b.Equal l r refl refl
has_row structs b.NotEqual l r = equality_row structs b.NotEqual l r refl refl
has_row structs b.Less l r = order_row structs b.Less l r refl
has_row structs b.Greater l r = order_row structs b.Greater l r refl
has_row structs b.LessOrEqual l r = order_row structs b.LessOrEqual l r refl
has_row structs b.GreaterOrEqual l r = order_row structs b.GreaterOrEqual l r refl
has_row structs b.ShiftLeft l r = shift_row structs b.ShiftLeft l r refl
has_row structs b.ShiftRight l r = shift_row structs b.ShiftRight l r refl
has_row structs b.Add l r =
    some_holds (HasBinary structs b.Add l r) (are_integers l r) _ _ (λ h. arithmetic refl h refl)
    (some_holds (HasBinary structs b.Add l r) (are_pointer_and_steps structs l r) _ _ (λ h. stepped refl h refl)
    (some_holds (HasBinary structs b.Add l r) (are_pointer_and_steps structs r l) _ None (λ h. steps_first refl h refl) tt))
has_row structs b.Subtract l r =
    some_holds (HasBinary structs b.Subtract l r) (are_integers l r) _ _ (λ h. arithmetic refl h refl)
    (some_holds (HasBinary structs b.Subtract l r) (are_pointer_and_steps structs l r) _ None (λ h. stepped_back refl h refl) tt)
has_row structs b.Multiply l r = some_holds (HasBinary structs b.Multiply l r) (are_unsigned_chars l r) int None (λ h. product refl h refl) tt
has_row structs b.Divide l r = product_row structs b.Divide l r refl
has_row structs b.Remainder l r = product_row structs b.Remainder l r refl

-- ---- each row has its type

pointer_is_no_integer : (type : CType) → IsTrue (is_pointer type) → is_integer type ≡ false
pointer_is_no_integer Void h = absurd cc
pointer_is_no_integer (Integer size signed) h = absurd cc
pointer_is_no_integer (Pointer target) h = refl
pointer_is_no_integer (Array element count) h = absurd cc
pointer_is_no_integer (Struct number) h = absurd cc

integer_is_no_pointer : (type : CType) → IsTrue (is_integer type) → is_pointer type ≡ false
integer_is_no_pointer Void h = absurd cc
integer_is_no_pointer (Integer size signed) h = refl
integer_is_no_pointer (Pointer target) h = absurd cc
integer_is_no_pointer (Array element count) h = absurd cc
integer_is_no_pointer (Struct number) h = absurd cc

-- what steps over a type is an integer
stepping_integer : (x : Operand) (bytes : ℕ) → IsTrue (steps_over x bytes) → IsTrue (is_integer x.type)
stepping_integer x bytes h = (and_parts _ _ h).0

no_integers_left : (l r : Operand) → IsTrue (is_pointer l.type) → are_integers l r ≡ false
no_integers_left l r h = and_left _ _ (pointer_is_no_integer l.type h)

no_integers_right : (l r : Operand) → IsTrue (is_pointer r.type) → are_integers l r ≡ false
no_integers_right l r h = and_right _ _ (pointer_is_no_integer r.type h)

-- an integer stands where a pointer would
no_steps : (structs : List StructType) (l r : Operand) → IsTrue (is_integer l.type) → are_pointer_and_steps structs l r ≡ false
no_steps structs l r h = and_left _ _ (integer_is_no_pointer l.type h)

sum_of_integers : (structs : List StructType) (l r : Operand) → IsTrue (are_integers l r) → sum_type structs l r ≡ Some (common l.type r.type)
sum_of_integers structs l r h = if_true _ _ _ h

sum_stepped : (structs : List StructType) (l r : Operand) → IsTrue (are_pointer_and_steps structs l r) → sum_type structs l r ≡ Some l.type
sum_stepped structs l r h = if_false _ _ _ (no_integers_left l r (and_parts _ _ h).0) ∙ if_true _ _ _ h

sum_steps_first : (structs : List StructType) (l r : Operand) → IsTrue (are_pointer_and_steps structs r l) → sum_type structs l r ≡ Some r.type
sum_steps_first structs l r h =
    if_false _ _ _ (no_integers_right l r (and_parts _ _ h).0)
    ∙ (if_false _ _ _ (no_steps structs l r (stepping_integer l (size_of structs (target_of r.type)) (and_parts _ _ h).1)) ∙ if_true _ _ _ h)

arithmetic_type : (structs : List StructType) (operator : BinaryOperator) (l r : Operand) → IsTrue (is_arithmetic operator) → IsTrue (are_integers l r) →
    binary_type structs operator l r ≡ Some (common l.type r.type)
arithmetic_type structs b.BitOr l r is h = if_true _ _ _ h
arithmetic_type structs b.BitXor l r is h = if_true _ _ _ h
arithmetic_type structs b.BitAnd l r is h = if_true _ _ _ h
arithmetic_type structs b.Add l r is h = if_true _ _ _ h
arithmetic_type structs b.Subtract l r is h = if_true _ _ _ h
arithmetic_type structs _ l r is h = absurd cc

division_type : (structs : List StructType) (operator : BinaryOperator) (l r : Operand) → IsTrue (is_division operator) → IsTrue (are_unsigned_chars l r) →
    binary_type structs operator l r ≡ Some int
division_type structs b.Divide l r is h = if_true _ _ _ h
division_type structs b.Remainder l r is h = if_true _ _ _ h
division_type structs _ l r is h = absurd cc

shifted_type : (structs : List StructType) (operator : BinaryOperator) (l r : Operand) → IsTrue (is_shift operator) → IsTrue (is_integer l.type && is_shift_count r) →
    binary_type structs operator l r ≡ Some (promoted l.type)
shifted_type structs b.ShiftLeft l r is h = if_true _ _ _ h
shifted_type structs b.ShiftRight l r is h = if_true _ _ _ h
shifted_type structs _ l r is h = absurd cc

comparison_type : (structs : List StructType) (operator : BinaryOperator) (l r : Operand) → IsTrue (is_comparison operator) → IsTrue (are_integers l r || are_like_pointers l r) →
    binary_type structs operator l r ≡ Some int
comparison_type structs b.Equal l r is h = if_true _ _ _ (or_first _ _ h)
comparison_type structs b.NotEqual l r is h = if_true _ _ _ (or_first _ _ h)
comparison_type structs b.Less l r is h = if_true _ _ _ h
comparison_type structs b.Greater l r is h = if_true _ _ _ h
comparison_type structs b.LessOrEqual l r is h = if_true _ _ _ h
comparison_type structs b.GreaterOrEqual l r is h = if_true _ _ _ h
comparison_type structs _ l r is h = absurd cc

null_type : (structs : List StructType) (operator : BinaryOperator) (l r : Operand) → IsTrue (is_equality operator) → IsTrue (are_pointer_and_null l r || are_pointer_and_null r l) →
    binary_type structs operator l r ≡ Some int
null_type structs b.Equal l r is h = if_true _ _ _ (or_second _ _ h)
null_type structs b.NotEqual l r is h = if_true _ _ _ (or_second _ _ h)
null_type structs _ l r is h = absurd cc

-- at an operator that is this one
at_operator : (structs : List StructType) (operator other : BinaryOperator) (l r : Operand) → operator ≡ other →
    binary_type structs operator l r ≡ binary_type structs other l r
at_operator structs operator other l r e = ap (λ operator. binary_type structs operator l r) e

pub row_type : (structs : List StructType) (operator : BinaryOperator) (l r : Operand) (type : CType) → HasBinary structs operator l r type →
    binary_type structs operator l r ≡ Some type
row_type structs operator l r type (arithmetic is h e) = arithmetic_type structs operator l r is h ∙ ap Some (sym e)
row_type structs operator l r type (product is h e) = at_operator structs operator b.Multiply l r is ∙ (if_true _ _ _ h ∙ ap Some (sym e))
row_type structs operator l r type (quotient is h e) = division_type structs operator l r is h ∙ ap Some (sym e)
row_type structs operator l r type (shifted is h g e) = shifted_type structs operator l r is (both h g) ∙ ap Some (sym e)
  where
    both : IsTrue (is_integer l.type) → IsTrue (is_shift_count r) → IsTrue (is_integer l.type && is_shift_count r)
    both h g = rw h g
row_type structs operator l r type (compared is h e) = comparison_type structs operator l r is (or_first _ _ h) ∙ ap Some (sym e)
row_type structs operator l r type (compared_pointers is h e) = comparison_type structs operator l r is (or_second _ _ h) ∙ ap Some (sym e)
row_type structs operator l r type (compared_to_null is h e) = null_type structs operator l r is (or_first _ _ h) ∙ ap Some (sym e)
row_type structs operator l r type (null_compared is h e) = null_type structs operator l r is (or_second _ _ h) ∙ ap Some (sym e)
row_type structs operator l r type (stepped is h e) = at_operator structs operator b.Add l r is ∙ (sum_stepped structs l r h ∙ ap Some (sym e))
row_type structs operator l r type (steps_first is h e) = at_operator structs operator b.Add l r is ∙ (sum_steps_first structs l r h ∙ ap Some (sym e))
row_type structs operator l r type (stepped_back is h e) =
    at_operator structs operator b.Subtract l r is ∙ (if_false _ _ _ (no_integers_left l r (and_parts _ _ h).0) ∙ (if_true _ _ _ h ∙ ap Some (sym e)))
