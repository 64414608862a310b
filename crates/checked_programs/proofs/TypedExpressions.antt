-- An expression whose names mean what is visible is typed by the numbers alone.
use Rattle.std.proofs.Common.{◌≡◌, ℕ, ◌<◌, ◌≤◌, ◌⊎◌, Bool, true, false, not, IsTrue, List, length, Option, Some, None, refl, sym, ap, ap₂, subst, ◌∙◌, inl, inr, arith}
use Rattle.std.specs.Prelude.{nat_le, nat_eq, slice_get}
use Rattle.std.proofs.lemmas.Bool.{false≢true, and_parts, leb-true, eqb-true}
use Rattle.clight_source.specs.declared.tree.BinaryOperator.{BinaryOperator}
use Rattle.clight_source.specs.declared.tree.BinaryOperator.TheVariants as o
use Rattle.clight_source.specs.declared.tree.PrefixOperator.TheVariants.{Negate, Complement, Not as NotPrefix, Dereference, AddressOf}
use Rattle.clight_source.specs.declared.tree.MemberOperator.TheVariants.{Dot, Arrow}
use Rattle.c_types.specs.declared.integers.Size.TheVariants.{Two}
use Rattle.c_types.specs.Types.{CType, Void, Integer, Pointer, Array, Struct, Member, StructType, size_of, type_eq}
use Rattle.c_types.specs.Kinds.{is_integer, is_pointer, is_four_bytes, value_type}
use Rattle.c_types.specs.Conversions.{int, unsigned_char, promoted, common}
use Rattle.clight_syntax.specs.TypedTrees.{Expr, Variable, Number, Parenthesis, Binary, Prefix, Cast, Index, Select, type_at, Function, TypedProgram}
use Rattle.clight_types.specs.Operands.{number_of, operand, steps_along, steps_over}
use Rattle.clight_types.specs.Scopes.{Scope, Object, meaning_of, member_of}
use Rattle.clight_types.specs.Expressions.{HasType, HasBinary, arithmetic, product, quotient, shifted, compared, compared_pointers, compared_to_null, null_compared, stepped, steps_first, stepped_back, is_arithmetic, is_division, is_shift, is_comparison, is_equality}
use Rattle.clight_types.specs.Assignable.{variable_of}
use Rattle.clight_typing.specs.Statements.{option_list, addressed}
use Rattle.clight_typing.specs.Functions.{has_block}
use Rattle.clight_programs.specs.Numbers.{as_number}
use Rattle.clight_programs.specs.Scopes.{IsShortInteger, IsVariable}
use Rattle.clight_programs.specs.Expressions.{StepsOver, StepsFit, IsPointer, AreComparable, PointersFit, IntegersFit, OperandsFit, IsInRam, IsTyped}
use Rattle.checked_programs.proofs.KnownTypes.{is_known, known_value, integer_itself, short_integer, known_integer, promoted_known, common_known, is_unsigned_char, pointer_is, like_pointer}
use Rattle.checked_programs.proofs.Addresses.{AreTaken, taken_first, taken_last, has_address}
use Rattle.checked_programs.proofs.Constants.{literal_constant, constant_known, same_number, number_constant, steps}

-- ---- two integers

arithmetic_fits : (operator : BinaryOperator) (T L R : CType) (r : Option ℕ) → IsTrue (is_arithmetic operator) → T ≡ common L R → IntegersFit T operator L R r
arithmetic_fits o.Add T L R r is e = e
arithmetic_fits o.Subtract T L R r is e = e
arithmetic_fits o.BitAnd T L R r is e = e
arithmetic_fits o.BitOr T L R r is e = e
arithmetic_fits o.BitXor T L R r is e = e
arithmetic_fits operator T L R r is e = absurd (false≢true is)

quotient_fits : (operator : BinaryOperator) (T L R : CType) (r : Option ℕ) → IsTrue (is_division operator) → T ≡ int → L ≡ unsigned_char → R ≡ unsigned_char → IntegersFit T operator L R r
quotient_fits o.Divide T L R r is e f g = (e, f, g)
quotient_fits o.Remainder T L R r is e f g = (e, f, g)
quotient_fits operator T L R r is e f g = absurd (false≢true is)

shift_fits : (operator : BinaryOperator) (T L R : CType) (r : Option ℕ) → IsTrue (is_shift operator) → T ≡ promoted L → (n : ℕ) × (r ≡ Some n) × (n < 16) → IntegersFit T operator L R r
shift_fits o.ShiftLeft T L R r is e n = (e, n)
shift_fits o.ShiftRight T L R r is e n = (e, n)
shift_fits operator T L R r is e n = absurd (false≢true is)

comparison_fits : (operator : BinaryOperator) (T L R : CType) (r : Option ℕ) → IsTrue (is_comparison operator) → T ≡ int → IntegersFit T operator L R r
comparison_fits o.Equal T L R r is e = e
comparison_fits o.NotEqual T L R r is e = e
comparison_fits o.Less T L R r is e = e
comparison_fits o.Greater T L R r is e = e
comparison_fits o.LessOrEqual T L R r is e = e
comparison_fits o.GreaterOrEqual T L R r is e = e
comparison_fits operator T L R r is e = absurd (false≢true is)

-- ---- pointers

pointers_fit : (structs : List StructType) (operator : BinaryOperator) (T L R : CType) (l r : Option ℕ) → IsTrue (is_comparison operator) → T ≡ int → IsPointer L → IsPointer R → PointersFit structs T operator L R l r
pointers_fit structs o.Equal T L R l r is e a b = (e, inl (a, b))
pointers_fit structs o.NotEqual T L R l r is e a b = (e, inl (a, b))
pointers_fit structs o.Less T L R l r is e a b = (e, a, b)
pointers_fit structs o.Greater T L R l r is e a b = (e, a, b)
pointers_fit structs o.LessOrEqual T L R l r is e a b = (e, a, b)
pointers_fit structs o.GreaterOrEqual T L R l r is e a b = (e, a, b)
pointers_fit structs operator T L R l r is e a b = absurd (false≢true is)

equality_fits : (structs : List StructType) (operator : BinaryOperator) (T L R : CType) (l r : Option ℕ) → IsTrue (is_equality operator) → T ≡ int → AreComparable L R l r → PointersFit structs T operator L R l r
equality_fits structs o.Equal T L R l r is e c = (e, c)
equality_fits structs o.NotEqual T L R l r is e c = (e, c)
equality_fits structs operator T L R l r is e c = absurd (false≢true is)

-- ---- numbers

number_zero : (n : Option ℕ) → IsTrue (elim n [ Some k ↦ nat_eq k 0 | None ↦ false ]) → n ≡ Some 0
number_zero (Some k) is = ap Some (eqb-true k 0 is)
number_zero None is = absurd (false≢true is)

number_small : (n : Option ℕ) → IsTrue (elim n [ Some k ↦ nat_le k 15 | None ↦ false ]) → (k : ℕ) × (n ≡ Some k) × (k < 16)
number_small (Some k) is = let le : k ≤ 15 = leb-true k 15 is in (k, refl, omega arith)
number_small None is = absurd (false≢true is)

-- ---- expressions in a scope

module _ {L : Type 0} (p : TypedProgram L) (f : Function L) (scope : Scope)
    (variables : (name n : ℕ) (T : CType) → meaning_of scope name ≡ Some (Object n T) → IsVariable p f n T × IsTrue (is_known (length scope.structs) T))
    (same_size : (T : CType) → IsTrue (is_known (length scope.structs) T) → size_of scope.structs T ≡ size_of p.structs T)
    (members : (T : CType) (name : ℕ) (m : Member) → member_of scope.structs T name ≡ Some m → IsTrue (is_known (length scope.structs) m.type))
    (is_taken : ℕ → Bool) (in_ram : (name n : ℕ) (T : CType) → meaning_of scope name ≡ Some (Object n T) → IsTrue (has_block is_taken n T) → IsInRam (slice_get p.variables n)) where
  abbrev IsKnown : CType → Type 0
  IsKnown T = IsTrue (is_known (length scope.structs) T)

  -- a number is an integer
  integer_number : (e : Expr) (n : ℕ) → HasType scope e → number_of e ≡ Some n → IsShortInteger (type_at e) × (as_number e ≡ Some n)
  integer_number e n h is =
      let number = sym (same_number e) ∙ is in
      let constant = number_constant scope e n h number in
      (of_constant constant, number)
    where
      of_constant : ((type_at e ≡ Integer Two false) × (n < 65536)) ⊎ ((type_at e ≡ Integer Two true) × (n < 32768)) → IsShortInteger (type_at e)
      of_constant (inl c) = record { size = Two; signed = false; is = c.0; short = λ x. absurd cc }
      of_constant (inr c) = record { size = Two; signed = true; is = c.0; short = λ x. absurd cc }

  steps_of : (e : Expr) (target : CType) → HasType scope e → IsKnown (type_at e) → IsKnown target → IsTrue (steps_over (operand e) (size_of scope.structs target)) → StepsOver (size_of p.structs target) (type_at e) (as_number e)
  steps_of e target h k kt is = subst (λ size. StepsOver size (type_at e) (as_number e)) (same_size target kt) (steps scope (length scope.structs) (size_of scope.structs target) e h k is)

  -- of a sum or a difference of a pointer and an integer
  stepped_along : (T : CType) (l r : Expr) → IsKnown (type_at l) → HasType scope r → IsKnown (type_at r) → IsTrue (is_pointer (operand l).type) → IsTrue (steps_along scope.structs (operand r) (operand l).type) → T ≡ (operand l).type
      → StepsFit p.structs T (type_at l) (type_at r) (as_number r)
  stepped_along T l r kl hr kr pointer is e =
      let at = pointer_is (type_at l) pointer in
      let known_target : IsKnown at.0 = subst IsKnown at.1 (known_value (length scope.structs) (type_at l) kl) in
      (at.0, e ∙ at.1, sym e, steps_of r at.0 hr kr known_target (subst (λ U. IsTrue (steps_along scope.structs (operand r) U)) at.1 is))

  binary : (T : CType) (operator : BinaryOperator) (l r : Expr) → HasType scope l → IsKnown (type_at l) → HasType scope r → IsKnown (type_at r) → HasBinary scope.structs operator (operand l) (operand r) T
      → OperandsFit p.structs T operator (type_at l) (type_at r) (as_number l) (as_number r) × IsKnown T
  binary T operator l r hl kl hr kr (arithmetic is ints e) =
      let both = and_parts (is_integer (operand l).type) (is_integer (operand r).type) ints in
      let f = e ∙ ap₂ common (integer_itself (type_at l) both.0) (integer_itself (type_at r) both.1) in
      let n = length scope.structs in (
        inl (short_integer n (type_at l) kl both.0, short_integer n (type_at r) kr both.1, arithmetic_fits operator T (type_at l) (type_at r) (as_number r) is f),
        subst IsKnown (sym f) (common_known n (type_at l) (type_at r) kl kr),
      )
  binary T operator l r hl kl hr kr (product is chars e) =
      let both = and_parts (type_eq (operand l).type unsigned_char) (type_eq (operand r).type unsigned_char) chars in
      let n = length scope.structs in
      let el = is_unsigned_char (type_at l) both.0 in
      let er = is_unsigned_char (type_at r) both.1 in (
        subst (λ q. OperandsFit p.structs T q (type_at l) (type_at r) (as_number l) (as_number r)) (sym is)
            (inl (short_integer n (type_at l) kl (subst (λ U. IsTrue (is_integer (value_type U))) (sym el) refl), short_integer n (type_at r) kr (subst (λ U. IsTrue (is_integer (value_type U))) (sym er) refl), (e, el, er))),
        subst IsKnown (sym e) refl,
      )
  binary T operator l r hl kl hr kr (quotient is chars e) =
      let both = and_parts (type_eq (operand l).type unsigned_char) (type_eq (operand r).type unsigned_char) chars in
      let n = length scope.structs in
      let el = is_unsigned_char (type_at l) both.0 in
      let er = is_unsigned_char (type_at r) both.1 in (
        inl (short_integer n (type_at l) kl (subst (λ U. IsTrue (is_integer (value_type U))) (sym el) refl), short_integer n (type_at r) kr (subst (λ U. IsTrue (is_integer (value_type U))) (sym er) refl), quotient_fits operator T (type_at l) (type_at r) (as_number r) is e el er),
        subst IsKnown (sym e) refl,
      )
  binary T operator l r hl kl hr kr (shifted is left count e) =
      let both = and_parts (is_integer (operand r).type) (elim (number_of r) [ Some k ↦ nat_le k 15 | None ↦ false ]) count in
      let small = number_small (number_of r) both.1 in
      let f = e ∙ ap promoted (integer_itself (type_at l) left) in
      let n = length scope.structs in (
        inl (short_integer n (type_at l) kl left, short_integer n (type_at r) kr both.0, shift_fits operator T (type_at l) (type_at r) (as_number r) is f (small.0, sym (same_number r) ∙ small.1, small.2)),
        subst IsKnown (sym f) (promoted_known n (type_at l) kl),
      )
  binary T operator l r hl kl hr kr (compared is ints e) =
      let both = and_parts (is_integer (operand l).type) (is_integer (operand r).type) ints in
      let n = length scope.structs in
      (inl (short_integer n (type_at l) kl both.0, short_integer n (type_at r) kr both.1, comparison_fits operator T (type_at l) (type_at r) (as_number r) is e), subst IsKnown (sym e) refl)
  binary T operator l r hl kl hr kr (compared_pointers is like e) =
      let both = and_parts (is_pointer (operand l).type) (type_eq (operand l).type (operand r).type) like in
      let right = like_pointer (operand l).type (operand r).type both.0 both.1 in
      (inr (pointers_fit p.structs operator T (type_at l) (type_at r) (as_number l) (as_number r) is e (pointer_is (type_at l) both.0) (pointer_is (type_at r) right)), subst IsKnown (sym e) refl)
  binary T operator l r hl kl hr kr (compared_to_null is null e) =
      let both = and_parts (is_pointer (operand l).type) (elim (number_of r) [ Some k ↦ nat_eq k 0 | None ↦ false ]) null in
      let zero_is = integer_number r 0 hr (number_zero (number_of r) both.1) in
      (inr (equality_fits p.structs operator T (type_at l) (type_at r) (as_number l) (as_number r) is e (inr (inl (pointer_is (type_at l) both.0, zero_is.0, zero_is.1)))), subst IsKnown (sym e) refl)
  binary T operator l r hl kl hr kr (null_compared is null e) =
      let both = and_parts (is_pointer (operand r).type) (elim (number_of l) [ Some k ↦ nat_eq k 0 | None ↦ false ]) null in
      let zero_is = integer_number l 0 hl (number_zero (number_of l) both.1) in
      (inr (equality_fits p.structs operator T (type_at l) (type_at r) (as_number l) (as_number r) is e (inr (inr (zero_is.0, zero_is.1, pointer_is (type_at r) both.0)))), subst IsKnown (sym e) refl)
  binary T operator l r hl kl hr kr (stepped is steps e) =
      let both = and_parts (is_pointer (operand l).type) (steps_along scope.structs (operand r) (operand l).type) steps in (
        subst (λ q. OperandsFit p.structs T q (type_at l) (type_at r) (as_number l) (as_number r)) (sym is) (inr (inr (stepped_along T l r kl hr kr both.0 both.1 e))),
        subst IsKnown (sym e) (known_value (length scope.structs) (type_at l) kl),
      )
  binary T operator l r hl kl hr kr (steps_first is steps e) =
      let both = and_parts (is_pointer (operand r).type) (steps_along scope.structs (operand l) (operand r).type) steps in
      let fits = stepped_along T r l kr hl kl both.0 both.1 e in (
        subst (λ q. OperandsFit p.structs T q (type_at l) (type_at r) (as_number l) (as_number r)) (sym is) (inr (inl (fits.3.0, fits))),
        subst IsKnown (sym e) (known_value (length scope.structs) (type_at r) kr),
      )
  binary T operator l r hl kl hr kr (stepped_back is steps e) =
      let both = and_parts (is_pointer (operand l).type) (steps_along scope.structs (operand r) (operand l).type) steps in (
        subst (λ q. OperandsFit p.structs T q (type_at l) (type_at r) (as_number l) (as_number r)) (sym is) (inr (stepped_along T l r kl hr kr both.0 both.1 e)),
        subst IsKnown (sym e) (known_value (length scope.structs) (type_at l) kl),
      )

  pub typed : (e : Expr) → HasType scope e → AreTaken is_taken (addressed e) → IsTyped p f e × IsKnown (type_at e)
  typed (Variable T n name) h t = variables name.number n T h
  typed (Number T number span) h t =
      let constant = literal_constant number (subst (λ U. IsTrue (not (is_four_bytes U))) h.0 h.1) in
      subst (λ U. IsTyped p f (Number U number span) × IsKnown U) (sym h.0) (constant, constant_known (length scope.structs) _ number.value constant)
  typed (Parenthesis T left e right) h t =
      let x = typed e h.0 t in
      ((h.1, x.0), subst IsKnown (sym h.1) x.1)
  typed (Binary T l operator at r) h t =
      let x = typed l h.0 (taken_first is_taken (addressed l) (addressed r) t) in
      let y = typed r h.2 (taken_last is_taken (addressed l) (addressed r) t) in
      let b = binary T operator l r h.0 x.1 h.2 y.1 h.4 in
      ((x.0, y.0, b.0), b.1)
  typed (Prefix T Negate at e) h t =
      let x = typed e h.0 t in
      let itself = h.2.1 ∙ ap promoted (integer_itself (type_at e) h.2.0) in
      ((x.0, short_integer (length scope.structs) (type_at e) x.1 h.2.0, itself), subst IsKnown (sym itself) (promoted_known (length scope.structs) (type_at e) x.1))
  typed (Prefix T Complement at e) h t =
      let x = typed e h.0 t in
      let itself = h.2.1 ∙ ap promoted (integer_itself (type_at e) h.2.0) in
      ((x.0, short_integer (length scope.structs) (type_at e) x.1 h.2.0, itself), subst IsKnown (sym itself) (promoted_known (length scope.structs) (type_at e) x.1))
  typed (Prefix T Dereference at e) h t =
      let x = typed e h.0 t in
      ((x.0, h.2), subst IsKnown h.2 (known_value (length scope.structs) (type_at e) x.1))
  typed (Prefix T AddressOf at e) h t =
      let x = typed e h.0 (taken_last is_taken (option_list (variable_of e)) (addressed e) t) in
      ((x.0, has_address p scope is_taken in_ram e h.0 h.2.0 (taken_first is_taken (option_list (variable_of e)) (addressed e) t), h.2.2), subst IsKnown (sym h.2.2) x.1)
  typed (Prefix T NotPrefix at e) h t = absurd h.2
  typed (Cast T left words right e) h t =
      let x = typed e h.3 t in
      let n = length scope.structs in
      let k = known_integer n T h.2 h.1 in
      ((x.0, short_integer n T k (integer_value T h.2), short_integer n (type_at e) x.1 h.5), k)
    where
      integer_value : (U : CType) → IsTrue (is_integer U) → IsTrue (is_integer (value_type U))
      integer_value Void i = i
      integer_value (Integer s g) i = i
      integer_value (Pointer U) i = i
      integer_value (Array U c) i = absurd (false≢true i)
      integer_value (Struct number) i = i
  typed (Index T base left index right) h t =
      let x = typed base h.0 (taken_first is_taken (addressed base) (addressed index) t) in
      let y = typed index h.2 (taken_last is_taken (addressed base) (addressed index) t) in
      let k : IsKnown T = subst IsKnown h.4 (known_value (length scope.structs) (type_at base) x.1) in
      ((x.0, y.0, h.4, steps_of index T h.2 y.1 k (subst (λ U. IsTrue (steps_along scope.structs (operand index) U)) h.4 h.5)), k)
  typed (Select T e Dot at member offset) h t =
      let x = typed e h.0 t in
      (x.0, members h.1.0 member.number _ h.1.2)
  typed (Select T e Arrow at member offset) h t =
      let x = typed e h.0 t in
      ((x.0, (h.1.0, h.1.1)), members h.1.0 member.number _ h.1.2)
