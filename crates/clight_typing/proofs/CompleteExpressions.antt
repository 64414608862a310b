-- Each well-typed expression is the one that its source is given: an expression is refused only where there is none.
use Rattle.std.proofs.Common.{◌≡◌, ◌∙◌, ℕ, Bool, true, false, ◌&&◌, ◌||◌, IsTrue, List, Option, Some, None, Result, Ok, Err, refl, sym, ap, subst}
use Rattle.std.specs.Prelude.{if◌then◌else◌, not}
use Rattle.std.proofs.lemmas.Bool.{and_parts, not-true, and_from}
use Rattle.clight_source.specs.declared.span.Span.{Span}
use Rattle.clight_source.specs.declared.symbol.Literal.{Literal}
use Rattle.clight_source.specs.declared.tree.BinaryOperator.{BinaryOperator}
use Rattle.clight_source.specs.declared.tree.BinaryOperator.TheVariants as b
use Rattle.clight_source.specs.declared.tree.PrefixOperator.{PrefixOperator}
use Rattle.clight_source.specs.declared.tree.PrefixOperator.TheVariants as p
use Rattle.clight_source.specs.declared.tree.MemberOperator.{MemberOperator}
use Rattle.clight_source.specs.declared.tree.MemberOperator.TheVariants as m
use Rattle.clight_source.specs.declared.tree.Name.{Name}
use Rattle.clight_source.specs.declared.tree.Specifiers.{Specifiers}
use Rattle.cerco_base.specs.declared.reasons.TypeKind.TheVariants as k
use Rattle.clight_source.specs.Trees as s
use Rattle.c_types.specs.declared.integers.Size.TheVariants.{One, Two, Four}
use Rattle.c_types.specs.declared.integers.Size.{Size}
use Rattle.c_types.specs.Types.{CType, Void, Integer, Pointer, Array, Struct, Member, StructType}
use Rattle.clight_syntax.specs.TypedTrees.{Expr, Variable, Number, Parenthesis, Binary, Prefix, Cast, Index, Select, type_at, Cond, Truth, InParentheses, Not, Both, Either}
use Rattle.c_types.specs.Conversions.{promoted}
use Rattle.clight_syntax.specs.LiteralTypes.{literal_type}
use Rattle.c_types.specs.Kinds.{is_integer, is_pointer, is_scalar, is_array, is_four_bytes, target_of}
use Rattle.clight_types.specs.Operands.{is_value, is_place, operand, steps_along}
use Rattle.clight_types.specs.Scopes.{Scope, meaning_of, member_of}
use Rattle.clight_types.specs.Declarations.{named_type}
use Rattle.clight_types.specs.Expressions.{HasType, HasValue, HasPrefix, NeedsValue, HasBinary, IsConditional, is_logical, selected, are_pointer_and_steps}
use Rattle.clight_typing.specs.Sources.{expr_source, cond_source}
use Rattle.clight_types.specs.TypedExpressions.{Checked, fault, ◌>>=◌, or_fault, Judged, Typed, Logical, NoVariable, expr_place, value_in, condition_in, place_in, judged_name, judged_number, in_parentheses, binary_type, binary_kind, of_values, judged_binary, promoted_type, dereferenced_type, address_type, address_of, judged_prefix, words_start, object_words, cast_type, judged_cast, element_type, judged_index, selected_type, found_member, select_from, judged_select, judged, typed_value, typed_condition, typed_place}
use Rattle.clight_typing.proofs.Checks.{if_true, if_false}
use Rattle.clight_typing.proofs.BinaryTypes.{row_type}

-- ---- what stands where

pub value_given : (e : s.Expr) (t : Expr) (x : Checked Judged) → x ≡ Ok (Typed t) → IsTrue (is_value (type_at t)) → (x >>= value_in e) ≡ Ok t
value_given e t x is value = ap (λ x. x >>= value_in e) is ∙ if_true (is_value (type_at t)) (Ok t) (fault (expr_place e) k.Value) value

pub place_given : (e : s.Expr) (t : Expr) (x : Checked Judged) → x ≡ Ok (Typed t) → (x >>= place_in e) ≡ Ok (Some t)
place_given e t x is = ap (λ x. x >>= place_in e) is

-- a step that gives this, and what follows it
pub goes : {A B : Type 0} (x : Checked A) (a : A) (next : A → Checked B) → x ≡ Ok a → (x >>= next) ≡ next a
goes x a next is = ap (λ x. x >>= next) is

-- ---- the forms

not_four : (type : CType) → IsTrue (not (is_four_bytes type)) → is_four_bytes type ≡ false
not_four type h = not-true (is_four_bytes type) h

number_given : (type : CType) (x : Literal) (span : Span) → type ≡ literal_type x → IsTrue (not (is_four_bytes type)) → judged_number x span ≡ Ok (Typed (Number type x span))
number_given type x span is short =
    if_false (is_four_bytes (literal_type x)) _ _ (ap is_four_bytes (sym is) ∙ not_four type short) ∙ ap (λ type. Ok (Typed (Number type x span))) (sym is)

values_given : (scope : Scope) (operator : BinaryOperator) (at : Span) (l r : Expr) (type : CType) (x y : Checked Judged) →
    x ≡ Ok (Typed l) → IsTrue (is_value (type_at l)) → y ≡ Ok (Typed r) → IsTrue (is_value (type_at r)) → HasBinary scope.structs operator (operand l) (operand r) type →
    ((x >>= value_in (expr_source l)) >>= λ e. (y >>= value_in (expr_source r)) >>= λ f. of_values scope.structs operator at e f) ≡ Ok (Typed (Binary type l operator at r))
values_given scope operator at l r type x y left lv right rv row =
    goes _ l _ (value_given (expr_source l) l x left lv)
    ∙ (goes _ r _ (value_given (expr_source r) r y right rv)
    ∙ ap (λ o. or_fault o (λ type. Typed (Binary type l operator at r)) at.from (binary_kind operator)) (row_type scope.structs operator (operand l) (operand r) type row))

none_is_not : (o : Option CType) (type : CType) → o ≡ None → o ≡ Some type → ⊥
none_is_not o type none some = cc

binary_given : (scope : Scope) (operator : BinaryOperator) (at : Span) (l r : Expr) (type : CType) (x y : Checked Judged) →
    x ≡ Ok (Typed l) → IsTrue (is_value (type_at l)) → y ≡ Ok (Typed r) → IsTrue (is_value (type_at r)) → HasBinary scope.structs operator (operand l) (operand r) type →
    judged_binary scope.structs operator at (expr_source l) (expr_source r) x y ≡ Ok (Typed (Binary type l operator at r))
binary_given scope b.LogicalAnd at l r type x y left lv right rv row = absurd (none_is_not _ type refl (row_type scope.structs b.LogicalAnd (operand l) (operand r) type row))
binary_given scope b.LogicalOr at l r type x y left lv right rv row = absurd (none_is_not _ type refl (row_type scope.structs b.LogicalOr (operand l) (operand r) type row))
binary_given scope operator at l r type x y left lv right rv row = values_given scope operator at l r type x y left lv right rv row

-- a prefix operator that takes a value
prefixed_given : (operator : PrefixOperator) (at : Span) (t : Expr) (type : CType) (x : Checked Judged) (given : Expr → Option CType) →
    x ≡ Ok (Typed t) → IsTrue (is_value (type_at t)) → given t ≡ Some type →
    ((x >>= value_in (expr_source t)) >>= λ t. or_fault (given t) (λ type. Typed (Prefix type operator at t)) at.from k.Operand) ≡ Ok (Typed (Prefix type operator at t))
prefixed_given operator at t type x given is value e =
    goes _ t _ (value_given (expr_source t) t x is value) ∙ ap (λ o. or_fault o (λ type. Typed (Prefix type operator at t)) at.from k.Operand) e

pointer_type : (type target : CType) → type ≡ Pointer target → (if is_pointer type then Some (target_of type) else None) ≡ Some target
pointer_type type target is = ap (λ type. if is_pointer type then Some (target_of type) else None) is

prefix_given : (operator : PrefixOperator) (at : Span) (t : Expr) (type : CType) (x : Checked Judged) →
    x ≡ Ok (Typed t) → NeedsValue operator (type_at t) → HasPrefix operator t type → judged_prefix operator at (expr_source t) x ≡ Ok (Typed (Prefix type operator at t))
prefix_given p.Negate at t type x is value h =
    prefixed_given p.Negate at t type x promoted_type is value (if_true (is_integer (operand t).type) (Some (promoted (operand t).type)) None h.0 ∙ ap Some (sym h.1))
prefix_given p.Complement at t type x is value h =
    prefixed_given p.Complement at t type x promoted_type is value (if_true (is_integer (operand t).type) (Some (promoted (operand t).type)) None h.0 ∙ ap Some (sym h.1))
prefix_given p.Not at t type x is value h = absurd h
prefix_given p.Dereference at t type x is value h = prefixed_given p.Dereference at t type x dereferenced_type is value (pointer_type (operand t).type type h)
prefix_given p.AddressOf at t type x is value h =
    goes _ (Some t) _ (place_given (expr_source t) t x is)
    ∙ (ap (λ o. or_fault o (λ type. Typed (Prefix type p.AddressOf at t)) at.from k.Operand)
    (if_true (is_place t && not (is_array (type_at t))) (Some (Pointer (type_at t))) None (and_from _ _ h.0 h.1) ∙ ap Some (sym h.2)))

words_given : (type : CType) (words : Specifiers) → IsTrue (not (is_four_bytes type)) → IsTrue (is_integer type) → object_words type words ≡ Ok type
words_given Void words short integer = absurd cc
words_given (Integer size signed) words short integer = if_false (is_four_bytes (Integer size signed)) _ (Ok (Integer size signed)) (not_four (Integer size signed) short)
words_given (Pointer target) words short integer = absurd cc
words_given (Array element count) words short integer = absurd cc
words_given (Struct number) words short integer = absurd cc

cast_given : (scope : Scope) (left : Span) (words : Specifiers) (right : Span) (t : Expr) (type : CType) (x : Checked Judged) →
    x ≡ Ok (Typed t) → type ≡ named_type scope.structs words → IsTrue (not (is_four_bytes type)) → IsTrue (is_integer type) → IsTrue (is_value (type_at t)) →
    IsTrue (is_integer (operand t).type) → judged_cast scope.structs left words right (expr_source t) x ≡ Ok (Typed (Cast type left words right t))
cast_given scope left words right t type x is words_is short integer value value_integer =
    goes (object_words (named_type scope.structs words) words) type _ (ap (λ type. object_words type words) (sym words_is) ∙ words_given type words short integer)
    ∙ (goes _ t _ (value_given (expr_source t) t x is value)
    ∙ ap (λ o. or_fault o (λ type. Typed (Cast type left words right t)) left.from k.Operand)
    (if_true (is_integer type && is_integer (operand t).type) (Some type) None (and_from _ _ integer value_integer)))

index_given : (scope : Scope) (left right : Span) (base index : Expr) (type : CType) (x y : Checked Judged) →
    x ≡ Ok (Typed base) → IsTrue (is_value (type_at base)) → y ≡ Ok (Typed index) → IsTrue (is_value (type_at index)) →
    (operand base).type ≡ Pointer type → IsTrue (steps_along scope.structs (operand index) (operand base).type) →
    judged_index scope.structs left right (expr_source base) (expr_source index) x y ≡ Ok (Typed (Index type base left index right))
index_given scope left right base index type x y l lv r rv pointer steps =
    goes _ base _ (value_given (expr_source base) base x l lv)
    ∙ (goes _ index _ (value_given (expr_source index) index y r rv)
    ∙ ap (λ o. or_fault o (λ type. Typed (Index type base left index right)) left.from k.Operand)
    (if_true (are_pointer_and_steps scope.structs (operand base) (operand index)) (Some (target_of (operand base).type)) None
    (and_from (is_pointer (operand base).type) _ (ap is_pointer pointer) steps)
    ∙ ap (λ type. Some (target_of type)) pointer))

selected_given : (operator : MemberOperator) (t : Expr) (from : CType) → selected operator t from → selected_type operator t ≡ from
selected_given m.Dot t from h = h
selected_given m.Arrow t from h = ap (λ type. if is_pointer type then target_of type else Void) h

select_given : (scope : Scope) (operator : MemberOperator) (at : Span) (member : Name) (t : Expr) (type from : CType) (offset : ℕ) (x : Checked Judged) →
    x ≡ Ok (Typed t) → selected operator t from → member_of scope.structs from member.number ≡ Some (record { name = member.number; type = type; offset = offset }) →
    judged_select scope.structs operator at member (expr_source t) x ≡ Ok (Typed (Select type t operator at member offset))
select_given scope operator at member t type from offset x is selects found =
    goes _ (Some t) _ (place_given (expr_source t) t x is)
    ∙ ap (λ o. found_member o t operator at member) (ap (λ from. member_of scope.structs from member.number) (selected_given operator t from selects) ∙ found)

-- ---- every expression

pub judged_given : (scope : Scope) (t : Expr) → HasType scope t → judged scope (expr_source t) ≡ Ok (Typed t)
judged_given scope (Variable type variable name) h = ap (λ meaning. Ok (judged_name meaning name)) h
judged_given scope (Number type number span) h = number_given type number span h.0 h.1
judged_given scope (Parenthesis type left e right) h =
    goes (judged scope (expr_source e)) (Typed e) _ (judged_given scope e h.0) ∙ ap (λ type. Ok (Typed (Parenthesis type left e right))) (sym h.1)
judged_given scope (Binary type l operator at r) h =
    binary_given scope operator at l r type _ _ (judged_given scope l h.0) h.1 (judged_given scope r h.2) h.3 h.4
judged_given scope (Prefix type operator at e) h = prefix_given operator at e type _ (judged_given scope e h.0) h.1 h.2
judged_given scope (Cast type left words right e) h = cast_given scope left words right e type _ (judged_given scope e h.3) h.0 h.1 h.2 h.4 h.5
judged_given scope (Index type base left index right) h =
    index_given scope left right base index type _ _ (judged_given scope base h.0) h.1 (judged_given scope index h.2) h.3 h.4 h.5
judged_given scope (Select type e operator at member offset) h =
    select_given scope operator at member e type h.1.0 offset _ (judged_given scope e h.0) h.1.1 h.1.2

pub typed_value_given : (scope : Scope) (t : Expr) → HasValue scope t → typed_value scope (expr_source t) ≡ Ok t
typed_value_given scope t h = value_given (expr_source t) t _ (judged_given scope t h.0) h.1

pub typed_place_given : (scope : Scope) (t : Expr) → HasType scope t → typed_place scope (expr_source t) ≡ Ok (Some t)
typed_place_given scope t h = place_given (expr_source t) t _ (judged_given scope t h)

-- ---- conditions

-- a condition as an expression by itself
abbrev pub as_judged : Cond (Unit {0}) → Judged
as_judged (Truth e) = Typed e
as_judged c = Logical c

-- its value is a scalar, where it is one
abbrev pub TestsScalar : Cond (Unit {0}) → Type 0
TestsScalar (Truth e) = IsTrue (is_scalar (operand e).type)
TestsScalar c = Unit {0}

tests_scalar : (scope : Scope) (c : Cond (Unit {0})) → IsConditional scope c → TestsScalar c
tests_scalar scope (Truth e) h = h.1
tests_scalar scope (InParentheses left c right) h = tt
tests_scalar scope (Not at c) h = tt
tests_scalar scope (Both l at on_true on_false r) h = tt
tests_scalar scope (Either l at on_true on_false r) h = tt

as_condition : (e : s.Expr) (c : Cond (Unit {0})) → TestsScalar c → condition_in e (as_judged c) ≡ Ok c
as_condition e (Truth t) h = if_true (is_scalar (operand t).type) (Ok (Truth t)) _ h
as_condition e (InParentheses left c right) h = refl
as_condition e (Not at c) h = refl
as_condition e (Both l at on_true on_false r) h = refl
as_condition e (Either l at on_true on_false r) h = refl

condition_given : (e : s.Expr) (c : Cond (Unit {0})) (x : Checked Judged) → x ≡ Ok (as_judged c) → TestsScalar c → (x >>= condition_in e) ≡ Ok c
condition_given e c x is h = goes x (as_judged c) (condition_in e) is ∙ as_condition e c h

logical_judged : (c : Cond (Unit {0})) → IsTrue (is_logical c) → as_judged c ≡ Logical c
logical_judged (Truth e) h = absurd cc
logical_judged (InParentheses left c right) h = refl
logical_judged (Not at c) h = refl
logical_judged (Both l at on_true on_false r) h = refl
logical_judged (Either l at on_true on_false r) h = refl

pub cond_judged : (scope : Scope) (c : Cond (Unit {0})) → IsConditional scope c → judged scope (cond_source c) ≡ Ok (as_judged c)
cond_judged scope (Truth e) h = judged_given scope e h.0
cond_judged scope (InParentheses left c right) h =
    goes (judged scope (cond_source c)) (Logical c) _ (cond_judged scope c h.0 ∙ ap Ok (logical_judged c h.1))
cond_judged scope (Not at c) h =
    goes _ c _ (condition_given (cond_source c) c _ (cond_judged scope c h) (tests_scalar scope c h))
cond_judged scope (Both l at on_true on_false r) h =
    goes _ l _ (condition_given (cond_source l) l _ (cond_judged scope l h.0) (tests_scalar scope l h.0))
    ∙ goes _ r _ (condition_given (cond_source r) r _ (cond_judged scope r h.1) (tests_scalar scope r h.1))
cond_judged scope (Either l at on_true on_false r) h =
    goes _ l _ (condition_given (cond_source l) l _ (cond_judged scope l h.0) (tests_scalar scope l h.0))
    ∙ goes _ r _ (condition_given (cond_source r) r _ (cond_judged scope r h.1) (tests_scalar scope r h.1))

pub typed_condition_given : (scope : Scope) (c : Cond (Unit {0})) → IsConditional scope c → typed_condition scope (cond_source c) ≡ Ok c
typed_condition_given scope c h = condition_given (cond_source c) c _ (cond_judged scope c h) (tests_scalar scope c h)
