-- Where an expression is given a typed tree, that tree is well typed, and the expression is its source.
use Rattle.std.proofs.Common.{◌≡◌, ◌∙◌, ℕ, Bool, true, false, ◌&&◌, ◌||◌, IsTrue, List, [], ◌∷◌, Option, Some, None, Result, Ok, Err, refl, sym, ap, subst}
use Rattle.std.specs.Prelude.{IfOk, IfSome, if◌then◌else◌, not, nat_eq, slice_get}
use Rattle.std.proofs.lemmas.Bool.{and_parts, eqb-true}
use Rattle.clight_source.specs.declared.span.Span.{Span}
use Rattle.clight_source.specs.declared.symbol.Literal.{Literal}
use Rattle.clight_source.specs.declared.tree.BinaryOperator.{BinaryOperator}
use Rattle.clight_source.specs.declared.tree.BinaryOperator.TheVariants as b
use Rattle.clight_source.specs.declared.tree.PrefixOperator.{PrefixOperator}
use Rattle.clight_source.specs.declared.tree.PrefixOperator.TheVariants as p
use Rattle.clight_source.specs.declared.tree.MemberOperator.{MemberOperator}
use Rattle.clight_source.specs.declared.tree.MemberOperator.TheVariants as m
use Rattle.clight_source.specs.declared.tree.Name.{Name}
use Rattle.clight_source.specs.declared.tree.Specifiers.{Specifiers}
use Rattle.cerco_base.specs.declared.reasons.TypeKind.TheVariants as k
use Rattle.clight_source.specs.Trees as s
use Rattle.c_types.specs.declared.integers.Size.TheVariants.{One, Two, Four}
use Rattle.c_types.specs.declared.integers.Size.{Size}
use Rattle.c_types.specs.Types.{CType, Void, Integer, Pointer, Array, Struct, Member, StructType}
use Rattle.clight_syntax.specs.TypedTrees.{Expr, Variable, Number, Parenthesis, Binary, Prefix, Cast, Index, Select, type_at, Cond, Truth, InParentheses, Not, Both, Either}
use Rattle.c_types.specs.Conversions.{promoted}
use Rattle.clight_syntax.specs.LiteralTypes.{literal_type}
use Rattle.c_types.specs.Kinds.{is_integer, is_pointer, is_scalar, is_array, is_four_bytes, target_of}
use Rattle.clight_types.specs.Operands.{is_value, is_place, operand, steps_along}
use Rattle.clight_types.specs.Scopes.{Scope, Meaning, Object, Code, meaning_of, member_of, member_in}
use Rattle.clight_types.specs.Declarations.{named_type}
use Rattle.clight_types.specs.Expressions.{HasType, HasValue, HasPrefix, NeedsValue, HasBinary, IsConditional, is_logical, selected, are_pointer_and_steps}
use Rattle.clight_typing.specs.Sources.{expr_source, cond_source}
use Rattle.clight_types.specs.TypedExpressions.{Checked, fault, ◌>>=◌, or_fault, Judged, Typed, Logical, NoVariable, expr_place, bare_place, value_in, condition_in, place_in, judged_name, judged_number, in_parentheses, binary_type, binary_kind, of_values, judged_binary, promoted_type, dereferenced_type, address_type, address_of, judged_prefix, words_start, object_words, cast_type, judged_cast, element_type, judged_index, selected_type, found_member, select_from, judged_select, judged, typed_value, typed_condition, typed_place}
use Rattle.clight_typing.proofs.Checks.{then_holds, if_holds, or_fault_holds, some_holds}
use Rattle.clight_typing.proofs.BinaryTypes.{has_row}

-- what an expression by itself is
abbrev pub IsJudged : Scope → s.Expr → Judged → Type 0
IsJudged scope e (Typed t) = HasType scope t × (expr_source t ≡ e)
IsJudged scope e (Logical c) = IsConditional scope c × IsTrue (is_logical c) × (cond_source c ≡ e)
IsJudged scope e NoVariable = Unit {0}

-- a value of an expression
abbrev pub IsValueOf : Scope → s.Expr → Expr → Type 0
IsValueOf scope e t = HasType scope t × IsTrue (is_value (type_at t)) × (expr_source t ≡ e)

abbrev pub IsConditionOf : Scope → s.Expr → Cond (Unit {0}) → Type 0
IsConditionOf scope e c = IsConditional scope c × (cond_source c ≡ e)

abbrev pub IsPlaceOf : Scope → s.Expr → Option Expr → Type 0
IsPlaceOf scope e None = Unit {0}
IsPlaceOf scope e (Some t) = HasType scope t × (expr_source t ≡ e)

-- ---- what stands where

pub value_right : (scope : Scope) (e : s.Expr) (j : Judged) → IsJudged scope e j → IfOk (value_in e j) (IsValueOf scope e)
value_right scope e (Typed t) h = if_holds (IsValueOf scope e) (is_value (type_at t)) (Ok t) (expr_place e) k.Value (λ is. (h.0, is, h.1))
value_right scope e (Logical c) h = tt
value_right scope e NoVariable h = tt

pub condition_right : (scope : Scope) (e : s.Expr) (j : Judged) → IsJudged scope e j → IfOk (condition_in e j) (IsConditionOf scope e)
condition_right scope e (Typed t) h =
    if_holds (IsConditionOf scope e) (is_scalar (operand t).type) (Ok (Truth t)) (expr_place e) k.Condition (λ is. ((h.0, is), h.1))
condition_right scope e (Logical c) h = (h.0, h.2)
condition_right scope e NoVariable h = tt

pub place_right : (scope : Scope) (e : s.Expr) (j : Judged) → IsJudged scope e j → IfOk (place_in e j) (IsPlaceOf scope e)
place_right scope e (Typed t) h = h
place_right scope e (Logical c) h = tt
place_right scope e NoVariable h = tt

pub value_of : (scope : Scope) (e : s.Expr) (x : Checked Judged) → IfOk x (IsJudged scope e) → IfOk (x >>= value_in e) (IsValueOf scope e)
value_of scope e x h = then_holds (IsJudged scope e) (IsValueOf scope e) x (value_in e) h (value_right scope e)

pub condition_of : (scope : Scope) (e : s.Expr) (x : Checked Judged) → IfOk x (IsJudged scope e) → IfOk (x >>= condition_in e) (IsConditionOf scope e)
condition_of scope e x h = then_holds (IsJudged scope e) (IsConditionOf scope e) x (condition_in e) h (condition_right scope e)

pub place_of : (scope : Scope) (e : s.Expr) (x : Checked Judged) → IfOk x (IsJudged scope e) → IfOk (x >>= place_in e) (IsPlaceOf scope e)
place_of scope e x h = then_holds (IsJudged scope e) (IsPlaceOf scope e) x (place_in e) h (place_right scope e)

-- ---- the forms

name_right : (scope : Scope) (name : Name) (meaning : Option Meaning) → meaning_of scope name.number ≡ meaning → IsJudged scope (s.Variable name) (judged_name meaning name)
name_right scope name (Some (Object variable type)) is = (is, refl)
name_right scope name (Some (Code function signature)) is = tt
name_right scope name None is = tt

number_right : (scope : Scope) (x : Literal) (span : Span) → IfOk (judged_number x span) (IsJudged scope (s.Number x span))
number_right scope x span = short (is_four_bytes (literal_type x)) refl
  where
    short : (b : Bool) → is_four_bytes (literal_type x) ≡ b →
        IfOk (if b then fault span.from k.Long else Ok (Typed (Number (literal_type x) x span))) (IsJudged scope (s.Number x span))
    short true is = tt
    short false is = ((refl, rw is refl), refl)

parentheses_right : (scope : Scope) (left right : Span) (e : s.Expr) (j : Judged) → IsJudged scope e j →
    IsJudged scope (s.Parenthesis left e right) (in_parentheses left right j)
parentheses_right scope left right e (Typed t) h = ((h.0, refl), ap (λ e. s.Parenthesis left e right) h.1)
parentheses_right scope left right e (Logical c) h = ((h.0, h.1), refl, ap (λ e. s.Parenthesis left e right) h.2)
parentheses_right scope left right e NoVariable h = tt

both_right : (scope : Scope) (at : Span) (l r : s.Expr) (x y : Checked Judged) → IfOk x (IsJudged scope l) → IfOk y (IsJudged scope r) →
    IfOk (judged_binary scope.structs b.LogicalAnd at l r x y) (IsJudged scope (s.Binary l b.LogicalAnd at r))
both_right scope at l r x y f g =
    then_holds (IsConditionOf scope l) (IsJudged scope (s.Binary l b.LogicalAnd at r)) (x >>= condition_in l) _ (condition_of scope l x f)
    (λ c hc. then_holds (IsConditionOf scope r) (IsJudged scope (s.Binary l b.LogicalAnd at r)) (y >>= condition_in r) _ (condition_of scope r y g)
    (λ d hd. ((hc.0, hd.0), refl, ap (λ l. s.Binary l b.LogicalAnd at (cond_source d)) hc.1 ∙ ap (λ r. s.Binary l b.LogicalAnd at r) hd.1)))

either_right : (scope : Scope) (at : Span) (l r : s.Expr) (x y : Checked Judged) → IfOk x (IsJudged scope l) → IfOk y (IsJudged scope r) →
    IfOk (judged_binary scope.structs b.LogicalOr at l r x y) (IsJudged scope (s.Binary l b.LogicalOr at r))
either_right scope at l r x y f g =
    then_holds (IsConditionOf scope l) (IsJudged scope (s.Binary l b.LogicalOr at r)) (x >>= condition_in l) _ (condition_of scope l x f)
    (λ c hc. then_holds (IsConditionOf scope r) (IsJudged scope (s.Binary l b.LogicalOr at r)) (y >>= condition_in r) _ (condition_of scope r y g)
    (λ d hd. ((hc.0, hd.0), refl, ap (λ l. s.Binary l b.LogicalOr at (cond_source d)) hc.1 ∙ ap (λ r. s.Binary l b.LogicalOr at r) hd.1)))

-- two values joined by an operator
values_right : (scope : Scope) (operator : BinaryOperator) (at : Span) (l r : s.Expr) (x y : Checked Judged) → IfOk x (IsJudged scope l) → IfOk y (IsJudged scope r) →
    IfOk ((x >>= value_in l) >>= λ e. (y >>= value_in r) >>= λ f. of_values scope.structs operator at e f) (IsJudged scope (s.Binary l operator at r))
values_right scope operator at l r x y f g =
    then_holds (IsValueOf scope l) Goal (x >>= value_in l) _ (value_of scope l x f)
    (λ d hd. then_holds (IsValueOf scope r) Goal (y >>= value_in r) _ (value_of scope r y g)
    (λ e he. or_fault_holds Goal (binary_type scope.structs operator (operand d) (operand e)) (λ type. Typed (Binary type d operator at e)) at.from (binary_kind operator)
    (row d hd e he _ (has_row scope.structs operator (operand d) (operand e)))))
  where
    Goal : Judged → Type 0
    Goal = IsJudged scope (s.Binary l operator at r)

    row : (d : Expr) → IsValueOf scope l d → (e : Expr) → IsValueOf scope r e → (o : Option CType) → IfSome o (HasBinary scope.structs operator (operand d) (operand e)) →
        IfSome o (λ type. IsJudged scope (s.Binary l operator at r) (Typed (Binary type d operator at e)))
    row d hd e he None h = tt
    row d hd e he (Some type) h =
        ((hd.0, hd.1, he.0, he.1, h), ap (λ l. s.Binary l operator at (expr_source e)) hd.2 ∙ ap (λ r. s.Binary l operator at r) he.2)

binary_right : (scope : Scope) (operator : BinaryOperator) (at : Span) (l r : s.Expr) (x y : Checked Judged) → IfOk x (IsJudged scope l) → IfOk y (IsJudged scope r) →
    IfOk (judged_binary scope.structs operator at l r x y) (IsJudged scope (s.Binary l operator at r))
binary_right scope b.LogicalAnd at l r x y f g = both_right scope at l r x y f g
binary_right scope b.LogicalOr at l r x y f g = either_right scope at l r x y f g
binary_right scope operator at l r x y f g = values_right scope operator at l r x y f g

-- what is given a type by a test
tested : (P : CType → Type 0) (b : Bool) (type : CType) → (IsTrue b → P type) → IfSome (if b then Some type else None) P
tested P true type h = h refl
tested P false type h = tt

promotion_right : (e : Expr) → IfSome (promoted_type e) (λ type. IsTrue (is_integer (operand e).type) × (type ≡ promoted (operand e).type))
promotion_right e = tested (λ type. IsTrue (is_integer (operand e).type) × (type ≡ promoted (operand e).type)) (is_integer (operand e).type) (promoted (operand e).type) (λ h. (h, refl))

pointer_target : (type : CType) → IsTrue (is_pointer type) → type ≡ Pointer (target_of type)
pointer_target Void h = absurd cc
pointer_target (Integer size signed) h = absurd cc
pointer_target (Pointer target) h = refl
pointer_target (Array element count) h = absurd cc
pointer_target (Struct number) h = absurd cc

dereference_right : (e : Expr) → IfSome (dereferenced_type e) (λ type. (operand e).type ≡ Pointer type)
dereference_right e = tested (λ type. (operand e).type ≡ Pointer type) (is_pointer (operand e).type) (target_of (operand e).type) (pointer_target (operand e).type)

address_right : (e : Expr) → IfSome (address_type e) (HasPrefix p.AddressOf e)
address_right e =
    tested (HasPrefix p.AddressOf e) (is_place e && not (is_array (type_at e))) (Pointer (type_at e))
    (λ h. let parts = and_parts _ _ h in (parts.0, parts.1, refl))

-- a prefix operator that takes a value
prefixed_right : (scope : Scope) (operator : PrefixOperator) (at : Span) (e : s.Expr) (x : Checked Judged) (type : Expr → Option CType) →
    ((t : Expr) → IsTrue (is_value (type_at t)) → IfSome (type t) (λ type. NeedsValue operator (type_at t) × HasPrefix operator t type)) → IfOk x (IsJudged scope e) →
    IfOk ((x >>= value_in e) >>= λ t. or_fault (type t) (λ type. Typed (Prefix type operator at t)) at.from k.Operand) (IsJudged scope (s.Prefix operator at e))
prefixed_right scope operator at e x type right f =
    then_holds (IsValueOf scope e) (IsJudged scope (s.Prefix operator at e)) (x >>= value_in e) _ (value_of scope e x f)
    (λ t ht. or_fault_holds (IsJudged scope (s.Prefix operator at e)) (type t) (λ type. Typed (Prefix type operator at t)) at.from k.Operand
    (row t ht (type t) (right t ht.1)))
  where
    row : (t : Expr) → IsValueOf scope e t → (o : Option CType) → IfSome o (λ type. NeedsValue operator (type_at t) × HasPrefix operator t type) →
        IfSome o (λ type. IsJudged scope (s.Prefix operator at e) (Typed (Prefix type operator at t)))
    row t ht None h = tt
    row t ht (Some type) h = ((ht.0, h.0, h.1), ap (λ e. s.Prefix operator at e) ht.2)

with_value : (P : CType → Type 0) {N : Type 0} (o : Option CType) → N → IfSome o P → IfSome o (λ type. N × P type)
with_value P None n h = tt
with_value P (Some type) n h = (n, h)

not_right : (scope : Scope) (at : Span) (e : s.Expr) (x : Checked Judged) → IfOk x (IsJudged scope e) →
    IfOk (judged_prefix p.Not at e x) (IsJudged scope (s.Prefix p.Not at e))
not_right scope at e x f =
    then_holds (IsConditionOf scope e) (IsJudged scope (s.Prefix p.Not at e)) (x >>= condition_in e) _ (condition_of scope e x f)
    (λ c hc. (hc.0, refl, ap (λ e. s.Prefix p.Not at e) hc.1))

address_of_right : (scope : Scope) (at : Span) (e : s.Expr) (t : Option Expr) → IsPlaceOf scope e t → IfOk (address_of at t) (IsJudged scope (s.Prefix p.AddressOf at e))
address_of_right scope at e None h = tt
address_of_right scope at e (Some t) h =
    or_fault_holds (IsJudged scope (s.Prefix p.AddressOf at e)) (address_type t) (λ type. Typed (Prefix type p.AddressOf at t)) at.from k.Operand
    (row (address_type t) (address_right t))
  where
    row : (o : Option CType) → IfSome o (HasPrefix p.AddressOf t) → IfSome o (λ type. IsJudged scope (s.Prefix p.AddressOf at e) (Typed (Prefix type p.AddressOf at t)))
    row None g = tt
    row (Some type) g = ((h.0, tt, g), ap (λ e. s.Prefix p.AddressOf at e) h.1)

prefix_right : (scope : Scope) (operator : PrefixOperator) (at : Span) (e : s.Expr) (x : Checked Judged) → IfOk x (IsJudged scope e) →
    IfOk (judged_prefix operator at e x) (IsJudged scope (s.Prefix operator at e))
prefix_right scope p.Negate at e x f = prefixed_right scope p.Negate at e x promoted_type (λ t is. with_value _ (promoted_type t) is (promotion_right t)) f
prefix_right scope p.Complement at e x f = prefixed_right scope p.Complement at e x promoted_type (λ t is. with_value _ (promoted_type t) is (promotion_right t)) f
prefix_right scope p.Not at e x f = not_right scope at e x f
prefix_right scope p.Dereference at e x f = prefixed_right scope p.Dereference at e x dereferenced_type (λ t is. with_value _ (dereferenced_type t) is (dereference_right t)) f
prefix_right scope p.AddressOf at e x f =
    then_holds (IsPlaceOf scope e) (IsJudged scope (s.Prefix p.AddressOf at e)) (x >>= place_in e) _ (place_of scope e x f) (address_of_right scope at e)

-- the words of a type that may stand in a declaration
abbrev pub IsWords : CType → CType → Type 0
IsWords type given = (given ≡ type) × IsTrue (not (is_four_bytes type))

short_words : (type : CType) (words : Specifiers) → IfOk (if is_four_bytes type then fault (words_start words) k.Long else Ok type) (IsWords type)
short_words type words = short (is_four_bytes type) refl
  where
    short : (b : Bool) → is_four_bytes type ≡ b → IfOk (if b then fault (words_start words) k.Long else Ok type) (IsWords type)
    short true is = tt
    short false is = (refl, rw is refl)

pub words_right : (type : CType) (words : Specifiers) → IfOk (object_words type words) (IsWords type)
words_right Void words = tt
words_right (Integer size signed) words = short_words (Integer size signed) words
words_right (Pointer target) words = short_words (Pointer target) words
words_right (Array element count) words = short_words (Array element count) words
words_right (Struct number) words = short_words (Struct number) words

cast_right : (scope : Scope) (left : Span) (words : Specifiers) (right : Span) (e : s.Expr) (x : Checked Judged) → IfOk x (IsJudged scope e) →
    IfOk (judged_cast scope.structs left words right e x) (IsJudged scope (s.Cast left words right e))
cast_right scope left words right e x f =
    then_holds (IsWords (named_type scope.structs words)) (IsJudged scope (s.Cast left words right e)) (object_words (named_type scope.structs words) words) _
    (words_right (named_type scope.structs words) words)
    (λ type ht. then_holds (IsValueOf scope e) (IsJudged scope (s.Cast left words right e)) (x >>= value_in e) _ (value_of scope e x f)
    (λ t h. or_fault_holds (IsJudged scope (s.Cast left words right e)) (cast_type type t) (λ type. Typed (Cast type left words right t)) left.from k.Operand
    (row type ht t h)))
  where
    row : (type : CType) → IsWords (named_type scope.structs words) type → (t : Expr) → IsValueOf scope e t →
        IfSome (cast_type type t) (λ type. IsJudged scope (s.Cast left words right e) (Typed (Cast type left words right t)))
    row type ht t h =
        tested (λ type. IsJudged scope (s.Cast left words right e) (Typed (Cast type left words right t))) (is_integer type && is_integer (operand t).type) type
        (λ both. let parts = and_parts (is_integer type) (is_integer (operand t).type) both in
        ((ht.0, (let short : IsTrue (not (is_four_bytes type)) = rw ht.0 ht.1 in short), parts.0, h.0, h.1, parts.1), ap (λ e. s.Cast left words right e) h.2))

index_right : (scope : Scope) (left right : Span) (base index : s.Expr) (x y : Checked Judged) → IfOk x (IsJudged scope base) → IfOk y (IsJudged scope index) →
    IfOk (judged_index scope.structs left right base index x y) (IsJudged scope (s.Index base left index right))
index_right scope left right base index x y f g =
    then_holds (IsValueOf scope base) (IsJudged scope (s.Index base left index right)) (x >>= value_in base) _ (value_of scope base x f)
    (λ d hd. then_holds (IsValueOf scope index) (IsJudged scope (s.Index base left index right)) (y >>= value_in index) _ (value_of scope index y g)
    (λ e he. or_fault_holds (IsJudged scope (s.Index base left index right)) (element_type scope.structs (operand d) (operand e)) (λ type. Typed (Index type d left e right)) left.from k.Operand
    (row d hd e he)))
  where
    row : (d : Expr) → IsValueOf scope base d → (e : Expr) → IsValueOf scope index e →
        IfSome (element_type scope.structs (operand d) (operand e)) (λ type. IsJudged scope (s.Index base left index right) (Typed (Index type d left e right)))
    row d hd e he =
        tested (λ type. IsJudged scope (s.Index base left index right) (Typed (Index type d left e right))) (are_pointer_and_steps scope.structs (operand d) (operand e)) (target_of (operand d).type)
        (λ both. let parts = and_parts (is_pointer (operand d).type) (steps_along scope.structs (operand e) (operand d).type) both in (
          (hd.0, hd.1, he.0, he.1, pointer_target (operand d).type parts.0, parts.1),
          ap (λ base. s.Index base left (expr_source e) right) hd.2 ∙ ap (λ index. s.Index base left index right) he.2,
        ))

-- ---- members

member_has_name : (members : List Member) (name : ℕ) → IfSome (member_in members name) (λ x. x.name ≡ name)
member_has_name [] name = tt
member_has_name (x ∷ rest) name = found (member_has_name rest name) (nat_eq x.name name) refl
  where
    found : IfSome (member_in rest name) (λ x. x.name ≡ name) → (b : Bool) → nat_eq x.name name ≡ b → IfSome (if b then Some x else member_in rest name) (λ x. x.name ≡ name)
    found h true is = eqb-true x.name name is
    found h false is = h

struct_member : (s : Option StructType) (name : ℕ) → IfSome (elim s [ Some s ↦ member_in s.members name | None ↦ None ]) (λ x. x.name ≡ name)
struct_member None name = tt
struct_member (Some s) name = member_has_name s.members name

has_member : (structs : List StructType) (type : CType) (name : ℕ) → IfSome (member_of structs type name) (λ x. x.name ≡ name)
has_member structs (Struct number) name = struct_member (slice_get structs number) name
has_member structs Void name = tt
has_member structs (Integer size signed) name = tt
has_member structs (Pointer target) name = tt
has_member structs (Array element count) name = tt

-- the type from which a member is selected, where it has this member
selected_right : (structs : List StructType) (operator : MemberOperator) (t : Expr) (name : ℕ) (x : Member) → member_of structs (selected_type operator t) name ≡ Some x →
    selected operator t (selected_type operator t)
selected_right structs m.Dot t name x h = refl
selected_right structs m.Arrow t name x h = pointed (is_pointer (operand t).type) refl h
  where
    pointed : (b : Bool) → is_pointer (operand t).type ≡ b → member_of structs (if b then target_of (operand t).type else Void) name ≡ Some x →
        (operand t).type ≡ Pointer (if b then target_of (operand t).type else Void)
    pointed true is h = pointer_target (operand t).type is
    pointed false is h = absurd cc

select_right : (scope : Scope) (operator : MemberOperator) (at : Span) (member : Name) (e : s.Expr) (t : Option Expr) → IsPlaceOf scope e t →
    IfOk (select_from scope.structs operator at member t) (IsJudged scope (s.Select e operator at member))
select_right scope operator at member e None h = tt
select_right scope operator at member e (Some t) h =
    row (member_of scope.structs (selected_type operator t) member.number) refl (has_member scope.structs (selected_type operator t) member.number)
  where
    row : (o : Option Member) → member_of scope.structs (selected_type operator t) member.number ≡ o → IfSome o (λ x. x.name ≡ member.number) →
        IfOk (found_member o t operator at member) (IsJudged scope (s.Select e operator at member))
    row None is named = tt
    row (Some x) is named = (
      (
        h.0,
        (
          selected_type operator t,
          selected_right scope.structs operator t member.number x is,
          is ∙ ap (λ name. Some (record { name = name; type = x.type; offset = x.offset })) named,
        ),
      ),
      ap (λ e. s.Select e operator at member) h.1,
    )

-- ---- every expression

pub judged_right : (scope : Scope) (e : s.Expr) → IfOk (judged scope e) (IsJudged scope e)
judged_right scope (s.Variable name) = name_right scope name (meaning_of scope name.number) refl
judged_right scope (s.Number number span) = number_right scope number span
judged_right scope (s.Parenthesis left e right) =
    then_holds (IsJudged scope e) (IsJudged scope (s.Parenthesis left e right)) (judged scope e) (λ x. Ok (in_parentheses left right x)) (judged_right scope e) (parentheses_right scope left right e)
judged_right scope (s.Binary l operator at r) = binary_right scope operator at l r (judged scope l) (judged scope r) (judged_right scope l) (judged_right scope r)
judged_right scope (s.Prefix operator at e) = prefix_right scope operator at e (judged scope e) (judged_right scope e)
judged_right scope (s.Cast left words right e) = cast_right scope left words right e (judged scope e) (judged_right scope e)
judged_right scope (s.Index base left index right) = index_right scope left right base index (judged scope base) (judged scope index) (judged_right scope base) (judged_right scope index)
judged_right scope (s.Select e operator at member) =
    then_holds (IsPlaceOf scope e) (IsJudged scope (s.Select e operator at member)) (judged scope e >>= place_in e) (select_from scope.structs operator at member)
    (place_of scope e (judged scope e) (judged_right scope e)) (select_right scope operator at member e)

pub typed_value_right : (scope : Scope) (e : s.Expr) → IfOk (typed_value scope e) (IsValueOf scope e)
typed_value_right scope e = value_of scope e (judged scope e) (judged_right scope e)

pub typed_condition_right : (scope : Scope) (e : s.Expr) → IfOk (typed_condition scope e) (IsConditionOf scope e)
typed_condition_right scope e = condition_of scope e (judged scope e) (judged_right scope e)

pub typed_place_right : (scope : Scope) (e : s.Expr) → IfOk (typed_place scope e) (IsPlaceOf scope e)
typed_place_right scope e = place_of scope e (judged scope e) (judged_right scope e)
