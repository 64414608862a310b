-- Plain expressions over set variables have values.
use Rattle.std.proofs.Common.{◌≡◌, ℕ, List, Option, Some, None, Ok, Bool, true, false, refl, sym, ap, ap₂, ◌∙◌, subst, inl, inr}
use Rattle.std.specs.Prelude.{slice_get}
use Rattle.cerco_base.specs.declared.events.Label.{Label}
use Rattle.clight_source.specs.declared.tree.BinaryOperator.{BinaryOperator}
use Rattle.clight_source.specs.declared.tree.BinaryOperator.TheVariants as o
use Rattle.clight_source.specs.declared.tree.PrefixOperator.TheVariants.{Negate, Complement, Not as NotPrefix, Dereference, AddressOf}
use Rattle.c_types.specs.declared.integers.IntegerType.{IntegerType}
use Rattle.c_types.specs.declared.integers.Size.{Size}
use Rattle.c_types.specs.declared.integers.Size.TheVariants.{One, Two, Four}
use Rattle.c_types.specs.Types.{CType, Void, Integer, Pointer, Array, Struct, StructType}
use Rattle.c_types.specs.Kinds.{value_type, integer_type}
use Rattle.c_types.specs.Conversions.{int, promoted, common}
use Rattle.clight_syntax.specs.declared.typed.Home.{Home}
use Rattle.clight_syntax.specs.declared.typed.Home.TheVariants as h
use Rattle.clight_syntax.specs.TypedTrees.{Expr, Variable, Number, Parenthesis, Binary, Prefix, Cast, Index, Select, type_at, Variable', TypedProgram}
use Rattle.clight_values.specs.declared.value.Place.{Place}
use Rattle.clight_values.specs.declared.value.Value.{Value}
use Rattle.clight_values.specs.declared.value.Value.TheVariants as v
use Rattle.clight_values.specs.Values.{combined, truth}
use Rattle.clight_values.specs.Memory.{Answer, Memory, Frame, State}
use Rattle.clight_values.specs.Operators.{assigned_value, then_value, both, operated, negated, complemented}
use Rattle.clight_meaning.specs.Expressions.{Behind, home_position, position_in, position, pointer_to, value}
use Rattle.clight_programs.specs.Numbers.{as_number}
use Rattle.clight_programs.specs.Scopes.{IsShortInteger}
use Rattle.clight_programs.specs.Expressions.{IsConstant, HasAddress, IsInRam, LivesInRam, OperandsFit, IntegersFit, PointersFit, StepsFit, AreComparable, IsPointer}
use Rattle.clight_programs.specs.Programs.{IsInteger}
use Rattle.meaning_laws.specs.Faultless.{IsTotal, IsName, IsValueOf, HasValue, PlainHaveValues}

-- ---- integers

-- an answer that is an integer
abbrev IsNumber : Answer → Type 0
IsNumber a = (n : ℕ) × (a ≡ Ok (v.Integer n))

as_integer : (T : CType) (w : Value) → IsInteger T → IsValueOf (value_type T) w → (n : ℕ) × (w ≡ v.Integer n)
as_integer Void w is of = absurd is
as_integer (Integer size signed) (v.Integer n) is of = (n, refl)
as_integer (Integer size signed) v.Null is of = absurd of
as_integer (Integer size signed) (v.Pointer at) is of = absurd of
as_integer (Pointer T) w is of = absurd is
as_integer (Array T n) w is of = absurd is
as_integer (Struct n) w is of = absurd is

-- and what is an integer is a value of each integer type
of_integer : (T : CType) (n : ℕ) → IsInteger T → IsValueOf (value_type T) (v.Integer n)
of_integer Void n is = absurd is
of_integer (Integer size signed) n is = tt
of_integer (Pointer T) n is = absurd is
of_integer (Array T k) n is = absurd is
of_integer (Struct k) n is = absurd is

short_is_integer : (T : CType) → IsShortInteger T → IsInteger T
short_is_integer T s = subst IsInteger (sym s.is) tt

promoted_is_integer : (T : CType) → IsInteger T → IsInteger (promoted T)
promoted_is_integer Void is = absurd is
promoted_is_integer (Integer One signed) is = tt
promoted_is_integer (Integer Two signed) is = tt
promoted_is_integer (Integer Four signed) is = tt
promoted_is_integer (Pointer T) is = absurd is
promoted_is_integer (Array T k) is = absurd is
promoted_is_integer (Struct k) is = absurd is

common_is_integer : (S T : CType) → IsShortInteger S → IsShortInteger T → IsInteger (common S T)
common_is_integer S T s t = subst (λ U. IsInteger (common U T)) (sym s.is) (subst (λ U. IsInteger (common (Integer s.size s.signed) U)) (sym t.is) (of_sizes s.size t.size))
  where
    of_sizes : (a b : Size) → IsInteger (common (Integer a s.signed) (Integer b t.signed))
    of_sizes One One = tt
    of_sizes One Two = tt
    of_sizes One Four = tt
    of_sizes Two One = tt
    of_sizes Two Two = tt
    of_sizes Two Four = tt
    of_sizes Four One = tt
    of_sizes Four Two = tt
    of_sizes Four Four = tt

-- ---- operators

truth_is_number : (b : Bool) → IsNumber (Ok (truth b))
truth_is_number true = (1, refl)
truth_is_number false = (0, refl)

combined_is_number : (operator : BinaryOperator) (S T : IntegerType) (x y : ℕ) → IsTotal operator → IsNumber (combined operator S T x y)
combined_is_number o.Divide S T x y total = absurd total
combined_is_number o.Remainder S T x y total = absurd total
combined_is_number o.LogicalAnd S T x y total = absurd total
combined_is_number o.LogicalOr S T x y total = absurd total
combined_is_number o.BitOr S T x y total = (_, refl)
combined_is_number o.BitXor S T x y total = (_, refl)
combined_is_number o.BitAnd S T x y total = (_, refl)
combined_is_number o.Equal S T x y total = truth_is_number _
combined_is_number o.NotEqual S T x y total = truth_is_number _
combined_is_number o.Less S T x y total = truth_is_number _
combined_is_number o.Greater S T x y total = truth_is_number _
combined_is_number o.LessOrEqual S T x y total = truth_is_number _
combined_is_number o.GreaterOrEqual S T x y total = truth_is_number _
combined_is_number o.ShiftLeft S T x y total = (_, refl)
combined_is_number o.ShiftRight S T x y total = (_, refl)
combined_is_number o.Add S T x y total = (_, refl)
combined_is_number o.Subtract S T x y total = (_, refl)
combined_is_number o.Multiply S T x y total = (_, refl)

operated_is_number : (structs : List StructType) (m : Memory) (operator : BinaryOperator) (S T : CType) (x y : ℕ) → IsTotal operator → IsInteger S → IsInteger T → IsNumber (operated structs m operator S T (v.Integer x) (v.Integer y))
operated_is_number structs m operator (Integer s g) (Integer t h) x y total is is' = combined_is_number operator _ _ x y total
operated_is_number structs m operator (Integer s g) Void x y total is is' = absurd is'
operated_is_number structs m operator (Integer s g) (Pointer T) x y total is is' = absurd is'
operated_is_number structs m operator (Integer s g) (Array T k) x y total is is' = absurd is'
operated_is_number structs m operator (Integer s g) (Struct k) x y total is is' = absurd is'
operated_is_number structs m operator Void T x y total is is' = absurd is
operated_is_number structs m operator (Pointer S) T x y total is is' = absurd is
operated_is_number structs m operator (Array S k) T x y total is is' = absurd is
operated_is_number structs m operator (Struct k) T x y total is is' = absurd is

negated_is_number : (T : CType) (n : ℕ) → IsInteger T → IsNumber (negated (integer_type T) (v.Integer n))
negated_is_number Void n is = absurd is
negated_is_number (Integer size signed) n is = (_, refl)
negated_is_number (Pointer T) n is = absurd is
negated_is_number (Array T k) n is = absurd is
negated_is_number (Struct k) n is = absurd is

complemented_is_number : (T : CType) (n : ℕ) → IsInteger T → IsNumber (complemented (integer_type T) (v.Integer n))
complemented_is_number Void n is = absurd is
complemented_is_number (Integer size signed) n is = (_, refl)
complemented_is_number (Pointer T) n is = absurd is
complemented_is_number (Array T k) n is = absurd is
complemented_is_number (Struct k) n is = absurd is

assigned_is_number : (S T : CType) (n : ℕ) → IsShortInteger S → IsShortInteger T → IsNumber (assigned_value S T (v.Integer n))
assigned_is_number S T n s t =
    subst (λ U. IsNumber (assigned_value U T (v.Integer n))) (sym s.is) (subst (λ U. IsNumber (assigned_value (Integer s.size s.signed) U (v.Integer n))) (sym t.is) (_, refl))

-- ---- the type of an operator's value

no_pointer : (T : CType) → IsInteger T → IsPointer T → ⊥
no_pointer Void is (target, e) = absurd is
no_pointer (Integer size signed) is (target, e) = absurd cc
no_pointer (Pointer T) is q = absurd is
no_pointer (Array T k) is q = absurd is
no_pointer (Struct k) is q = absurd is

no_steps : (structs : List StructType) (T L R : CType) (number : Option ℕ) → IsInteger L → StepsFit structs T L R number → ⊥
no_steps structs T L R number is fit = no_pointer L is (fit.0, fit.2 ∙ fit.1)

not_comparable : (L R : CType) (l r : Option ℕ) → IsInteger L → IsInteger R → AreComparable L R l r → ⊥
not_comparable L R l r is is' (inl both) = no_pointer L is both.0
not_comparable L R l r is is' (inr (inl one)) = no_pointer L is one.0
not_comparable L R l r is is' (inr (inr one)) = no_pointer R is' one.2

no_pointers : (structs : List StructType) (T L R : CType) (operator : BinaryOperator) (l r : Option ℕ) → IsInteger L → IsInteger R → PointersFit structs T operator L R l r → ⊥
no_pointers structs T L R o.Add l r is is' (inl fit) = no_steps structs T R L l is' fit.1
no_pointers structs T L R o.Add l r is is' (inr fit) = no_steps structs T L R r is fit
no_pointers structs T L R o.Subtract l r is is' fit = no_steps structs T L R r is fit
no_pointers structs T L R o.Equal l r is is' fit = not_comparable L R l r is is' fit.1
no_pointers structs T L R o.NotEqual l r is is' fit = not_comparable L R l r is is' fit.1
no_pointers structs T L R o.Less l r is is' fit = no_pointer L is fit.1
no_pointers structs T L R o.Greater l r is is' fit = no_pointer L is fit.1
no_pointers structs T L R o.LessOrEqual l r is is' fit = no_pointer L is fit.1
no_pointers structs T L R o.GreaterOrEqual l r is is' fit = no_pointer L is fit.1
no_pointers structs T L R operator l r is is' fit = absurd fit

abbrev is_int : {T : CType} → T ≡ int → IsInteger T
is_int e = subst IsInteger (sym e) tt

result_is_integer : (T L R : CType) (operator : BinaryOperator) (r : Option ℕ) → IsShortInteger L → IsShortInteger R → IntegersFit T operator L R r → IsInteger T
result_is_integer T L R o.Add r s t e = subst IsInteger (sym e) (common_is_integer L R s t)
result_is_integer T L R o.Subtract r s t e = subst IsInteger (sym e) (common_is_integer L R s t)
result_is_integer T L R o.BitAnd r s t e = subst IsInteger (sym e) (common_is_integer L R s t)
result_is_integer T L R o.BitOr r s t e = subst IsInteger (sym e) (common_is_integer L R s t)
result_is_integer T L R o.BitXor r s t e = subst IsInteger (sym e) (common_is_integer L R s t)
result_is_integer T L R o.Multiply r s t e = is_int e.0
result_is_integer T L R o.Divide r s t e = is_int e.0
result_is_integer T L R o.Remainder r s t e = is_int e.0
result_is_integer T L R o.ShiftLeft r s t e = subst IsInteger (sym e.0) (promoted_is_integer L (short_is_integer L s))
result_is_integer T L R o.ShiftRight r s t e = subst IsInteger (sym e.0) (promoted_is_integer L (short_is_integer L s))
result_is_integer T L R o.LogicalAnd r s t e = absurd e
result_is_integer T L R o.LogicalOr r s t e = absurd e
result_is_integer T L R o.Equal r s t e = is_int e
result_is_integer T L R o.NotEqual r s t e = is_int e
result_is_integer T L R o.Less r s t e = is_int e
result_is_integer T L R o.Greater r s t e = is_int e
result_is_integer T L R o.LessOrEqual r s t e = is_int e
result_is_integer T L R o.GreaterOrEqual r s t e = is_int e

operands_give : (structs : List StructType) (T L R : CType) (operator : BinaryOperator) (l r : Option ℕ) → IsInteger L → IsInteger R → OperandsFit structs T operator L R l r → IsInteger T
operands_give structs T L R operator l r is is' (inl fit) = result_is_integer T L R operator r fit.0 fit.1 fit.2
operands_give structs T L R operator l r is is' (inr fit) = absurd (no_pointers structs T L R operator l r is is' fit)

constant_is_integer : (T : CType) (n : ℕ) → IsConstant T n → IsInteger T
constant_is_integer T n (inl c) = subst IsInteger (sym c.0) tt
constant_is_integer T n (inr c) = subst IsInteger (sym c.0) tt

-- ---- addresses

at_home : (home : Home) (frame : Frame) → LivesInRam home → (at : Place) × (home_position home frame ≡ Behind (v.Pointer at))
at_home (h.Global b) frame is = (_, refl)
at_home (h.Block b) frame is = (_, refl)
at_home (h.Scalar n) frame is = absurd is

in_ram : (x : Option Variable') (frame : Frame) → IsInRam x → (at : Place) × (position_in x frame ≡ Behind (v.Pointer at))
in_ram None frame is = absurd is
in_ram (Some x) frame is = at_home x.home frame is

place_of : (p : TypedProgram Label) (e : Expr) (st : State) → IsName e → HasAddress p e → (at : Place) × (position p e st ≡ Ok (Behind (v.Pointer at)))
place_of p (Variable T n name) st is has = let q = in_ram (slice_get p.variables n) st.frame has in (q.0, ap Ok q.1)
place_of p (Parenthesis T left e right) st is has = place_of p e st is has
place_of p (Number T number span) st is has = absurd is
place_of p (Binary T l operator at r) st is has = absurd is
place_of p (Prefix T operator at e) st is has = absurd is
place_of p (Cast T left words right e) st is has = absurd is
place_of p (Index T base left index right) st is has = absurd is
place_of p (Select T e operator at name offset) st is has = absurd is

-- ---- expressions

-- what has a value has an integer, where its type is one
number_of : (p : TypedProgram Label) (e : Expr) (st : State) → IsInteger (type_at e) → HasValue p e st → IsNumber (value p e st)
number_of p e st is has = let q = as_integer (type_at e) has.0 is has.2 in (q.0, has.1 ∙ ap Ok q.1)

-- an integer is a value of each integer type
has_number : (p : TypedProgram Label) (e : Expr) (st : State) → IsInteger (type_at e) → IsNumber (value p e st) → HasValue p e st
has_number p e st is q = (v.Integer q.0, q.1, of_integer (type_at e) q.0 is)

-- one step behind an integer
then_number : (a : Answer) (go : Value → Answer) → IsNumber a → ((n : ℕ) → IsNumber (go (v.Integer n))) → IsNumber (then_value a go)
then_number a go q each = let r = each q.0 in (r.0, ap (λ a. then_value a go) q.1 ∙ r.1)

both_numbers : (a b : Answer) (go : Value → Value → Answer) → IsNumber a → IsNumber b → ((x y : ℕ) → IsNumber (go (v.Integer x) (v.Integer y))) → IsNumber (both go a b)
both_numbers a b go q r each = let s = each q.0 r.0 in (s.0, ap₂ (λ a b. both go a b) q.1 r.1 ∙ s.1)

pub plain_have_values : PlainHaveValues
plain_have_values p f (Variable T n name) st typed plain set = set
plain_have_values p f (Number T number span) st typed plain set = (v.Integer number.value, refl, of_integer T number.value (constant_is_integer T number.value typed))
plain_have_values p f (Parenthesis T left e right) st typed plain set =
    let q = plain_have_values p f e st typed.1 plain set in
    (q.0, q.1, subst (λ T. IsValueOf (value_type T) q.0) (sym typed.0) q.2)
plain_have_values p f (Binary T l operator at r) st typed plain set =
    let left = number_of p l st plain.1 (plain_have_values p f l st typed.0 plain.3 set.0) in
    let right = number_of p r st plain.2 (plain_have_values p f r st typed.1 plain.4 set.1) in
    has_number p (Binary T l operator at r) st (operands_give p.structs T (type_at l) (type_at r) operator (as_number l) (as_number r) plain.1 plain.2 typed.2)
    (both_numbers (value p l st) (value p r st) (operated p.structs st.memory operator (type_at l) (type_at r)) left right
    (λ x y. operated_is_number p.structs st.memory operator (type_at l) (type_at r) x y plain.0 plain.1 plain.2))
plain_have_values p f (Prefix T Negate at e) st typed plain set =
    let is = short_is_integer (type_at e) typed.1 in
    let q = number_of p e st is (plain_have_values p f e st typed.0 plain set) in
    has_number p (Prefix T Negate at e) st (subst IsInteger (sym typed.2) (promoted_is_integer (type_at e) is))
    (then_number (value p e st) (negated (integer_type (type_at e))) q (λ n. negated_is_number (type_at e) n is))
plain_have_values p f (Prefix T Complement at e) st typed plain set =
    let is = short_is_integer (type_at e) typed.1 in
    let q = number_of p e st is (plain_have_values p f e st typed.0 plain set) in
    has_number p (Prefix T Complement at e) st (subst IsInteger (sym typed.2) (promoted_is_integer (type_at e) is))
    (then_number (value p e st) (complemented (integer_type (type_at e))) q (λ n. complemented_is_number (type_at e) n is))
plain_have_values p f (Prefix T AddressOf at e) st typed plain set =
    let q = place_of p e st plain typed.1 in
    (v.Pointer q.0, ap pointer_to q.1, subst (λ T. IsValueOf (value_type T) (v.Pointer q.0)) (sym typed.2) tt)
plain_have_values p f (Prefix T NotPrefix at e) st typed plain set = absurd plain
plain_have_values p f (Prefix T Dereference at e) st typed plain set = absurd plain
plain_have_values p f (Cast T left words right e) st typed plain set =
    let q = number_of p e st (short_is_integer (type_at e) typed.2) (plain_have_values p f e st typed.0 plain set) in
    has_number p (Cast T left words right e) st (short_is_integer T typed.1)
    (then_number (value p e st) (assigned_value (type_at e) T) q (λ n. assigned_is_number (type_at e) T n typed.2 typed.1))
plain_have_values p f (Index T base left index right) st typed plain set = absurd plain
plain_have_values p f (Select T e operator at name offset) st typed plain set = absurd plain
