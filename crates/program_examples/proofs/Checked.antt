-- The example is a checked program: each condition is computed.
use Rattle.std.proofs.Common.{◌≡◌, ℕ, zero, suc, ◌<◌, true, false, [], ◌∷◌, length, Some, None, ◌+◌, refl, sym, ap, ◌∙◌, subst, inl, inr, arith}
use Rattle.std.specs.Prelude.{slice_get, Contains}
use Rattle.std.proofs.lemmas.Option.{none-some, same_Some}
use Rattle.cerco_base.specs.CallOrder.{Called, functions_of}
use Rattle.cerco_base.specs.declared.events.Label.{Label}
use Rattle.c_types.specs.declared.integers.Size.TheVariants.{One, Two}
use Rattle.c_types.specs.Types.{CType, Pointer, Array}
use Rattle.c_types.specs.Conversions.{int}
use Rattle.clight_syntax.specs.TypedTrees.{Function, Variable', own_variables}
use Rattle.clight_meaning.specs.Meaning.{variable_type}
use Rattle.clight_meaning.proofs.TreeForms.{nowhere, name, char', unsigned, var, number, address, at, target, arguments}
use Rattle.clight_programs.specs.Scopes.{IsShortScalar, IsShortInteger, IsAtHome, IsVariable, function_scalars, HasShortScalars}
use Rattle.clight_programs.specs.Expressions.{IsConstant, IsTyped}
use Rattle.clight_programs.specs.Statements.{Paths, CallFits}
use Rattle.clight_programs.specs.Programs.{FunctionFits, IsChecked}
use Rattle.clight_programs.specs.Formed.{IsKnownCaller, FunctionIsFormed}
use Rattle.program_examples.proofs.Example.{pair, total, both, to, x, n, cells, r, own, add, twice, main, the_calls, example}

-- ---- frames one after the other along each path of calls

abbrev begins : ℕ → ℕ
begins zero = 11
begins (suc zero) = 9
begins (suc (suc h)) = 6

abbrev ends : ℕ → ℕ
ends zero = 12
ends (suc zero) = 11
ends (suc (suc h)) = 9

abbrev depths : ℕ → ℕ
depths zero = 3
depths (suc zero) = 2
depths (suc (suc h)) = 1

abbrev paths : Paths
paths = record { begin = begins; end = ends; depth = depths }

-- ---- variables

is_total : (f : Function Label) → IsVariable example f 0 unsigned
is_total f = record { variable = total; is = refl; typed = refl; home = refl }

is_both : (f : Function Label) → IsVariable example f 1 pair
is_both f = record { variable = both; is = refl; typed = refl; home = refl }

is_to : IsVariable example add 2 (Pointer pair)
is_to = record { variable = to; is = refl; typed = refl; home = refl }

is_x : IsVariable example add 3 char'
is_x = record { variable = x; is = refl; typed = refl; home = refl }

is_n : IsVariable example twice 4 unsigned
is_n = record { variable = n; is = refl; typed = refl; home = refl }

is_cells : IsVariable example twice 5 (Array char' 2)
is_cells = record { variable = cells; is = refl; typed = refl; home = refl }

is_r : IsVariable example main 6 unsigned
is_r = record { variable = r; is = refl; typed = refl; home = refl }

is_own : IsVariable example main 7 pair
is_own = record { variable = own; is = refl; typed = refl; home = refl }

-- ---- types of operands

is_char : IsShortInteger char'
is_char = record { size = One; signed = false; is = refl; short = λ e. absurd cc }

is_unsigned : IsShortInteger unsigned
is_unsigned = record { size = Two; signed = false; is = refl; short = λ e. absurd cc }

is_int : IsShortInteger int
is_int = record { size = Two; signed = true; is = refl; short = λ e. absurd cc }

one : IsConstant int 1
one = inr (refl, omega arith)

none : IsConstant int 0
none = inr (refl, omega arith)

element : IsTyped example twice (at char' (var (Array char' 2) 5) (number int 1))
element = (is_cells, one, refl, (is_int, inl (1, refl, one)))

-- ---- calls

call_of_add : CallFits example paths 1 twice (record { target = None; function = 0; name = name; left = nowhere; arguments = arguments [] (address pair (var pair 1) ∷ at char' (var (Array char' 2) 5) (number int 1) ∷ []); right = nowhere })
call_of_add = record {
  callee = add;
  is = refl;
  typed = ((is_both twice, tt, refl), (element, tt));
  many = refl;
  target = tt;
  after = omega arith;
  deeper = omega arith;
}

call_of_add_by_main : CallFits example paths 2 main (record { target = None; function = 0; name = name; left = nowhere; arguments = arguments [] (address pair (var pair 7) ∷ number int 1 ∷ []); right = nowhere })
call_of_add_by_main = record {
  callee = add;
  is = refl;
  typed = ((is_own, tt, refl), (one, tt));
  many = refl;
  target = tt;
  after = omega arith;
  deeper = omega arith;
}

call_of_twice : CallFits example paths 2 main (record { target = target 6; function = 1; name = name; left = nowhere; arguments = arguments [] (var unsigned 0 ∷ []); right = nowhere })
call_of_twice = record {
  callee = twice;
  is = refl;
  typed = (is_total main, tt);
  many = refl;
  target = record { type = unsigned; variable = is_r; scalar = tt; short = tt; result = tt };
  after = omega arith;
  deeper = omega arith;
}

-- ---- the functions

add_fits : FunctionFits example paths 0 add
add_fits = record {
  scalars = scalars;
  parameters = parameters;
  homes = homes;
  result = tt;
  frame = (omega arith, omega arith, omega arith);
  ends = omega arith;
  initialisers = tt;
  body = (tt, ((is_to, (pair, refl)), ((is_to, (pair, refl)), ((is_x, tt, refl), refl), inl (is_unsigned, is_char, refl)), tt));
  depth = (omega arith, omega arith);
}
  where
    scalars : (k : ℕ) (T : CType) → slice_get (function_scalars example add) k ≡ Some T → IsShortScalar T
    scalars zero T is = subst IsShortScalar (same_Some _ _ is) tt
    scalars (suc zero) T is = subst IsShortScalar (same_Some _ _ is) tt
    scalars (suc (suc k)) T is = absurd (none-some T is)

    parameters : (i : ℕ) → i < add.parameters → slice_get (function_scalars example add) i ≡ Some (variable_type example (add.first_variable + i))
    parameters zero lt = refl
    parameters (suc zero) lt = refl
    parameters (suc (suc i)) lt = absurd (omega arith)

    homes : (i : ℕ) (y : Variable') → slice_get (own_variables add example.variables) i ≡ Some y → IsAtHome example add y.home y.type y.address
    homes zero y is = subst (λ (y : Variable'). IsAtHome example add y.home y.type y.address) (same_Some to y is) refl
    homes (suc zero) y is = subst (λ (y : Variable'). IsAtHome example add y.home y.type y.address) (same_Some x y is) refl
    homes (suc (suc i)) y is = absurd (none-some y is)

twice_fits : FunctionFits example paths 1 twice
twice_fits = record {
  scalars = scalars;
  parameters = parameters;
  homes = homes;
  result = tt;
  frame = (omega arith, omega arith, omega arith);
  ends = omega arith;
  initialisers = (tt, tt);
  body = (((tt, (element, is_n, tt)), call_of_add), is_n);
  depth = (omega arith, omega arith);
}
  where
    scalars : (k : ℕ) (T : CType) → slice_get (function_scalars example twice) k ≡ Some T → IsShortScalar T
    scalars zero T is = subst IsShortScalar (same_Some _ _ is) tt
    scalars (suc k) T is = absurd (none-some T is)

    parameters : (i : ℕ) → i < twice.parameters → slice_get (function_scalars example twice) i ≡ Some (variable_type example (twice.first_variable + i))
    parameters zero lt = refl
    parameters (suc i) lt = absurd (omega arith)

    homes : (i : ℕ) (y : Variable') → slice_get (own_variables twice example.variables) i ≡ Some y → IsAtHome example twice y.home y.type y.address
    homes zero y is = subst (λ (y : Variable'). IsAtHome example twice y.home y.type y.address) (same_Some n y is) refl
    homes (suc zero) y is = subst (λ (y : Variable'). IsAtHome example twice y.home y.type y.address) (same_Some cells y is) refl
    homes (suc (suc i)) y is = absurd (none-some y is)

main_fits : FunctionFits example paths 2 main
main_fits = record {
  scalars = scalars;
  parameters = λ i lt. absurd (omega arith);
  homes = homes;
  result = tt;
  frame = (omega arith, omega arith, omega arith);
  ends = omega arith;
  initialisers = ((none, is_r, tt), (tt, tt));
  body = ((((tt, call_of_twice), (is_own, is_r, tt)), call_of_add_by_main), (is_own, ((tt, is_own), tt)));
  depth = (omega arith, omega arith);
}
  where
    scalars : (k : ℕ) (T : CType) → slice_get (function_scalars example main) k ≡ Some T → IsShortScalar T
    scalars zero T is = subst IsShortScalar (same_Some _ _ is) tt
    scalars (suc k) T is = absurd (none-some T is)

    homes : (i : ℕ) (y : Variable') → slice_get (own_variables main example.variables) i ≡ Some y → IsAtHome example main y.home y.type y.address
    homes zero y is = subst (λ (y : Variable'). IsAtHome example main y.home y.type y.address) (same_Some r y is) refl
    homes (suc zero) y is = subst (λ (y : Variable'). IsAtHome example main y.home y.type y.address) (same_Some own y is) refl
    homes (suc (suc i)) y is = absurd (none-some y is)

functions_fit : (h : ℕ) (f : Function Label) → slice_get example.functions h ≡ Some f → FunctionFits example paths h f
functions_fit zero f is = subst (FunctionFits example paths 0) (same_Some add f is) add_fits
functions_fit (suc zero) f is = subst (FunctionFits example paths 1) (same_Some twice f is) twice_fits
functions_fit (suc (suc zero)) f is = subst (FunctionFits example paths 2) (same_Some main f is) main_fits
functions_fit (suc (suc (suc h))) f is = absurd (none-some f is)

-- ---- the form

-- one caller is known by its place in an entry
known : (caller callee place : ℕ) (entry : Called) → slice_get the_calls place ≡ Some entry → Contains entry.callers caller → ((i : ℕ) (e : Called) → slice_get the_calls i ≡ Some e → e.function ≡ callee → i ≡ place)
    → IsKnownCaller the_calls caller callee
known caller callee place entry is has only i e is' called =
    let same = only i e is' called in
    subst (λ (e : Called). Contains e.callers caller) (same_Some entry e (sym is ∙ ap (slice_get the_calls) (sym same) ∙ is')) has

place_of : (callee place i : ℕ) (e : Called) → (callee + place ≡ 2) → slice_get the_calls i ≡ Some e → e.function ≡ callee → i ≡ place
place_of callee place zero e sum is called = let q = ap (λ (e : Called). e.function) (same_Some _ e is) in omega arith
place_of callee place (suc zero) e sum is called = let q = ap (λ (e : Called). e.function) (same_Some _ e is) in omega arith
place_of callee place (suc (suc zero)) e sum is called = let q = ap (λ (e : Called). e.function) (same_Some _ e is) in omega arith
place_of callee place (suc (suc (suc i))) e sum is called = absurd (none-some e is)

twice_calls_add : IsKnownCaller the_calls 1 0
twice_calls_add = known 1 0 2 _ refl (1, omega arith, refl) (λ i e. place_of 0 2 i e refl)

main_calls_add : IsKnownCaller the_calls 2 0
main_calls_add = known 2 0 2 _ refl (0, omega arith, refl) (λ i e. place_of 0 2 i e refl)

main_calls_twice : IsKnownCaller the_calls 2 1
main_calls_twice = known 2 1 1 _ refl (0, omega arith, refl) (λ i e. place_of 1 1 i e refl)

functions_formed : (h : ℕ) (f : Function Label) → slice_get example.functions h ≡ Some f → FunctionIsFormed example h f
functions_formed zero f is = subst (FunctionIsFormed example 0) (same_Some add f is) (record { few = omega arith; body = (tt, tt) })
functions_formed (suc zero) f is = subst (FunctionIsFormed example 1) (same_Some twice f is) (record { few = omega arith; body = (((tt, tt), twice_calls_add), tt) })
functions_formed (suc (suc zero)) f is =
    subst (FunctionIsFormed example 2) (same_Some main f is) (record { few = omega arith; body = ((((tt, main_calls_twice), tt), main_calls_add), ((tt, tt), refl)) })
functions_formed (suc (suc (suc h))) f is = absurd (none-some f is)

all_named : (f : ℕ) → f < length example.functions → Contains (functions_of the_calls) f
all_named zero lt = (2, omega arith, refl)
all_named (suc zero) lt = (1, omega arith, refl)
all_named (suc (suc zero)) lt = (0, omega arith, refl)
all_named (suc (suc (suc f))) lt = absurd (omega arith)

none_else : (f : ℕ) → Contains (functions_of the_calls) f → f < length example.functions
none_else f (zero, lt, is) = omega arith
none_else f (suc zero, lt, is) = omega arith
none_else f (suc (suc zero), lt, is) = omega arith
none_else f (suc (suc (suc k)), lt, is) = absurd (omega arith)

-- ---- the program

total_short : HasShortScalars example.structs unsigned
total_short zero U is = subst IsShortScalar (same_Some _ _ (same_Some _ _ is)) tt
total_short (suc zero) U is = absurd (none-some U (same_Some _ _ is))
total_short (suc (suc i)) U is = absurd (none-some (Some U) is)

both_short : HasShortScalars example.structs pair
both_short zero U is = subst IsShortScalar (same_Some _ _ (same_Some _ _ is)) tt
both_short (suc zero) U is = subst IsShortScalar (same_Some _ _ (same_Some _ _ is)) tt
both_short (suc (suc zero)) U is = absurd (none-some U (same_Some _ _ is))
both_short (suc (suc (suc i))) U is = absurd (none-some (Some U) is)

pub example_is_checked : IsChecked example
example_is_checked = record {
  paths = paths;
  functions = functions_fit;
  main = main;
  main_is = refl;
  main_plain = (refl, refl);
  globals = (omega arith, omega arith, (omega arith, omega arith, omega arith));
  few_bytes = omega arith;
  first_values = (total_short, tt, (both_short, tt, tt));
  formed = record { functions = functions_formed; ordered = all_named; no_others = none_else };
}
