-- The parameters of a function's translation are held in no more bytes than those of the function.
use Rattle.std.proofs.Common.{◌≡◌, ℕ, zero, suc, ◌<◌, ◌≤◌, List, [], ◌∷◌, take, drop, Some, Bool, true, false, refl, sym, ap, ◌∙◌, arith}
use Rattle.std.specs.Prelude.{slice_get, sum_by, if◌then◌else◌}
use Rattle.std.proofs.lemmas.Bool.{false≢true}
use Rattle.std.proofs.lemmas.List.Sums.{sum_by-cons}
use Rattle.std.proofs.lemmas.Option.{none-some, same_Some}
use Rattle.cerco_base.specs.declared.events.Label.{Label}
use Rattle.cerco_middle.specs.Operators.{all_held_bytes}
use Rattle.c_types.specs.Types.{CType, size_of}
use Rattle.c_types.specs.Kinds.{is_scalar}
use Rattle.clight_syntax.specs.Bounds.{scalar_bytes, parameter_bytes}
use Rattle.clight_syntax.specs.TypedTrees.{Function, Variable', TypedProgram, own_count, own_variables}
use Rattle.clight_meaning.specs.Meaning.{type_in}
use Rattle.clight_programs.specs.Scopes.{scalar_types}
use Rattle.clight_programs.specs.Statements.{Paths}
use Rattle.clight_programs.specs.Programs.{FunctionFits}
use Rattle.flat_memory.specs.HeldTypes.{held_of}
use Rattle.cminor_gen.specs.Translation.Statements as s
use Rattle.cminor_gen.proofs.Needs.{scalar_few}
use Rattle.cminor_gen.proofs.Scalars.{get_taken, get_drop}

type_scalar : (ys : List Variable') (i : ℕ) (T : CType) → slice_get (scalar_types ys) i ≡ Some T → is_scalar T ≡ true
type_scalar [] i T is = absurd (none-some T is)
type_scalar (y ∷ ys) i T is = by (is_scalar y.type) refl i is (λ j. type_scalar ys j T)
  where
    by : (t : Bool) → is_scalar y.type ≡ t → (i : ℕ) → slice_get (if t then y.type ∷ scalar_types ys else scalar_types ys) i ≡ Some T → ((j : ℕ) → slice_get (scalar_types ys) j ≡ Some T → is_scalar T ≡ true) → is_scalar T ≡ true
    by true e zero is ih = ap is_scalar (sym (same_Some _ _ is)) ∙ e
    by true e (suc i) is ih = ih i is
    by false e i is ih = ih i is

take_no : {A : Type 0} (xs : List A) → take 0 xs ≡ []
take_no [] = refl
take_no (y ∷ ys) = refl

-- of variables of which the first ones are scalars
few_bytes : (p : TypedProgram Label) (ys : List Variable') (k : ℕ) → ((i : ℕ) → i < k → slice_get (scalar_types ys) i ≡ Some (type_in (slice_get ys i))) → all_held_bytes (take k (s.held_scalars ys)) ≤ sum_by (scalar_bytes p.structs) (take k ys)
few_bytes p ys zero at = let z = ap all_held_bytes (take_no (s.held_scalars ys)) in omega arith
few_bytes p [] (suc k) at = omega arith
few_bytes p (y ∷ ys) (suc k) at =
    by (is_scalar y.type) refl at (few_bytes p ys k)
  where
    by : (t : Bool) → is_scalar y.type ≡ t → ((i : ℕ) → i < suc k → slice_get (if t then y.type ∷ scalar_types ys else scalar_types ys) i ≡ Some (type_in (slice_get (y ∷ ys) i)))
        → (((i : ℕ) → i < k → slice_get (scalar_types ys) i ≡ Some (type_in (slice_get ys i))) → all_held_bytes (take k (s.held_scalars ys)) ≤ sum_by (scalar_bytes p.structs) (take k ys))
        → all_held_bytes (take (suc k) (if t then held_of y.type ∷ s.held_scalars ys else s.held_scalars ys)) ≤ sum_by (scalar_bytes p.structs) (take (suc k) (y ∷ ys))
    by true e at less =
        let few = scalar_few p p.structs y.type e in
        let ih = less (λ i lt. at (suc i) (omega arith)) in
        let more = sum_by-cons (scalar_bytes p.structs) y (take k ys) in
        let here : scalar_bytes p.structs y ≡ size_of p.structs y.type = ap (λ (t : Bool). if t then size_of p.structs y.type else 0) e in
        omega arith
    by false e at less =
        let is = type_scalar ys 0 y.type (at 0 (omega arith)) in
        absurd (false≢true (sym e ∙ is))

pub parameters_few : (p : TypedProgram Label) (paths : Paths) (h : ℕ) (f : Function Label) → FunctionFits p paths h f
    → all_held_bytes (take f.parameters (s.held_scalars (own_variables f p.variables))) ≤ parameter_bytes p (Some f)
parameters_few p paths h f fit =
    few_bytes p (own_variables f p.variables) f.parameters (λ i lt.
    fit.parameters i lt ∙ ap (λ o. Some (type_in o)) (sym (get_taken (drop f.first_variable p.variables) (own_count f) i (omega arith) ∙ get_drop p.variables f.first_variable i)))
