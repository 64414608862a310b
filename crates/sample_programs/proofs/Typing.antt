-- The generator's programs are well typed.
use Rattle.std.proofs.Common.{◌≡◌, ℕ, zero, suc, ◌+◌, ◌*◌, ◌<◌, ◌≤◌, List, [], ◌∷◌, ◌++◌, length, Option, Some, None, refl, sym, ap, subst, ◌∙◌, inl, inr, arith, append_assoc}
use Rattle.std.specs.Prelude.{nat_eq, nat_le, nat_lt, IsTrue, true, false, not}
use Rattle.std.proofs.lemmas.Bool.{cases_lt, ne_eqb, eq-eqb, cond-true, cond-false, lt-ltb, le-leb, and_from}
use Rattle.clight_source.specs.declared.span.Span.{Span}
use Rattle.c_types.specs.Types.{Void}
use Rattle.c_types.specs.Conversions.{int, unsigned_int}
use Rattle.clight_syntax.specs.LiteralTypes.{literal_type}
use Rattle.clight_syntax.specs.TypedTrees.{Function, Item, FunctionItem, Variable'}
use Rattle.clight_types.specs.Scopes.{Signature, Meaning, Object, Code, Named, Meanings, declare, nothing, meaning_of}
use Rattle.clight_types.specs.Expressions.{arithmetic, compared}
use Rattle.clight_typing.specs.Statements.{Body, AreTyped, stmts_addressed, is_among, is_own}
use Rattle.clight_typing.specs.Functions.{File, IsFunction, function_number, agrees, body_of, Own, own_variable, object, code}
use Rattle.clight_typing.specs.Programs.{AreItems, over, a_function, after_function}
use Rattle.sample_texts.specs.declared.draws.Numbers.{Numbers}
use Rattle.sample_texts.specs.Texts.{each_below}
use Rattle.sample_programs.proofs.Decimals.{literal}
use Rattle.sample_programs.proofs.Families.{each, length-threes}
use Rattle.sample_programs.proofs.Trees.{name, own_name, main_number, value_number, Five, function, main_body, main_function, own_variables, Labels, Places, one_function, last_function, all_functions, all_variables, main_header}
use Rattle.sample_programs.proofs.Numbering.{own_apart, own_not_main, own_not_value, definitions_of, function_place}

-- the bounds of the numbers that are drawn
pub record AreWithin (x : Numbers) : Type 0 where
  pub turns : x.turns ≤ 20
  pub added : x.added ≤ 65535
  pub mixed : x.mixed ≤ 65535
  pub mixed_odd : x.mixed_odd ≤ 65535

plain_type : (n : ℕ) → n ≤ 20 → int ≡ literal_type (literal n false)
plain_type n h = sym (cond-true (nat_lt n 32768) int _ (lt-ltb n 32768 (omega arith)))

unsigned_type : (n : ℕ) → n ≤ 65535 → unsigned_int ≡ literal_type (literal n true)
unsigned_type n h = sym (cond-true (nat_lt n 65536) unsigned_int _ (lt-ltb n 65536 (omega arith)))

abbrev pub signature : Signature
signature = record { result = unsigned_int; parameters = unsigned_int ∷ [] }

-- ---- a function

abbrev file_with : List ℕ → Meanings → List Variable' → (globals functions : ℕ) → File
file_with definitions names variables globals functions =
    record { definitions = definitions; structs = []; names = names; variables = variables; globals = globals; functions = functions }

typed_function : {L : Type 0} (definitions : List ℕ) (names : Meanings) (variables : List Variable') (globals functions : ℕ) (l : Five L) (at : ℕ → Span) (x : Numbers) (own : ℕ) → names own ≡ None → AreWithin x → IsFunction (file_with definitions names variables globals functions) (function l at x own (length variables))
typed_function definitions names variables globals functions l at x own new within = record {
  header = refl;
  agrees = subst (λ (m : Option Meaning). IsTrue (agrees m signature)) (sym new) refl;
  result = refl;
  first_variable = refl;
  parameters = refl;
  locals = (refl, tt, (refl, tt, tt));
  body = (
    (
      ((tt, (refl, (refl, refl), refl)), (refl, ((refl, refl), refl), refl)),
      (
        ((refl, refl, (plain_type x.turns within.turns, refl), refl, compared refl refl refl), refl),
        (
          (
            (tt, (refl, (((refl, refl, (unsigned_type x.added within.added, refl), refl, arithmetic refl refl refl), refl, (unsigned_type x.mixed within.mixed, refl), refl, arithmetic refl refl refl), refl), refl)),
            (
              ((refl, refl, (refl, refl), refl, arithmetic refl refl refl), refl),
              (refl, ((refl, refl, (unsigned_type x.mixed_odd within.mixed_odd, refl), refl, arithmetic refl refl refl), refl), refl),
            ),
          ),
          (refl, ((refl, refl, (refl, refl), refl, arithmetic refl refl refl), refl), refl),
        ),
      ),
    ),
    ((refl, refl), refl),
  );
}

-- ---- `main`

no_address : {L : Type 0} (back : ℕ → L) (at : ℕ → Span) (call_at : ℕ → ℕ → Span) (start n v k : ℕ) → stmts_addressed (main_body back at call_at start n v k) ≡ []
no_address back at call_at start n v zero = refl
no_address back at call_at start n v (suc k) = ap (λ (xs : List ℕ). (xs ++ []) ++ []) (no_address back at call_at start n v k)

typed_main_body : {L : Type 0} (body : Body) (back : ℕ → L) (at : ℕ → Span) (call_at : ℕ → ℕ → Span) (start n v functions : ℕ) → start ≤ 65535 → meaning_of body.scope n ≡ Some (Object v unsigned_int) → is_own body v ≡ true → ((f : ℕ) → f < functions → meaning_of body.scope (own_name f) ≡ Some (Code f signature)) → (k : ℕ) → k ≤ functions → AreTyped body (main_body back at call_at start n v k)
typed_main_body body back at call_at start n v functions small here own calls zero h = (tt, (here, ((unsigned_type start small, refl), refl), refl))
typed_main_body body back at call_at start n v functions small here own calls (suc k) h =
    ((typed_main_body body back at call_at start n v functions small here own calls k (omega arith), (signature, calls k (omega arith), ((here, refl), tt), refl, (unsigned_int, here, and_from (is_own body v) true own refl))), ((here, refl), refl))

declared_here : (x : Named) (names : Meanings) (n : ℕ) → x.name ≡ n → declare x names n ≡ Some x.meaning
declared_here x names n e = cond-true (nat_eq x.name n) (Some x.meaning) (names n) (eq-eqb x.name n e)

declared_before : (x : Named) (names : Meanings) (n : ℕ) → (x.name ≡ n → ⊥) → declare x names n ≡ names n
declared_before x names n e = cond-false (nat_eq x.name n) (Some x.meaning) (names n) (ne_eqb x.name n e)

-- the names where `main` begins
abbrev main_names : File → (ℕ → Span) → ℕ → Meanings
main_names file at functions = declare (code file (main_header at (main_number functions))) file.names

abbrev main_variable : ℕ → (ℕ → Span) → ℕ → Named
main_variable v at functions = object (name (value_number functions) (at 8)) (v + 0) unsigned_int

abbrev main_inner : File → (ℕ → Span) → ℕ → Meanings
main_inner file at functions = declare (main_variable (length file.variables) at functions) (main_names file at functions)

main_here : (file : File) (at : ℕ → Span) (functions : ℕ) → main_inner file at functions (value_number functions) ≡ Some (Object (length file.variables) unsigned_int)
main_here file at functions =
    let first : length file.variables + 0 ≡ length file.variables = omega arith in
    declared_here (main_variable (length file.variables) at functions) (main_names file at functions) (value_number functions) refl ∙ ap (λ (k : ℕ). Some (Object k unsigned_int)) first

main_meanings : (file : File) (at : ℕ → Span) (functions : ℕ) → ((f : ℕ) → f < functions → file.names (own_name f) ≡ Some (Code f signature)) → (g : ℕ) → g < functions → main_inner file at functions (own_name g) ≡ Some (Code g signature)
main_meanings file at functions calls g h =
    declared_before (main_variable (length file.variables) at functions) (main_names file at functions) (own_name g) (λ e. own_not_value g functions h (sym e))
    ∙ (declared_before (code file (main_header at (main_number functions))) file.names (own_name g) (λ e. own_not_main g functions h (sym e)) ∙ calls g h)

main_own : {L : Type 0} (file : File) (entry : L) (back : ℕ → L) (at : ℕ → Span) (call_at : ℕ → ℕ → Span) (right : Span) (start v functions : ℕ) → is_own (body_of file (main_function entry back at call_at right start v functions)) (length file.variables) ≡ true
main_own file entry back at call_at right start v functions =
    and_from (nat_le (length file.variables) (length file.variables)) (not (is_among (stmts_addressed (main_body back at call_at start (value_number functions) v functions)) (length file.variables)))
    (le-leb (length file.variables) (length file.variables) (omega arith))
    (ap (λ (xs : List ℕ). not (is_among xs (length file.variables))) (no_address back at call_at start (value_number functions) v functions))

typed_main : {L : Type 0} (definitions : List ℕ) (names : Meanings) (variables : List Variable') (globals functions : ℕ) (entry : L) (back : ℕ → L) (at : ℕ → Span) (call_at : ℕ → ℕ → Span) (right : Span) (start : ℕ) → start ≤ 65535 → names (main_number functions) ≡ None → ((f : ℕ) → f < functions → names (own_name f) ≡ Some (Code f signature)) → IsFunction (file_with definitions names variables globals functions) (main_function entry back at call_at right start (length variables) functions)
typed_main definitions names variables globals functions entry back at call_at right start small new calls =
    let file : File = file_with definitions names variables globals functions in
    record {
      header = refl;
      agrees = subst (λ (m : Option Meaning). IsTrue (agrees m (record { result = Void; parameters = [] }))) (sym new) refl;
      result = refl;
      first_variable = refl;
      parameters = refl;
      locals = (refl, tt, tt);
      body = typed_main_body (body_of file (main_function entry back at call_at right start (length variables) functions)) back at call_at start (value_number functions) (length variables) functions small
          (main_here file at functions) (main_own file entry back at call_at right start (length variables) functions) (main_meanings file at functions calls) functions (omega arith);
    }

-- ---- the file before each function

abbrev pub named : List ℕ → ℕ → Named
named definitions f = record { name = own_name f; meaning = Code (function_number definitions (own_name f)) signature }

abbrev pub names_at : List ℕ → ℕ → Meanings
names_at definitions zero = nothing
names_at definitions (suc f) = declare (named definitions f) (names_at definitions f)

abbrev pub variables_at : Places → ℕ → List Variable'
variables_at p f = each_below (λ g. own_variables (p.of_function g)) f

abbrev pub file_at : List ℕ → Places → ℕ → File
file_at definitions p f = file_with definitions (names_at definitions f) (variables_at p f) 0 f

none_yet : (definitions : List ℕ) (f y : ℕ) → ((g : ℕ) → g < f → own_name g ≡ y → ⊥) → names_at definitions f y ≡ None
none_yet definitions zero y apart = refl
none_yet definitions (suc f) y apart =
    declared_before (named definitions f) (names_at definitions f) y (apart f (omega arith)) ∙ none_yet definitions f y (λ g h. apart g (omega arith))

some_there : (definitions : List ℕ) (f g : ℕ) → g < f → names_at definitions f (own_name g) ≡ Some (named definitions g).meaning
some_there definitions zero g h = absurd (omega arith)
some_there definitions (suc f) g h =
    elim (cases_lt g f) [
      | inl lt ↦ declared_before (named definitions f) (names_at definitions f) (own_name g) (λ e. own_apart g f lt (sym e)) ∙ some_there definitions f g lt
      | inr le ↦
          let same : f ≡ g = omega arith in
          declared_here (named definitions f) (names_at definitions f) (own_name g) (ap own_name same) ∙ ap (λ k. Some (named definitions k).meaning) same
    ]

pub length-variables : (p : Places) (f : ℕ) → length (variables_at p f) ≡ 3 * f
length-variables p f = length-threes (λ g. own_variables (p.of_function g)) (λ g. refl) f

function_right : {L : Type 0} (definitions : List ℕ) (l : Labels L) (p : Places) (numbers : ℕ → Numbers) (f : ℕ) → AreWithin (numbers f) → IsFunction (file_at definitions p f) (one_function l p numbers f)
function_right definitions l p numbers f within =
    subst (λ v. IsFunction (file_at definitions p f) (function (l.of_function f) (p.of_function f) (numbers f) (own_name f) v)) (length-variables p f)
    (typed_function definitions (names_at definitions f) (variables_at p f) 0 f (l.of_function f) (p.of_function f) (numbers f) (own_name f) (none_yet definitions f (own_name f) (λ g h. own_apart g f h)) within)

-- behind all functions
abbrev pub last_file : {L : Type 0} → Labels L → Places → (start functions : ℕ) → File
last_file l p start functions = after_function (file_at (definitions_of functions) p functions) (last_function l p start functions)

-- the variables behind all functions
pub last_variables : {L : Type 0} (l : Labels L) (p : Places) (start functions : ℕ) → all_variables p functions ≡ (last_file l p start functions).variables
last_variables l p start functions =
    let x : Own = record { name = name (value_number functions) (p.of_main 8); type = unsigned_int } in
    ap (λ (taken : List ℕ). variables_at p functions ++ own_variable (is_among taken) (length (variables_at p functions)) 0 0 x ∷ [])
    (sym (no_address l.back p.of_main p.of_call start (value_number functions) (3 * functions) functions))

main_right : {L : Type 0} (l : Labels L) (p : Places) (start functions : ℕ) → start ≤ 65535 → IsFunction (file_at (definitions_of functions) p functions) (last_function l p start functions)
main_right l p start functions small =
    let d : List ℕ = definitions_of functions in
    subst (λ v. IsFunction (file_at (definitions_of functions) p functions) (main_function l.entry l.back p.of_main p.of_call p.right start v functions)) (length-variables p functions)
    (typed_main (definitions_of functions) (names_at (definitions_of functions) functions) (variables_at p functions) 0 functions l.entry l.back p.of_main p.of_call p.right start small
    (none_yet (definitions_of functions) functions (main_number functions) (λ g h. own_not_main g functions h))
    (λ g h. some_there (definitions_of functions) functions g h ∙ ap (λ k. Some (Code k signature)) (function_place functions g h)))

before_items : {L : Type 0} (definitions : List ℕ) (l : Labels L) (p : Places) (numbers : ℕ → Numbers) (end : File) (f : ℕ) → ((g : ℕ) → g < f → AreWithin (numbers g)) → (items : List Item) (functions : List (Function L)) → AreItems (file_at definitions p f) items functions end → AreItems (file_at definitions p 0) (each FunctionItem f ++ items) (each (one_function l p numbers) f ++ functions) end
before_items definitions l p numbers end zero within items functions are = are
before_items definitions l p numbers end (suc f) within items functions are =
    let one = before_items definitions l p numbers end f (λ g h. within g (omega arith)) (FunctionItem f ∷ items) (one_function l p numbers f ∷ functions)
    (a_function (function_right definitions l p numbers f (within f (omega arith))) are)
    in
    let items_are : each FunctionItem f ++ (FunctionItem f ∷ items) ≡ each FunctionItem (suc f) ++ items = sym (append_assoc (each FunctionItem f) (FunctionItem f ∷ []) items) in
    let functions_are : each (one_function l p numbers) f ++ (one_function l p numbers f ∷ functions) ≡ each (one_function l p numbers) (suc f) ++ functions =
    sym (append_assoc (each (one_function l p numbers) f) (one_function l p numbers f ∷ []) functions)
    in
    subst (λ xs. AreItems (file_at definitions p 0) xs (each (one_function l p numbers) (suc f) ++ functions) end) items_are
    (subst (λ ys. AreItems (file_at definitions p 0) (each FunctionItem f ++ (FunctionItem f ∷ items)) ys end) functions_are one)

pub items_right : {L : Type 0} (l : Labels L) (p : Places) (numbers : ℕ → Numbers) (start functions : ℕ) → start ≤ 65535 → ((g : ℕ) → g < functions → AreWithin (numbers g)) → AreItems (file_at (definitions_of functions) p 0) (each FunctionItem functions ++ FunctionItem functions ∷ []) (all_functions l p numbers start functions) (last_file l p start functions)
items_right l p numbers start functions small within =
    before_items (definitions_of functions) l p numbers (last_file l p start functions) functions within (FunctionItem functions ∷ []) (last_function l p start functions ∷ [])
    (a_function (main_right l p start functions small) over)
