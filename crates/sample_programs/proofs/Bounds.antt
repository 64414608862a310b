-- What the generator's programs need of registers and of code.
use Rattle.std.proofs.Common.{◌≡◌, ℕ, zero, suc, ◌+◌, ◌*◌, ◌<◌, ◌≤◌, List, [], ◌∷◌, ◌++◌, length, map, take, drop, Some, max, refl, sym, ap, ap₂, subst, ◌∙◌, inl, inr, arith, append_assoc, append-nil, drop_at}
use Rattle.std.specs.Prelude.{slice_get}
use Rattle.std.specs.List.{sum_by}
use Rattle.std.proofs.lemmas.Bool.{cases_lt}
use Rattle.std.proofs.lemmas.List.{map_push}
use Rattle.std.proofs.lemmas.List.Elements.{All-push}
use Rattle.std.proofs.lemmas.List.Sums.{sum_by_push, sum_by-le}
use Rattle.clight_source.specs.declared.span.Span.{Span}
use Rattle.c_types.specs.Conversions.{unsigned_char, unsigned_int}
use Rattle.clight_syntax.specs.TypedTrees.{Item, FunctionItem, Variable', TypedProgram}
use Rattle.clight_syntax.specs.Bounds.{register_need, code_bound, function_bound, item_bound, parameter_bytes, scalar_bytes, stmts_bound, stmts_depth}
use Rattle.cerco_base.specs.CallOrder.{Called}
use Rattle.sample_texts.specs.declared.draws.Numbers.{Numbers}
use Rattle.sample_texts.specs.Texts.{each_below}
use Rattle.sample_programs.proofs.Families.{each, slice_get-each, map-each, same-each, all-each, sum-each}
use Rattle.sample_programs.proofs.Trees.{Five, Labels, Places, held, function, main_body, main_function, one_function, last_function, all_functions, all_variables, program, value_number}
use Rattle.sample_programs.proofs.Trees as tree
use Rattle.sample_programs.proofs.Typing.{variables_at, length-variables}

-- ---- the variables of each function

-- the list of all parts goes on behind the first ones with the next one
split : {A : Type 0} (f : ℕ → List A) (n k : ℕ) → k < n → (more : List A) × (each_below f n ≡ each_below f k ++ (f k ++ more))
split f zero k h = absurd (omega arith)
split f (suc n) k h =
    elim (cases_lt k n) [
      | inl lt ↦
          let before = split f n k lt in
          (before.0 ++ f n, ap (λ xs. xs ++ f n) before.1 ∙ (append_assoc (each_below f k) (f k ++ before.0) (f n) ∙ ap (λ xs. each_below f k ++ xs) (append_assoc (f k) before.0 (f n))))
      | inr le ↦
          let same : n ≡ k = omega arith in
          ([], subst (λ m. each_below f n ++ f n ≡ each_below f m ++ (f m ++ [])) same (ap (λ xs. each_below f n ++ xs) (sym (append-nil (f n)))))
    ]

third : {A : Type 0} (front : List A) (a b c : A) (more : List A) (m : ℕ) → length front ≡ m → (slice_get (front ++ (a ∷ b ∷ c ∷ more)) m ≡ Some a) × (slice_get (front ++ (a ∷ b ∷ c ∷ more)) (suc m) ≡ Some b) × (slice_get (front ++ (a ∷ b ∷ c ∷ more)) (suc (suc m)) ≡ Some c)
third [] a b c more zero e = (refl, refl, refl)
third [] a b c more (suc m) e = absurd (omega arith)
third (x ∷ front) a b c more zero e = absurd (omega arith)
third (x ∷ front) a b c more (suc m) e = third front a b c more m (omega arith)

-- three variables stand from a place on
record Three (variables : List Variable') (m : ℕ) (a b c : Variable') : Type 0 where
  pub first : slice_get variables m ≡ Some a
  pub second : slice_get variables (m + 1) ≡ Some b
  pub last : slice_get variables (suc (m + 1)) ≡ Some c
  pub all : take 3 (drop m variables) ≡ a ∷ b ∷ c ∷ []

three : (front : List Variable') (a b c : Variable') (more : List Variable') (m : ℕ) → length front ≡ m → Three (front ++ (a ∷ b ∷ c ∷ more)) m a b c
three front a b c more m e =
    let t = third front a b c more m e in
    let one : suc m ≡ m + 1 = omega arith in
    record {
      first = t.0;
      second = subst (λ k. slice_get (front ++ (a ∷ b ∷ c ∷ more)) k ≡ Some b) one t.1;
      last = subst (λ k. slice_get (front ++ (a ∷ b ∷ c ∷ more)) (suc k) ≡ Some c) one t.2;
      all = ap (take 3) (drop_at front (a ∷ b ∷ c ∷ more) m e);
    }

abbrev first_of : Places → ℕ → Variable'
first_of p f = held 1 (p.of_function f 6) unsigned_int 0

abbrev second_of : Places → ℕ → Variable'
second_of p f = held 2 (p.of_function f 11) unsigned_int 1

abbrev third_of : Places → ℕ → Variable'
third_of p f = held 3 (p.of_function f 15) unsigned_char 2

abbrev last_of : Places → ℕ → Variable'
last_of p n = held (value_number n) (p.of_main 8) unsigned_int 0

function_variables : (p : Places) (n f : ℕ) → f < n → Three (all_variables p n) (3 * f) (first_of p f) (second_of p f) (third_of p f)
function_variables p n f h =
    let s = split (λ g. tree.own_variables (p.of_function g)) n f h in
    let is : variables_at p f ++ (first_of p f ∷ second_of p f ∷ third_of p f ∷ (s.0 ++ last_of p n ∷ [])) ≡ all_variables p n =
    sym (ap (λ xs. xs ++ last_of p n ∷ []) s.1 ∙ append_assoc (variables_at p f) (tree.own_variables (p.of_function f) ++ s.0) (last_of p n ∷ []))
    in
    subst (λ xs. Three xs (3 * f) (first_of p f) (second_of p f) (third_of p f)) is
    (three (variables_at p f) (first_of p f) (second_of p f) (third_of p f) (s.0 ++ last_of p n ∷ []) (3 * f) (length-variables p f))

only : {A : Type 0} (front : List A) (x : A) (m : ℕ) → length front ≡ m → slice_get (front ++ x ∷ []) m ≡ Some x
only [] x zero e = refl
only [] x (suc m) e = absurd (omega arith)
only (y ∷ front) x zero e = absurd (omega arith)
only (y ∷ front) x (suc m) e = only front x m (omega arith)

main_variable : (p : Places) (n : ℕ) → slice_get (all_variables p n) (3 * n) ≡ Some (last_of p n)
main_variable p n = only (variables_at p n) (last_of p n) (3 * n) (length-variables p n)

main_variables : (p : Places) (n : ℕ) → take (0 + 1) (drop (3 * n) (all_variables p n)) ≡ last_of p n ∷ []
main_variables p n = ap (take 1) (drop_at (variables_at p n) (last_of p n ∷ []) (3 * n) (length-variables p n))

-- ---- registers

function_need : {L : Type 0} (q : TypedProgram L) (l : Five L) (at : ℕ → Span) (x : Numbers) (own v : ℕ) (i j k : Span) → take 3 (drop v q.variables) ≡ held 1 i unsigned_int 0 ∷ held 2 j unsigned_int 1 ∷ held 3 k unsigned_char 2 ∷ [] → register_need q (function l at x own v) ≡ 15
function_need q l at x own v i j k e = rw e refl

no_depth : {L : Type 0} (back : ℕ → L) (at : ℕ → Span) (call_at : ℕ → ℕ → Span) (start n v k : ℕ) → stmts_depth (main_body back at call_at start n v k) ≡ 0
no_depth back at call_at start n v zero = refl
no_depth back at call_at start n v (suc k) = ap (λ (d : ℕ). max (max d 0) 0) (no_depth back at call_at start n v k)

main_need : {L : Type 0} (q : TypedProgram L) (entry : L) (back : ℕ → L) (at : ℕ → Span) (call_at : ℕ → ℕ → Span) (right : Span) (start v n : ℕ) (number : ℕ) (place : Span) → take 1 (drop v q.variables) ≡ held number place unsigned_int 0 ∷ [] → register_need q (main_function entry back at call_at right start v n) ≡ 8
main_need q entry back at call_at right start v n number place e = rw (e, no_depth back at call_at start (value_number n) v n) refl

pub needs_are : {L : Type 0} (l : Labels L) (p : Places) (numbers : ℕ → Numbers) (start n : ℕ) (frames : List ℕ) (calls : List Called) → map (register_need (program l p numbers start n frames calls)) (all_functions l p numbers start n) ≡ each (λ f. 15) n ++ 8 ∷ []
needs_are l p numbers start n frames calls =
    let q = program l p numbers start n frames calls in
    map_push (register_need q) (each (one_function l p numbers) n) (last_function l p start n)
    ∙ ap₂ (λ (xs : List ℕ) (x : ℕ). xs ++ x ∷ []) (map-each (register_need q) (one_function l p numbers) n
    ∙ same-each (λ f. register_need q (one_function l p numbers f)) (λ f. 15) n (λ f h. function_need q (l.of_function f) (p.of_function f) (numbers f) (tree.own_name f) (3 * f) _ _ _ (function_variables p n f h).all))
    (main_need q l.entry l.back p.of_main p.of_call p.right start (3 * n) n (value_number n) (p.of_main 8) (main_variables p n))

-- ---- code

code_of_function : {L : Type 0} (q : TypedProgram L) (l : Five L) (at : ℕ → Span) (x : Numbers) (own v : ℕ) (i j k : Span) → Three q.variables v (held 1 i unsigned_int 0) (held 2 j unsigned_int 1) (held 3 k unsigned_char 2) → function_bound q (function l at x own v) ≡ 731
code_of_function q l at x own v i j k t = rw (t.all, t.first, t.second, t.last) refl

code_of_calls : {L : Type 0} (q : TypedProgram L) (back : ℕ → L) (at : ℕ → Span) (call_at : ℕ → ℕ → Span) (start number v m : ℕ) (place : Span) → slice_get q.variables v ≡ Some (held number place unsigned_int 0) → ((f : ℕ) → f < m → parameter_bytes q (slice_get q.functions f) ≡ 2) → (k : ℕ) → k ≤ m → stmts_bound q (main_body back at call_at start number v k) ≡ 41 + 100 * k
code_of_calls q back at call_at start number v m place e bytes zero h = rw e refl
code_of_calls q back at call_at start number v m place e bytes (suc k) h =
    let rest = code_of_calls q back at call_at start number v m place e bytes k (omega arith) in
    rw (e, bytes k (omega arith)) (let sum : (stmts_bound q (main_body back at call_at start number v k) + 76) + 24 ≡ 41 + 100 * suc k = omega arith in sum)

code_of_main : {L : Type 0} (q : TypedProgram L) (entry : L) (back : ℕ → L) (at : ℕ → Span) (call_at : ℕ → ℕ → Span) (right : Span) (start v n : ℕ) (place : Span) → slice_get q.variables v ≡ Some (held (value_number n) place unsigned_int 0) → take 1 (drop v q.variables) ≡ held (value_number n) place unsigned_int 0 ∷ [] → ((f : ℕ) → f < n → parameter_bytes q (slice_get q.functions f) ≡ 2) → function_bound q (main_function entry back at call_at right start v n) ≡ 84 + (41 + 100 * n)
code_of_main q entry back at call_at right start v n place e own bytes =
    rw (own, code_of_calls q back at call_at start (value_number n) v n place e bytes n (omega arith)) refl

still_there : {A : Type 0} (xs ys : List A) (f : ℕ) (x : A) → slice_get xs f ≡ Some x → slice_get (xs ++ ys) f ≡ Some x
still_there [] ys f x e = cc
still_there (y ∷ xs) ys zero x e = e
still_there (y ∷ xs) ys (suc f) x e = still_there xs ys f x e

slice_get-first : {A : Type 0} (g : ℕ → A) (n f : ℕ) (last : A) → f < n → slice_get (each g n ++ last ∷ []) f ≡ Some (g f)
slice_get-first g n f last lt = still_there (each g n) (last ∷ []) f (g f) (slice_get-each g n f lt)

parameters_of_function : {L : Type 0} (l : Labels L) (p : Places) (numbers : ℕ → Numbers) (start n : ℕ) (frames : List ℕ) (calls : List Called) (f : ℕ) → f < n → parameter_bytes (program l p numbers start n frames calls) (slice_get (all_functions l p numbers start n) f) ≡ 2
parameters_of_function l p numbers start n frames calls f h =
    let q = program l p numbers start n frames calls in
    ap (parameter_bytes q) (slice_get-first (one_function l p numbers) n f (last_function l p start n) h)
    ∙ ap (λ xs. sum_by (scalar_bytes []) (take 1 xs)) (function_variables p n f h).all

pub code_fits : {L : Type 0} (l : Labels L) (p : Places) (numbers : ℕ → Numbers) (start n : ℕ) (frames : List ℕ) (calls : List Called) → n ≤ 64 → code_bound (program l p numbers start n frames calls) ≤ 65536
code_fits l p numbers start n frames calls small =
    let q = program l p numbers start n frames calls in
    let items : sum_by (item_bound q) (each FunctionItem n ++ FunctionItem n ∷ []) ≤ length (each FunctionItem n ++ FunctionItem n ∷ []) * 0 =
    sum_by-le (item_bound q) 0 (each FunctionItem n ++ FunctionItem n ∷ [])
    (All-push (λ (x : Item). item_bound q x ≤ 0) (each FunctionItem n) (FunctionItem n) (all-each (λ (x : Item). item_bound q x ≤ 0) FunctionItem n (λ f h. omega arith)) (omega arith))
    in
    let functions : sum_by (function_bound q) (each (one_function l p numbers) n) ≤ n * 731 =
    sum-each (function_bound q) 731 (one_function l p numbers) n
    (λ f h. let e = code_of_function q (l.of_function f) (p.of_function f) (numbers f) (tree.own_name f) (3 * f) _ _ _ (function_variables p n f h) in omega arith)
    in
    let last = code_of_main q l.entry l.back p.of_main p.of_call p.right start (3 * n) n (p.of_main 8) (main_variable p n) (main_variables p n) (parameters_of_function l p numbers start n frames calls) in
    let sum = sum_by_push (function_bound q) (each (one_function l p numbers) n) (last_function l p start n) in
    omega arith
