-- The variables of a call: how they are held, what assignments leave of them, and how they begin.
use Rattle.std.proofs.Common.{◌≡◌, ℕ, zero, suc, ◌+◌, ◌-◌, ◌<◌, ◌≤◌, List, [], ◌∷◌, ◌++◌, length, take, drop, Some, Bool, true, false, refl, sym, ap, ◌∙◌, subst, arith}
use Rattle.std.specs.Prelude.{slice_get, slice_set, unwrap_or, nat_eq, nat_lt, if◌then◌else◌}
use Rattle.std.proofs.lemmas.Option.{slice_get_within, none-some, same_Some}
use Rattle.std.proofs.lemmas.List.{length-append}
use Rattle.cerco_traces.specs.Worlds.{update}
use Rattle.cerco_traces.proofs.WorldLaws.{update_same, update_other}
use Rattle.cerco_middle.specs.declared.operators.Held.{Held}
use Rattle.cerco_middle.specs.Operators.{held_bytes, kept}
use Rattle.cerco_middle.specs.Calls.{Values, all_zero, handed_over, taken_over, first_variables, variable_held}
use Rattle.c_types.specs.declared.integers.Size.TheVariants.{One, Two, Four}
use Rattle.c_types.specs.Types.{CType, Void, Integer, Pointer, Array, Struct}
use Rattle.c_types.specs.Kinds.{is_scalar}
use Rattle.clight_syntax.specs.TypedTrees.{Variable'}
use Rattle.clight_values.specs.declared.value.Value.{Value}
use Rattle.clight_values.specs.declared.value.Value.TheVariants as v
use Rattle.clight_values.specs.Memory.{initial}
use Rattle.clight_meaning.specs.Meaning.{initials}
use Rattle.clight_programs.specs.Scopes.{IsShortScalar, scalar_types}
use Rattle.flat_memory.specs.HeldTypes.{held_of}
use Rattle.flat_memory.proofs.Lists.{same_number, not_same, below, not_below, get_set_same, get_set_other, get_front, get_back}
use Rattle.flat_memory.proofs.Shapes.{Shape, Reps}
use Rattle.cminor_gen.specs.Translation.Statements.{held_scalars}

-- ---- how they are held

abbrev pub all_held : List CType → List Held
all_held [] = []
all_held (T ∷ Ts) = held_of T ∷ all_held Ts

pub held_is : (xs : List Variable') → held_scalars xs ≡ all_held (scalar_types xs)
held_is [] = refl
held_is (x ∷ xs) = by (is_scalar x.type) (held_is xs)
  where
    by : (t : Bool) → held_scalars xs ≡ all_held (scalar_types xs) → (if t then held_of x.type ∷ held_scalars xs else held_scalars xs) ≡ all_held (if t then x.type ∷ scalar_types xs else scalar_types xs)
    by true rest = ap (λ l. held_of x.type ∷ l) rest
    by false rest = rest

pub held_at_type : (Ts : List CType) (k : ℕ) (T : CType) → slice_get Ts k ≡ Some T → variable_held (all_held Ts) k ≡ held_of T
held_at_type [] k T is = absurd (none-some T is)
held_at_type (U ∷ Us) zero T is = ap held_of (same_Some _ _ is)
held_at_type (U ∷ Us) (suc k) T is = held_at_type Us k T is

pub length_held : (Ts : List CType) → length (all_held Ts) ≡ length Ts
length_held [] = refl
length_held (T ∷ Ts) = let h = length_held Ts in omega arith

-- ---- assignments

abbrev pub scalar_value : List Value → ℕ → Value
scalar_value scalars k = unwrap_or (slice_get scalars k) (v.Integer 0)

abbrev pub Stand : Shape → ℕ → List CType → List Value → Values → Type 0
Stand S made Ts scalars vs = (k : ℕ) (T : CType) → slice_get Ts k ≡ Some T → Reps S made T (scalar_value scalars k) (vs k)

pub set_stand : (S : Shape) (made : ℕ) (Ts : List CType) (scalars : List Value) (vs : Values) (x : ℕ) (T : CType) (w : Value) (n : ℕ) → length scalars ≡ length Ts → slice_get Ts x ≡ Some T → Stand S made Ts scalars vs → Reps S made T w n
    → Stand S made Ts (slice_set scalars x w) (update vs x n)
set_stand S made Ts scalars vs x T w n many is h i k U kt = by (nat_eq k x) refl
  where
    by : (t : Bool) → nat_eq k x ≡ t → Reps S made U (scalar_value (slice_set scalars x w) k) (update vs x n k)
    by true e =
        let same = same_number k x e in
        let within = slice_get_within Ts x T is in
        let set = get_set_same scalars x w (omega arith) in
        let types = same_Some _ _ (sym is ∙ ap (slice_get Ts) (sym same) ∙ kt) in
        subst (λ z. Reps S made U (scalar_value (slice_set scalars x w) z) (update vs x n z)) (sym same)
        (subst (λ z. Reps S made U (unwrap_or z (v.Integer 0)) (update vs x n x)) (sym set)
        (subst (Reps S made U w) (sym (update_same vs x x n refl)) (subst (λ V. Reps S made V w n) types i)))
    by false e =
        let ne = not_same k x e in
        subst (λ z. Reps S made U (unwrap_or z (v.Integer 0)) (update vs x n k)) (sym (get_set_other scalars x k w ne))
        (subst (Reps S made U (scalar_value scalars k)) (sym (update_other vs x k n ne)) (h k U kt))

-- ---- the start of a call

abbrev bound : List Held → ℕ → List ℕ → Values → Values
bound [] x ns vs = vs
bound (h ∷ hs) x [] vs = vs
bound (h ∷ hs) x (n ∷ ns) vs = bound hs (suc x) ns (update vs x (kept h n))

some_bytes : (h : Held) → 1 ≤ held_bytes h
some_bytes h = grind arith

handed_before : (hs : List Held) (first : ℕ) (ns : List ℕ) (slots : Values) (b : ℕ) → b < first → handed_over hs first ns slots b ≡ slots b
handed_before [] first ns slots b lt = refl
handed_before (h ∷ hs) first [] slots b lt = refl
handed_before (h ∷ hs) first (n ∷ ns) slots b lt =
    let some = some_bytes h in
    handed_before hs (first + held_bytes h) ns (update slots first (kept h n)) b (omega arith) ∙ update_other slots first b (kept h n) (λ e. omega arith)

taken_is : (hs : List Held) (x first : ℕ) (ns : List ℕ) (slots vs : Values) → length ns ≡ length hs → taken_over hs x first (handed_over hs first ns slots) vs ≡ bound hs x ns vs
taken_is [] x first ns slots vs many = refl
taken_is (h ∷ hs) x first [] slots vs many = absurd (omega arith)
taken_is (h ∷ hs) x first (n ∷ ns) slots vs many =
    let some = some_bytes h in
    let slots' = update slots first (kept h n) in
    let here = handed_before hs (first + held_bytes h) ns slots' first (omega arith) ∙ update_same slots first first (kept h n) refl in
    ap (λ z. taken_over hs (suc x) (first + held_bytes h) (handed_over hs (first + held_bytes h) ns slots') (update vs x z)) here
    ∙ taken_is hs (suc x) (first + held_bytes h) ns slots' (update vs x (kept h n)) (omega arith)

-- arguments and their words, for parameters of these types
abbrev pub Arguments' : Shape → ℕ → List CType → List Value → List ℕ → Type 0
Arguments' S made [] [] [] = Unit {0}
Arguments' S made (T ∷ Ts) (w ∷ ws) (n ∷ ns) = Reps S made T w (kept (held_of T) n) × Arguments' S made Ts ws ns
Arguments' S made [] (w ∷ ws) ns = ⊥
Arguments' S made [] [] (n ∷ ns) = ⊥
Arguments' S made (T ∷ Ts) [] ns = ⊥
Arguments' S made (T ∷ Ts) (w ∷ ws) [] = ⊥

pub arguments_many : (S : Shape) (made : ℕ) (Ts : List CType) (ws : List Value) (ns : List ℕ) → Arguments' S made Ts ws ns → (length ws ≡ length Ts) × (length ns ≡ length Ts)
arguments_many S made [] [] [] h = (refl, refl)
arguments_many S made (T ∷ Ts) (w ∷ ws) (n ∷ ns) h = let q = arguments_many S made Ts ws ns h.1 in let q0 = q.0 in let q1 = q.1 in (omega arith, omega arith)
arguments_many S made [] (w ∷ ws) ns h = absurd h
arguments_many S made [] [] (n ∷ ns) h = absurd h
arguments_many S made (T ∷ Ts) [] ns h = absurd h
arguments_many S made (T ∷ Ts) (w ∷ ws) [] h = absurd h

pub arguments_map : (S S1 : Shape) (made made1 : ℕ) → ((T : CType) (w : Value) (n : ℕ) → Reps S made T w n → Reps S1 made1 T w n) → (Ts : List CType) (ws : List Value) (ns : List ℕ) → Arguments' S made Ts ws ns → Arguments' S1 made1 Ts ws ns
arguments_map S S1 made made1 f [] [] [] h = tt
arguments_map S S1 made made1 f (T ∷ Ts) (w ∷ ws) (n ∷ ns) h = (f T w _ h.0, arguments_map S S1 made made1 f Ts ws ns h.1)
arguments_map S S1 made made1 f [] (w ∷ ws) ns h = absurd h
arguments_map S S1 made made1 f [] [] (n ∷ ns) h = absurd h
arguments_map S S1 made made1 f (T ∷ Ts) [] ns h = absurd h
arguments_map S S1 made made1 f (T ∷ Ts) (w ∷ ws) [] h = absurd h

bound_before : (hs : List Held) (x : ℕ) (ns : List ℕ) (vs : Values) (k : ℕ) → k < x → bound hs x ns vs k ≡ vs k
bound_before [] x ns vs k lt = refl
bound_before (h ∷ hs) x [] vs k lt = refl
bound_before (h ∷ hs) x (n ∷ ns) vs k lt = bound_before hs (suc x) ns (update vs x (kept h n)) k (omega arith) ∙ update_other vs x k (kept h n) (λ e. omega arith)

-- the parameters are the arguments
bound_parameters : (S : Shape) (made : ℕ) (Ts : List CType) (ws : List Value) (ns : List ℕ) (x : ℕ) (vs : Values) → Arguments' S made Ts ws ns → (i : ℕ) (T : CType) → slice_get Ts i ≡ Some T → Reps S made T (scalar_value ws i) (bound (all_held Ts) x ns vs (x + i))
bound_parameters S made [] ws ns x vs h i T is = absurd (none-some T is)
bound_parameters S made (U ∷ Us) [] ns x vs h i T is = absurd h
bound_parameters S made (U ∷ Us) (w ∷ ws) [] x vs h i T is = absurd h
bound_parameters S made (U ∷ Us) (w ∷ ws) (n ∷ ns) x vs h zero T is =
    let z : x + 0 ≡ x = omega arith in
    let here = bound_before (all_held Us) (suc x) ns (update vs x (kept (held_of U) n)) x (omega arith) ∙ update_same vs x x (kept (held_of U) n) refl in
    subst (λ V. Reps S made V w (bound (all_held Us) (suc x) ns (update vs x (kept (held_of U) n)) (x + 0))) (same_Some _ _ is)
    (subst (Reps S made U w) (sym (ap (bound (all_held Us) (suc x) ns (update vs x (kept (held_of U) n))) z ∙ here)) h.0)
bound_parameters S made (U ∷ Us) (w ∷ ws) (n ∷ ns) x vs h (suc i) T is =
    let z : x + suc i ≡ suc x + i = omega arith in
    subst (λ k. Reps S made T (scalar_value ws i) (bound (all_held Us) (suc x) ns (update vs x (kept (held_of U) n)) k)) (sym z)
    (bound_parameters S made Us ws ns (suc x) (update vs x (kept (held_of U) n)) h.1 i T is)

bound_after : (hs : List Held) (x : ℕ) (ns : List ℕ) (vs : Values) (k : ℕ) → x + length hs ≤ k → bound hs x ns vs k ≡ vs k
bound_after [] x ns vs k le = refl
bound_after (h ∷ hs) x [] vs k le = refl
bound_after (h ∷ hs) x (n ∷ ns) vs k le = bound_after hs (suc x) ns (update vs x (kept h n)) k (omega arith) ∙ update_other vs x k (kept h n) (λ e. omega arith)

pub initial_reps : (S : Shape) (made : ℕ) (T : CType) → IsShortScalar T → Reps S made T (initial T) 0
initial_reps S made Void short = absurd short
initial_reps S made (Integer One true) short = (omega arith, refl)
initial_reps S made (Integer One false) short = (omega arith, refl)
initial_reps S made (Integer Two g) short = (omega arith, refl)
initial_reps S made (Integer Four g) short = absurd short
initial_reps S made (Pointer T) short = refl
initial_reps S made (Array T k) short = absurd short
initial_reps S made (Struct k) short = absurd short

abbrev pub initials_of : List CType → List Value
initials_of [] = []
initials_of (T ∷ Ts) = initial T ∷ initials_of Ts

pub initials_are : (xs : List Variable') → initials xs ≡ initials_of (scalar_types xs)
initials_are [] = refl
initials_are (x ∷ xs) = by (is_scalar x.type) (initials_are xs)
  where
    by : (t : Bool) → initials xs ≡ initials_of (scalar_types xs) → (if t then initial x.type ∷ initials xs else initials xs) ≡ initials_of (if t then x.type ∷ scalar_types xs else scalar_types xs)
    by true rest = ap (λ l. initial x.type ∷ l) rest
    by false rest = rest

initial_at : (Ts : List CType) (k : ℕ) (T : CType) → slice_get Ts k ≡ Some T → slice_get (initials_of Ts) k ≡ Some (initial T)
initial_at [] k T is = absurd (none-some T is)
initial_at (U ∷ Us) zero T is = ap (λ V. Some (initial V)) (same_Some _ _ is)
initial_at (U ∷ Us) (suc k) T is = initial_at Us k T is

length_initials : (Ts : List CType) → length (initials_of Ts) ≡ length Ts
length_initials [] = refl
length_initials (T ∷ Ts) = let h = length_initials Ts in omega arith

pub get_drop : {A : Type 0} (xs : List A) (n i : ℕ) → slice_get (drop n xs) i ≡ slice_get xs (n + i)
get_drop [] zero i = refl
get_drop [] (suc n) i = refl
get_drop (x ∷ xs) zero i = let z : 0 + i ≡ i = omega arith in ap (slice_get (x ∷ xs)) (sym z)
get_drop (x ∷ xs) (suc n) i = let z : suc n + i ≡ suc (n + i) = omega arith in get_drop xs n i ∙ ap (slice_get (x ∷ xs)) (sym z)

length_of_drop : {A : Type 0} (xs : List A) (n : ℕ) → length (drop n xs) ≡ length xs - n
length_of_drop [] zero = refl
length_of_drop [] (suc n) = omega arith
length_of_drop (x ∷ xs) zero = omega arith
length_of_drop (x ∷ xs) (suc n) = let h = length_of_drop xs n in omega arith

pub scalars_many : (Ts : List CType) (ws : List Value) → length ws ≤ length Ts → length (ws ++ drop (length ws) (initials_of Ts)) ≡ length Ts
scalars_many Ts ws le = let a = length-append ws (drop (length ws) (initials_of Ts)) in let b = length_of_drop (initials_of Ts) (length ws) in let c = length_initials Ts in omega arith

pub get_taken : {A : Type 0} (xs : List A) (n k : ℕ) → k < n → slice_get (take n xs) k ≡ slice_get xs k
get_taken [] zero k lt = refl
get_taken [] (suc n) k lt = refl
get_taken (x ∷ xs) zero k lt = absurd (omega arith)
get_taken (x ∷ xs) (suc n) zero lt = refl
get_taken (x ∷ xs) (suc n) (suc k) lt = get_taken xs n k (omega arith)

held_taken : (Ts : List CType) (n : ℕ) → take n (all_held Ts) ≡ all_held (take n Ts)
held_taken [] zero = refl
held_taken [] (suc n) = refl
held_taken (T ∷ Ts) zero = refl
held_taken (T ∷ Ts) (suc n) = ap (λ l. held_of T ∷ l) (held_taken Ts n)

pub length_taken : (Ts : List CType) (n : ℕ) → n ≤ length Ts → length (take n Ts) ≡ n
length_taken [] zero le = refl
length_taken [] (suc n) le = absurd (omega arith)
length_taken (T ∷ Ts) zero le = refl
length_taken (T ∷ Ts) (suc n) le = let h = length_taken Ts n (omega arith) in omega arith

-- the variables of a new call
pub new_variables : (S : Shape) (made : ℕ) (Ts : List CType) (params : ℕ) (ws : List Value) (ns : List ℕ) → ((k : ℕ) (T : CType) → slice_get Ts k ≡ Some T → IsShortScalar T) → params ≤ length Ts → Arguments' S made (take params Ts) ws ns
    → Stand S made Ts (ws ++ drop (length ws) (initials_of Ts)) (first_variables (all_held Ts) params (handed_over (take params (all_held Ts)) 0 ns all_zero))
new_variables S made Ts params ws ns shorts le h k T is =
    subst (λ f. Reps S made T (scalar_value (ws ++ drop (length ws) (initials_of Ts)) k) (f k)) (sym whole) (by (nat_lt k params) refl)
  where
    many : (length ws ≡ length (take params Ts)) × (length ns ≡ length (take params Ts))
    many = arguments_many S made (take params Ts) ws ns h

    whole : first_variables (all_held Ts) params (handed_over (take params (all_held Ts)) 0 ns all_zero) ≡ bound (all_held (take params Ts)) 0 ns all_zero
    whole =
        let e = held_taken Ts params in
        let m1 = many.1 in
        let m2 = length_held (take params Ts) in
        ap (λ hs. taken_over hs 0 0 (handed_over hs 0 ns all_zero) all_zero) e ∙ taken_is (all_held (take params Ts)) 0 0 ns all_zero all_zero (omega arith)

    by : (t : Bool) → nat_lt k params ≡ t → Reps S made T (scalar_value (ws ++ drop (length ws) (initials_of Ts)) k) (bound (all_held (take params Ts)) 0 ns all_zero k)
    by true e =
        let lt = below k params e in
        let m0 = many.0 in
        let mt = length_taken Ts params le in
        let z : 0 + k ≡ k = omega arith in
        subst (λ u. Reps S made T (unwrap_or u (v.Integer 0)) (bound (all_held (take params Ts)) 0 ns all_zero k)) (sym (get_front ws (drop (length ws) (initials_of Ts)) k (omega arith)))
        (subst (λ j. Reps S made T (scalar_value ws k) (bound (all_held (take params Ts)) 0 ns all_zero j)) z
        (bound_parameters S made (take params Ts) ws ns 0 all_zero h k T (get_taken Ts params k lt ∙ is)))
    by false e =
        let le' = not_below k params e in
        let m0 = many.0 in
        let mt = length_taken Ts params le in
        let mh = length_held (take params Ts) in
        let z : length ws + (k - length ws) ≡ k = omega arith in
        let at = ap (slice_get (ws ++ drop (length ws) (initials_of Ts))) (sym z) ∙ get_back ws (drop (length ws) (initials_of Ts)) (k - length ws) ∙ get_drop (initials_of Ts) (length ws) (k - length ws) ∙ ap (slice_get (initials_of Ts)) z ∙ initial_at Ts k T is in
        subst (λ u. Reps S made T (unwrap_or u (v.Integer 0)) (bound (all_held (take params Ts)) 0 ns all_zero k)) (sym at)
        (subst (Reps S made T (initial T)) (sym (bound_after (all_held (take params Ts)) 0 ns all_zero k (omega arith))) (initial_reps S made T (shorts k T is)))
