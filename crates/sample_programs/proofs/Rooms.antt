-- The generator's programs laid out: no variable needs an address, so each frame is empty.
use Rattle.std.proofs.Common.{◌≡◌, ℕ, zero, suc, ◌+◌, ◌*◌, ◌≤◌, List, [], ◌∷◌, ◌++◌, length, map, take, drop, replicate, refl, sym, ap, ap₂, subst, ◌∙◌, arith, append-nil, take-append-drop}
use Rattle.std.specs.Prelude.{Bool, false, filter, nat_lt, cond, All, slice_index}
use Rattle.std.proofs.lemmas.Bool.{lt-ltb, cond-true}
use Rattle.std.proofs.lemmas.List.{map_push, length_push, get_or_append_left, get_or_push, length-replicate, get_or-replicate}
use Rattle.std.proofs.lemmas.List.Elements.{All-nil, All-cons, All-append, All-head, All-tail, All-take, All-drop, filter-append}
use Rattle.cerco_base.specs.declared.events.Label.{Label}
use Rattle.call_graph.specs.CallPaths.{Calls, CallsIn, IsLargestSum, IsLargestSumBefore, IsOrderOf}
use Rattle.call_graph.proofs.Consequences.{largest_along_calls}
use Rattle.c_types.specs.Types.{StructType, size_of}
use Rattle.c_types.specs.Conversions.{unsigned_char, unsigned_int}
use Rattle.clight_syntax.specs.declared.typed.Home.TheVariants as h
use Rattle.clight_syntax.specs.TypedTrees.{Function, Variable', TypedProgram, own_variables, own_count}
use Rattle.clight_layout.specs.declared.sizes.Area.{Area}
use Rattle.clight_layout.specs.declared.sizes.Area.TheVariants.{Globals, Frame}
use Rattle.clight_layout.specs.Calls.{stmts_calls, body_calls, callees}
use Rattle.clight_layout.specs.Frames.{lies_in, bytes_of, placed, with_frame, with_frames, at_address, room_of, frame_bytes}
use Rattle.clight_layout.specs.Layout.{IsLayout, HasNoCycle, IsDepth, frame_sizes, global_bytes}
use Rattle.clight_source.specs.declared.span.Span.{Span}
use Rattle.clight_syntax.specs.Bounds.{register_need}
use Rattle.sample_texts.specs.declared.draws.Numbers.{Numbers}
use Rattle.sample_texts.specs.Texts.{each_below}
use Rattle.sample_programs.proofs.Families.{each, length-each, get-each, map-each, all-joined}
use Rattle.sample_programs.proofs.Trees.{Labels, Places, main_body, one_function, last_function, all_functions, all_variables, program, value_number}
use Rattle.sample_programs.proofs.Trees as tree
use Rattle.sample_programs.proofs.CallPaths.{callees_of, length-callees, calls_of, order_right, no_cycle, largest, nothing_before}
use Rattle.sample_programs.proofs.Bounds.{needs_are}

-- ---- calls

calls-of-body : {L : Type 0} (back : ℕ → L) (at : ℕ → Span) (call_at : ℕ → ℕ → Span) (start n v k : ℕ) → stmts_calls (main_body back at call_at start n v k) ≡ each (λ f. f) k
calls-of-body back at call_at start n v zero = refl
calls-of-body back at call_at start n v (suc k) = append-nil _ ∙ ap (λ xs. xs ++ k ∷ []) (calls-of-body back at call_at start n v k)

all-there : (m k : ℕ) → k ≤ m → filter (λ g. nat_lt g m) (each (λ f. f) k) ≡ each (λ f. f) k
all-there m zero h = refl
all-there m (suc k) h =
    filter-append (λ g. nat_lt g m) (each (λ f. f) k) (k ∷ [])
    ∙ ap₂ (λ (xs ys : List ℕ). xs ++ ys) (all-there m k (omega arith)) (cond-true (nat_lt k m) (k ∷ []) [] (lt-ltb k m (omega arith)))

count : {L : Type 0} (l : Labels L) (p : Places) (numbers : ℕ → Numbers) (start n : ℕ) → length (all_functions l p numbers start n) ≡ suc n
count l p numbers start n =
    let e = length-each (one_function l p numbers) n in
    let f = length_push (each (one_function l p numbers) n) (last_function l p start n) in omega arith

pub callees-are : {L : Type 0} (l : Labels L) (p : Places) (numbers : ℕ → Numbers) (start n : ℕ) → callees (all_functions l p numbers start n) ≡ callees_of n
callees-are l p numbers start n =
    let m = length (all_functions l p numbers start n) in
    let e = count l p numbers start n in
    map_push (body_calls (length (all_functions l p numbers start n))) (each (one_function l p numbers) n) (last_function l p start n)
    ∙ ap₂ (λ (xs : List (List ℕ)) (x : List ℕ). xs ++ x ∷ []) (map-each (body_calls (length (all_functions l p numbers start n))) (one_function l p numbers) n)
    (ap (filter (λ g. nat_lt g (length (all_functions l p numbers start n)))) (calls-of-body l.back p.of_main p.of_call start (value_number n) (3 * n) n) ∙ all-there (length (all_functions l p numbers start n)) n (omega arith))

-- ---- variables in no block

abbrev IsHeld : Variable' → Type 0
IsHeld x = (area : Area) → lies_in area x.home ≡ false

held : (place : ℕ) (area : Area) → lies_in area (h.Scalar place) ≡ false
held place Globals = refl
held place Frame = refl

own-held : (at : ℕ → Span) → All IsHeld (tree.own_variables at)
own-held at =
    let one : Variable' = tree.held 1 (at 6) unsigned_int 0 in
    let two : Variable' = tree.held 2 (at 11) unsigned_int 1 in
    let three : Variable' = tree.held 3 (at 15) unsigned_char 2 in
    All-cons IsHeld one (two ∷ three ∷ []) (held 0) (All-cons IsHeld two (three ∷ []) (held 1) (All-cons IsHeld three [] (held 2) (All-nil IsHeld)))

all-held : (p : Places) (n : ℕ) → All IsHeld (all_variables p n)
all-held p n =
    All-append IsHeld (each_below (λ f. tree.own_variables (p.of_function f)) n) (tree.held (value_number n) (p.of_main 8) unsigned_int 0 ∷ [])
    (all-joined IsHeld (λ f. tree.own_variables (p.of_function f)) n (λ f h. own-held (p.of_function f)))
    (All-cons IsHeld (tree.held (value_number n) (p.of_main 8) unsigned_int 0) [] (held 0) (All-nil IsHeld))

no-bytes : (area : Area) (structs : List StructType) (xs : List Variable') → All IsHeld xs → bytes_of area structs xs ≡ 0
no-bytes area structs [] a = refl
no-bytes area structs (x ∷ xs) a =
    let r = no-bytes area structs xs (All-tail IsHeld x xs a) in
    let e : room_of area structs x ≡ 0 = ap (λ (v : Bool). cond {A = ℕ} v (size_of structs x.type) 0) (All-head IsHeld x xs a area) in omega arith

stays : (area : Area) (structs : List StructType) (xs : List Variable') (at : ℕ) → All IsHeld xs → placed area structs at xs ≡ xs
stays area structs [] at a = refl
stays area structs (x ∷ xs) at a =
    ap₂ (λ (y : Variable') (ys : List Variable'). y ∷ ys) (ap (λ (v : Bool). cond {A = Variable'} v (at_address at x) x) (All-head IsHeld x xs a area)) (stays area structs xs (at + room_of area structs x) (All-tail IsHeld x xs a))

frame-stays : {L : Type 0} (structs : List StructType) (f : Function L) (at : ℕ) (xs : List Variable') → All IsHeld xs → with_frame structs f at xs ≡ xs
frame-stays structs f at xs a =
    ap (λ (ys : List Variable'). take f.first_variable xs ++ (ys ++ drop (own_count f) (drop f.first_variable xs))) (stays Frame structs (own_variables f xs) at (All-take IsHeld (own_count f) (drop f.first_variable xs) (All-drop IsHeld f.first_variable xs a)))
    ∙ (ap (λ (ys : List Variable'). take f.first_variable xs ++ ys) (take-append-drop (own_count f) (drop f.first_variable xs)) ∙ take-append-drop f.first_variable xs)

frames-stay : {L : Type 0} (structs : List StructType) (fs : List (Function L)) (starts : List ℕ) (xs : List Variable') → All IsHeld xs → with_frames structs fs starts xs ≡ xs
frames-stay structs [] starts xs a = refl
frames-stay structs (f ∷ fs) [] xs a = refl
frames-stay structs (f ∷ fs) (at ∷ starts) xs a = ap (with_frames structs fs starts) (frame-stays structs f at xs a) ∙ frames-stay structs fs starts xs a

-- ---- the layout

abbrev pub starts_of : ℕ → List ℕ
starts_of n = replicate (suc n) 1

sizes-none : {L : Type 0} (q : TypedProgram L) → All IsHeld q.variables → (fs : List (Function L)) (f : ℕ) → slice_index (map (frame_bytes q.structs q.variables) fs) f ≡ 0
sizes-none q a [] f = refl
sizes-none q a (x ∷ fs) zero = no-bytes Frame q.structs (own_variables x q.variables) (All-take IsHeld (own_count x) (drop x.first_variable q.variables) (All-drop IsHeld x.first_variable q.variables a))
sizes-none q a (x ∷ fs) (suc f) = sizes-none q a fs f

pub laid-out : (l : Labels (Unit {0})) (p : Places) (numbers : ℕ → Numbers) (start n : ℕ) → 1 ≤ n → n ≤ 64 → IsLayout (program l p numbers start n [] []) (program l p numbers start n (starts_of n) (calls_of n))
laid-out l p numbers start n some small =
    let q = program l p numbers start n [] [] in
    let c : callees (all_functions l p numbers start n) ≡ callees_of n = callees-are l p numbers start n in
    let held' : All IsHeld (all_variables p n) = all-held p n in
    let globals : global_bytes q ≡ 0 = no-bytes Globals [] (all_variables p n) held' in
    let none : (f : ℕ) → slice_index (frame_sizes q) f ≡ 0 = sizes-none q held' (all_functions l p numbers start n) in
    let e = count l p numbers start n in
    record {
      order = subst (λ cs. IsOrderOf cs (calls_of n)) (sym c) (order_right n);
      no_cycle = subst HasNoCycle (sym c) (no_cycle n);
      depth = (2, subst (λ cs. IsDepth cs 2) (sym c) (depth n some), (let two : 2 ≤ 64 = omega arith in two));
      count = let r = length-replicate {A = ℕ} (suc n) 1 in omega arith;
      starts = λ f h. record {
        before = 0;
        is_largest = subst (λ cs. IsLargestSumBefore (length cs) (Calls cs) (frame_sizes q) f 0) (sym c) (nothing_before n f (frame_sizes q) (omega arith) none);
        is = (let one : slice_index (program l p numbers start n (starts_of n) (calls_of n)).frames f ≡ 1 = get_or-replicate {A = ℕ} (suc n) f 1 0 (omega arith) in omega arith);
      };
      total = record {
        largest = 0;
        is_largest = subst (λ cs. IsLargestSum (length cs) (Calls cs) (frame_sizes q) 0) (sym c) (largest n (frame_sizes q) 0 0 some (λ f h. none f) (none n));
        is = omega arith;
      };
      fits = omega arith;
      program = ap (λ (vs : List Variable'). record (program l p numbers start n (starts_of n) (calls_of n)) { variables = vs }) (sym (frames-stay [] (all_functions l p numbers start n) (starts_of n) (placed Globals [] 1 (all_variables p n)) (subst (All IsHeld) (sym (stays Globals [] (all_variables p n) 1 held')) held') ∙ stays Globals [] (all_variables p n) 1 held'));
    }
  where
    depth : (n : ℕ) → 1 ≤ n → IsDepth (callees_of n) 2
    depth n some =
        let l = length-callees n in
        largest n (replicate (length (callees_of n)) 1) 1 1 some (λ f h. get_or-replicate (length (callees_of n)) f 1 0 (omega arith)) (get_or-replicate (length (callees_of n)) n 1 0 (omega arith))

-- ---- the largest need

pub need-fits : (l : Labels Label) (p : Places) (numbers : ℕ → Numbers) (start n : ℕ) → 1 ≤ n → IsLargestSum (length (all_functions l p numbers start n)) (CallsIn (calls_of n)) (map (register_need (program l p numbers start n (starts_of n) (calls_of n))) (all_functions l p numbers start n)) 23
need-fits l p numbers start n some =
    let e = count l p numbers start n in
    let c = length-callees n in
    let same : length (callees_of n) ≡ length (all_functions l p numbers start n) = omega arith in
    let sizes : List ℕ = each (λ f. 15) n ++ 8 ∷ [] in
    let sum = largest n (each (λ f. 15) n ++ 8 ∷ []) 15 8 some
    (λ f h. let s = length-each {A = ℕ} (λ g. 15) n in get_or_append_left (each (λ g. 15) n) (8 ∷ []) 0 f (omega arith) ∙ get-each {A = ℕ} (λ g. 15) n f 0 h)
    (get_or_push (each (λ g. 15) n) 8 0 n (length-each {A = ℕ} (λ g. 15) n))
    in
    subst (λ xs. IsLargestSum (length (all_functions l p numbers start n)) (CallsIn (calls_of n)) xs 23) (sym (needs_are l p numbers start n (starts_of n) (calls_of n)))
    (subst (λ (m : ℕ). IsLargestSum m (CallsIn (calls_of n)) (each (λ f. 15) n ++ 8 ∷ []) 23) same
    (largest_along_calls (length (callees_of n)) (Calls (callees_of n)) (CallsIn (calls_of n)) (λ f g. let o = (order_right n).calls f g in (o.1, o.0)) (each (λ f. 15) n ++ 8 ∷ []) 23 sum))
