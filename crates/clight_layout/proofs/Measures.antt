-- Sums along the paths of an order are those along the calls of the program.
use Rattle.std.proofs.Common.{◌≡◌, ℕ, zero, suc, ◌+◌, ◌-◌, ◌<◌, List, [], ◌∷◌, ◌++◌, length, map, take, get_or, filter, nat_lt, replicate, refl, sym, ap, subst, ◌∙◌, append_assoc, arith}
use Rattle.std.specs.Prelude.{Contains, ◌↔◌, slice_index_or, slice_set}
use Rattle.std.proofs.lemmas.List.{take_more, map-append, length-map, length-replicate, length-take-le}
use Rattle.std.proofs.Math.Seq.{get_or-append_seam, set-append_seam}
use Rattle.cerco_base.specs.CallOrder.{Called, functions_of}
use Rattle.call_graph.specs.CallPaths.{Calls, CallsIn, IsLargestSum, IsLargestSumBefore, IsOrderOf, list_added}
use Rattle.call_graph.proofs.Consequences.{largest_along_calls, before_along_calls}
use Rattle.clight_syntax.specs.declared.typed.Function.{Function as Held}
use Rattle.clight_syntax.specs.TypedTrees.{TypedProgram}
use Rattle.clight_syntax.specs.Code.TypedViews.{function_of}
use Rattle.clight_layout.specs.Calls.{stmts_calls, body_calls, callees}
use Rattle.clight_layout.specs.Layout.{IsDepth, IsTotal, IsStart, frame_sizes, global_bytes}

-- ---- the graph

pub seam_added : (g new before : List (List ℕ)) (own : List ℕ) (after : List (List ℕ)) (i callee : ℕ) → length before ≡ i → g ≡ before ++ own ∷ after → new ≡ list_added g i callee → new ≡ before ++ (own ++ callee ∷ []) ∷ after
seam_added g new before own after i callee e is step =
    step
    ∙ ap (λ l. slice_set l i (slice_index_or l i [] ++ callee ∷ [])) is
    ∙ ap (λ j. slice_set (before ++ own ∷ after) j (slice_index_or (before ++ own ∷ after) j [] ++ callee ∷ [])) (sym e)
    ∙ ap (λ x. slice_set (before ++ own ∷ after) (length before) (x ++ callee ∷ [])) (get_or-append_seam before own after [])
    ∙ set-append_seam before own after (own ++ callee ∷ [])

bodies : ℕ → List (Held (Unit {0})) → List (List ℕ)
bodies n fs = map (body_calls n) (map function_of fs)

pub graph_on : (fs : List (Held (Unit {0}))) (i : ℕ) (x : Held (Unit {0})) (old new : List (List ℕ)) (calls : List ℕ) → i < length fs → x ≡ get_or fs i x → length old ≡ length fs → old ≡ map (body_calls (length fs)) (map function_of (take i fs)) ++ replicate (length fs - i) []
    → calls ≡ stmts_calls (function_of x).body
    → ((before : List (List ℕ)) (own : List ℕ) (after : List (List ℕ)) → length before ≡ i → old ≡ before ++ own ∷ after → new ≡ before ++ (own ++ filter (λ g. nat_lt g (length old)) calls) ∷ after)
    → new ≡ map (body_calls (length fs)) (map function_of (take (i + 1) fs)) ++ replicate (length fs - (i + 1)) []
graph_on fs i x old new calls within is count here own add =
    let n : ℕ = length fs in
    let left : length fs - i ≡ suc (length fs - (i + 1)) = omega arith in
    let at : length (map (body_calls (length fs)) (map function_of (take i fs))) ≡ i =
    length-map (map function_of (take i fs)) (body_calls (length fs)) ∙ length-map (take i fs) function_of ∙ length-take-le i fs (omega arith)
    in
    add (map (body_calls (length fs)) (map function_of (take i fs))) [] (replicate (length fs - (i + 1)) []) at
    (here ∙ ap (λ k. map (body_calls (length fs)) (map function_of (take i fs)) ++ replicate k []) left)
    ∙ ap (λ m. map (body_calls (length fs)) (map function_of (take i fs)) ++ filter (λ g. nat_lt g m) calls ∷ replicate (length fs - (i + 1)) []) count
    ∙ ap (λ l. map (body_calls (length fs)) (map function_of (take i fs)) ++ filter (λ g. nat_lt g (length fs)) l ∷ replicate (length fs - (i + 1)) []) own
    ∙ sym (append_assoc (map (body_calls (length fs)) (map function_of (take i fs))) (body_calls (length fs) (function_of x) ∷ []) (replicate (length fs - (i + 1)) []))
    ∙ ap (λ l. l ++ replicate (length fs - (i + 1)) []) (sym (map-append (body_calls (length fs)) (map function_of (take i fs)) (function_of x ∷ [])))
    ∙ ap (λ l. map (body_calls (length fs)) l ++ replicate (length fs - (i + 1)) []) (sym (map-append function_of (take i fs) (x ∷ [])))
    ∙ ap (λ y. map (body_calls (length fs)) (map function_of (take i fs ++ y ∷ [])) ++ replicate (length fs - (i + 1)) []) is
    ∙ ap (λ l. map (body_calls (length fs)) (map function_of l) ++ replicate (length fs - (i + 1)) []) (sym (take_more fs i x within))

-- ---- sums

pub length-callees : (fs : List (Held (Unit {0}))) → length (callees (map function_of fs)) ≡ length fs
length-callees fs = length-map (map function_of fs) (body_calls (length (map function_of fs))) ∙ length-map fs function_of

pub functions_sized : (lists : List (List ℕ)) (order : List Called) (sizes : List ℕ) → IsOrderOf lists order → length lists ≡ length sizes → (f : ℕ) → Contains (functions_of order) f ↔ (f < length sizes)
functions_sized lists order sizes is e f = subst (λ (n : ℕ). Contains (functions_of order) f ↔ (f < n)) e (is.functions f)

pub depth_is : (lists : List (List ℕ)) (order : List Called) (sizes : List ℕ) (n : ℕ) → IsOrderOf lists order → sizes ≡ replicate (length lists) 1 → IsLargestSum (length sizes) (CallsIn order) sizes n → IsDepth lists n
depth_is lists order sizes n is ones sum =
    let P : List ℕ → Type 0 = λ s. IsLargestSum (length s) (CallsIn order) s n in
    let here : P (replicate (length lists) 1) = subst P ones sum in
    let Q : ℕ → Type 0 = λ m. IsLargestSum m (CallsIn order) (replicate (length lists) 1) n in
    largest_along_calls (length lists) (CallsIn order) (Calls lists) is.calls (replicate (length lists) 1) n (subst Q (length-replicate (length lists) 1) here)

module _ (p : TypedProgram (Unit {0})) (order : List Called) (is : IsOrderOf (callees p.functions) order) (sizes : List ℕ) (sized : sizes ≡ frame_sizes p) where
  pub length-sizes : length sizes ≡ length (callees p.functions)
  length-sizes = ap length sized ∙ length-map p.functions _ ∙ sym (length-map p.functions _)

  pub total_is : (globals largest total : ℕ) → globals ≡ global_bytes p → total ≡ globals + largest → IsLargestSum (length sizes) (CallsIn order) sizes largest → IsTotal p total
  total_is globals largest total e f sum =
      let Q : ℕ → Type 0 = λ m. IsLargestSum m (CallsIn order) sizes largest in
      let P : List ℕ → Type 0 = λ s. IsLargestSum (length (callees p.functions)) (Calls (callees p.functions)) s largest in
      record {
        largest = largest;
        is_largest = subst P sized (largest_along_calls (length (callees p.functions)) (CallsIn order) (Calls (callees p.functions)) is.calls sizes largest (subst Q length-sizes sum));
        is = f ∙ ap (λ n. n + largest) e;
      }

  pub start_is : (globals f before at : ℕ) → globals ≡ global_bytes p → at ≡ 1 + globals + before → IsLargestSumBefore (length sizes) (CallsIn order) sizes f before → IsStart p f at
  start_is globals f before at e g sum =
      let Q : ℕ → Type 0 = λ m. IsLargestSumBefore m (CallsIn order) sizes f before in
      let P : List ℕ → Type 0 = λ s. IsLargestSumBefore (length (callees p.functions)) (Calls (callees p.functions)) s f before in
      record {
        before = before;
        is_largest = subst P sized (before_along_calls (length (callees p.functions)) (CallsIn order) (Calls (callees p.functions)) is.calls sizes f before (subst Q length-sizes sum));
        is = g ∙ ap (λ n. 1 + n + before) e;
      }

pub start_at : (g : ℕ) (xs : List ℕ) (f : ℕ) → f < length xs → get_or (map (λ n. 1 + g + n) xs) f 0 ≡ 1 + g + get_or xs f 0
start_at g [] f h = absurd (omega arith)
start_at g (x ∷ xs) zero h = refl
start_at g (x ∷ xs) (suc f) h = start_at g xs f (omega arith)
