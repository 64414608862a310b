-- A laid-out program stays within its limits.
use Rattle.std.proofs.Common.{◌≡◌, ℕ, zero, suc, ◌<◌, ◌≤◌, ◌⊎◌, List, [], ◌∷◌, length, map, replicate, get_or, Some, refl, sym, ap, subst, ◌∙◌, inl, inr, arith}
use Rattle.std.specs.Prelude.{slice_get, Contains, ◌↔◌}
use Rattle.std.proofs.lemmas.List.{length-map}
use Rattle.std.proofs.lemmas.List.Sums.{sum_by-le-sum_by}
use Rattle.cerco_base.specs.CallOrder.{functions_of}
use Rattle.call_graph.specs.CallPaths.{Calls, CallsIn, IsCallPath, IsLargestSum, IsOrderOf, sum_along}
use Rattle.call_graph.proofs.Consequences.{largest_along_calls, length-path-le, called_exists}
use Rattle.clight_syntax.specs.Bounds.{register_need}
use Rattle.clight_syntax.specs.Labelling.{function_without, without_labels}
use Rattle.clight_syntax.specs.TypedTrees.{Function, TypedProgram}
use Rattle.clight_layout.specs.Calls.{body_calls, callees}
use Rattle.clight_layout.specs.Layout.{IsLayout}
use Rattle.checked_programs.specs.Limits.{IsPathOf, IsLargestNeed, IsWithinLimits}
use Rattle.checked_programs.proofs.Depths.{largest_sum}

-- ---- largest sums along call paths

-- no sum is above the largest one
sum_within : (functions : ℕ) (calls : ℕ → ℕ → Type 0) (sizes : List ℕ) (n : ℕ) → IsLargestSum functions calls sizes n → (path : List ℕ) → IsCallPath functions calls path ⊎ (path ≡ []) → sum_along sizes path ≤ n
sum_within functions calls sizes n largest path (inl way) = largest.most path way
sum_within functions calls sizes n largest path (inr none) = subst (λ xs. sum_along sizes xs ≤ n) (sym none) (omega arith)

-- where each function has no more, the largest sum is no larger
largest_within : (functions : ℕ) (calls : ℕ → ℕ → Type 0) (small large : List ℕ) → ((f : ℕ) → get_or small f 0 ≤ get_or large f 0) → (n m : ℕ) → IsLargestSum functions calls small n → IsLargestSum functions calls large m → n ≤ m
largest_within functions calls small large each n m a b =
    let le = sum_within functions calls large m b a.some.0 a.some.1 in
    let more = sum_by-le-sum_by (λ (f : ℕ). get_or small f 0) (λ (f : ℕ). get_or large f 0) a.some.0 each in
    let e = a.some.2 in
    omega arith

-- ---- the program

module _ {L : Type 0} (p : TypedProgram L) (t : TypedProgram (Unit {0})) (layout : IsLayout t (without_labels p)) where
  functions_are : map function_without p.functions ≡ t.functions
  functions_are = ap (λ (x : TypedProgram (Unit {0})). x.functions) layout.program

  many : length (callees t.functions) ≡ length p.functions
  many = length-map t.functions (body_calls (length t.functions)) ∙ ap length (sym functions_are) ∙ length-map p.functions function_without

  order : IsOrderOf (callees t.functions) p.calls
  order = layout.order

  paths : (path : List ℕ) → IsPathOf p path → length path ≤ 64
  paths path way =
      let longest = largest_along_calls (length (callees t.functions)) (Calls (callees t.functions)) (CallsIn p.calls) (λ f g. ((order.calls f g).1, (order.calls f g).0)) (replicate (length (callees t.functions)) 1) layout.depth.0 layout.depth.1 in
      let le = length-path-le (length (callees t.functions)) (CallsIn p.calls) layout.depth.0 (called_exists (callees t.functions) p.calls order) longest path (subst (λ k. IsCallPath k (CallsIn p.calls) path) (sym many) way) in
      let few = layout.depth.2 in
      omega arith

  -- sizes of the functions have a largest sum
  largest : (sizes : List ℕ) → length sizes ≡ length p.functions → (n : ℕ) × IsLargestNeed p sizes n
  largest sizes size =
      let sum = largest_sum p.calls order.in_order sizes (subst (λ k. (f : ℕ) → Contains (functions_of p.calls) f ↔ (f < k)) (many ∙ sym size) order.functions) in
      (sum.0, subst (λ k. IsLargestSum k (CallsIn p.calls) sizes sum.0) size sum.1)

  abbrev rooms : List ℕ
  rooms = map (register_need p) p.functions

  need_within : (fs : List (Function L)) (needs : List ℕ) → length needs ≡ length fs → ((i : ℕ) (f : Function L) (need : ℕ) → slice_get fs i ≡ Some f → slice_get needs i ≡ Some need → need ≤ register_need p f)
      → (i : ℕ) → get_or needs i 0 ≤ get_or (map (register_need p) fs) i 0
  need_within fs [] size each i = omega arith
  need_within [] (n ∷ needs) size each i = absurd cc
  need_within (f ∷ fs) (n ∷ needs) size each zero = each 0 f n refl refl
  need_within (f ∷ fs) (n ∷ needs) size each (suc i) = need_within fs needs (omega arith) (λ k. each (suc k)) i

  pub within_limits : IsWithinLimits p
  within_limits = record {
    bytes = layout.fits;
    paths = paths;
    room = largest (map (register_need p) p.functions) (length-map p.functions (register_need p));
    one_room = λ a b x y.
        let le = largest_within (length p.functions) (CallsIn p.calls) (map (register_need p) p.functions) (map (register_need p) p.functions) (λ f. omega arith) a b x y in
        let ge = largest_within (length p.functions) (CallsIn p.calls) (map (register_need p) p.functions) (map (register_need p) p.functions) (λ f. omega arith) b a y x in
        omega arith;
    needs = λ needs are.
        let n = largest needs are.count in
        (n.0, n.1, λ room is. largest_within (length p.functions) (CallsIn p.calls) needs (map (register_need p) p.functions) (need_within p.functions needs are.count are.each) n.0 room n.1 is);
  }
