-- How deep each function is called: the length of the longest call path to it, which an order of calls gives.
use Rattle.std.proofs.Common.{◌≡◌, ℕ, zero, suc, ◌+◌, ◌<◌, ◌≤◌, List, [], ◌∷◌, ◌++◌, length, get_or, set, max, replicate, refl, sym, subst, inl, inr, arith, append_assoc, append-nil}
use Rattle.std.specs.Prelude.{Contains, ◌↔◌}
use Rattle.std.proofs.lemmas.List.{length-replicate, get_or-replicate}
use Rattle.cerco_base.specs.CallOrder.{Called, functions_of, callers_at, IsCallOrder}
use Rattle.call_graph.specs.CallPaths.{Calls, CallsIn, IsLargestSum, IsLargestSumBefore, IsOrderOf}
use Rattle.call_graph.specs.Code.Largest.{IsLargestWith, AreSums}
use Rattle.call_graph.proofs.Entries.{contains_none}
use Rattle.call_graph.proofs.OrderPaths.{StandsAt}
use Rattle.call_graph.proofs.SumSteps.{with_push, sums_next, sums_before, sums_largest}
use Rattle.call_graph.proofs.Consequences.{callee_is_deeper, ends_within_largest, before_along_calls}

largest_with : (before sizes done rest : List ℕ) (n : ℕ) → IsLargestWith done before sizes n → (m : ℕ) × IsLargestWith (done ++ rest) before sizes m
largest_with before sizes done [] n w = (n, subst (λ xs. IsLargestWith xs before sizes n) (sym (append-nil done)) w)
largest_with before sizes done (c ∷ rest) n w =
    let later = largest_with before sizes (done ++ c ∷ []) rest (max n (get_or before c 0 + get_or sizes c 0)) (with_push done before sizes n c w) in
    (later.0, subst (λ xs. IsLargestWith xs before sizes later.0) (append_assoc done (c ∷ []) rest) later.1)

none_yet : (before sizes : List ℕ) → IsLargestWith [] before sizes 0
none_yet before sizes = record { some = inl refl; most = λ c there. absurd (contains_none c there) }

module _ (order : List Called) (is : IsCallOrder order) (sizes : List ℕ) (functions : (f : ℕ) → Contains (functions_of order) f ↔ (f < length sizes)) where
  sums_to : (k : ℕ) → k ≤ length order → (before : List ℕ) × (largest : ℕ) × AreSums order sizes k before largest
  sums_to zero le = (
    replicate (length sizes) 0,
    0,
    record {
      before_length = length-replicate (length sizes) 0;
      sums = λ k lt. absurd (omega arith);
      some = ([], inr refl, refl);
      most = λ k lt. absurd (omega arith);
    },
  )
  sums_to (suc k) le =
      let before = sums_to k (omega arith) in
      let f : ℕ = get_or (functions_of order) k 0 in
      let at : StandsAt order (get_or (functions_of order) k 0) k = record { within = omega arith; is = refl } in
      let with' = largest_with before.0 sizes [] (callers_at order k) 0 (none_yet before.0 sizes) in
      let next = sums_next order sizes before.0 k before.1 (get_or (functions_of order) k 0) with'.0 is functions before.2 at with'.1 in
      let e : k + 1 ≡ suc k = omega arith in (
        set before.0 (get_or (functions_of order) k 0) with'.0,
        max before.1 (with'.0 + get_or sizes (get_or (functions_of order) k 0) 0),
        subst (λ n. AreSums order sizes n (set before.0 (get_or (functions_of order) k 0) with'.0) (max before.1 (with'.0 + get_or sizes (get_or (functions_of order) k 0) 0))) e next,
      )

  pub all_sums : (before : List ℕ) × ((f : ℕ) → f < length sizes → IsLargestSumBefore (length sizes) (CallsIn order) sizes f (get_or before f 0))
  all_sums =
      let sums = sums_to (length order) (omega arith) in
      (sums.0, λ f lt. sums_before order sizes sums.0 (length order) sums.1 f functions sums.2 (omega arith) lt)

  pub largest_sum : (largest : ℕ) × IsLargestSum (length sizes) (CallsIn order) sizes largest
  largest_sum =
      let sums = sums_to (length order) (omega arith) in
      (sums.1, sums_largest order sizes sums.0 (length order) sums.1 functions sums.2 (omega arith))

-- depths of the functions of a program whose longest call path is known
pub record AreDepths (callees : List (List ℕ)) (greatest : ℕ) : Type 0 where
  pub depth : ℕ → ℕ
  pub some : (f : ℕ) → 1 ≤ depth f
  pub most : (f : ℕ) → f < length callees → depth f ≤ greatest
  pub deeper : (f g : ℕ) → f < length callees → g < length callees → Calls callees f g → depth f < depth g

pub depths : (callees : List (List ℕ)) (order : List Called) → IsOrderOf callees order → (greatest : ℕ) → IsLargestSum (length callees) (Calls callees) (replicate (length callees) 1) greatest → AreDepths callees greatest
depths callees order is greatest longest =
    let n : ℕ = length callees in
    let size : length (replicate (length callees) 1) ≡ length callees = length-replicate (length callees) 1 in
    let all = all_sums order is.in_order (replicate (length callees) 1) (subst (λ k. (f : ℕ) → Contains (functions_of order) f ↔ (f < k)) (sym size) is.functions) in
    let before : (f : ℕ) → f < length callees → IsLargestSumBefore (length callees) (Calls callees) (replicate (length callees) 1) f (get_or all.0 f 0) =
    λ f lt. before_along_calls (length callees) (CallsIn order) (Calls callees) is.calls (replicate (length callees) 1) f (get_or all.0 f 0)
    (subst (λ k. IsLargestSumBefore k (CallsIn order) (replicate (length callees) 1) f (get_or all.0 f 0)) size (all.1 f (subst (λ k. f < k) (sym size) lt)))
    in
    record {
      depth = λ f. suc (get_or all.0 f 0);
      some = λ f. omega arith;
      most = λ f lt.
          let le = ends_within_largest (length callees) (Calls callees) (replicate (length callees) 1) f (get_or all.0 f 0) greatest longest (before f lt) in
          let one : get_or {A = ℕ} (replicate {A = ℕ} (length callees) 1) f 0 ≡ 1 = get_or-replicate (length callees) f 1 0 lt in
          omega arith;
      deeper = λ f g lf lg call.
          let lt = callee_is_deeper (length callees) (Calls callees) f g (get_or all.0 f 0) (get_or all.0 g 0) lf (before f lf) (before g lg) call in
          omega arith;
    }
