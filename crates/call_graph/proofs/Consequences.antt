-- What follows for the users of the sums: where frames lie, how deep calls go, and that sums fit.
use Rattle.std.proofs.Common.{◌≡◌, ◌≢◌, ℕ, ◌+◌, ◌*◌, ◌<◌, ◌≤◌, ◌^◌, List, [], ◌∷◌, ◌++◌, length, get_or, replicate, refl, ◌∙◌, subst, inl, inr, arith}
use Rattle.std.specs.Prelude.{All, ◌↔◌, slice_index}
use Rattle.std.specs.List.{AllPairs}
use Rattle.std.proofs.lemmas.Bool.{cases_lt, eqb-true}
use Rattle.std.proofs.lemmas.Bool.Decides.{Decides-eqb}
use Rattle.std.proofs.lemmas.Cmp.{nat_eq_equiv}
use Rattle.std.proofs.lemmas.List.{get_or-replicate, get_or_past, get_or_default}
use Rattle.std.proofs.lemmas.List.Elements.{All-get_or, All-nil, All-cons, All-head, All-tail}
use Rattle.std.proofs.lemmas.List.Sums.{sum_by-le, sum_by-cons}
use Rattle.std.proofs.lemmas.Map.Steps.{length-le_from_distinct_below, le-length_from_below}
use Rattle.std.proofs.lemmas.Map.Made.{IsDistinct-from_AllPairs}
use Rattle.std.proofs.lemmas.Map.Views.{Contains-from_any, list_any-from_Contains}
use Rattle.std.proofs.Math.Nat.{mul-le-mul_right}
use Rattle.cerco_base.specs.CallOrder.{Called, functions_of}
use Rattle.call_graph.specs.CallPaths.{CallsIn, AreCalledFrom, IsCallPath, IsLargestSum, IsLargestSumBefore, IsOrderOf, sum_along}
use Rattle.call_graph.proofs.Paths.{path-push, path-along}
use Rattle.call_graph.proofs.OrderPaths.{length-path, length-functions, not_twice, contains_standing}
use Rattle.call_graph.proofs.SumSteps.{sum-end}

-- a callee's frame begins behind its caller's
pub callee_begins_behind : (functions : ℕ) (calls : ℕ → ℕ → Type 0) (sizes : List ℕ) (f g n m : ℕ) → IsLargestSumBefore functions calls sizes f n → IsLargestSumBefore functions calls sizes g m → calls f g → n + slice_index sizes f ≤ m
callee_begins_behind functions calls sizes f g n m caller callee call =
    let le = callee.most (caller.some.0 ++ f ∷ []) (path-push functions calls caller.some.0 f g caller.some.1 call) in
    let e = sum-end sizes caller.some.0 f in
    let s = caller.some.2 in
    omega arith

-- a callee is deeper than its caller, where depth counts the functions before
pub callee_is_deeper : (functions : ℕ) (calls : ℕ → ℕ → Type 0) (f g n m : ℕ) → f < functions → IsLargestSumBefore functions calls (replicate functions 1) f n → IsLargestSumBefore functions calls (replicate functions 1) g m → calls f g → n < m
callee_is_deeper functions calls f g n m h caller callee call =
    let le = callee_begins_behind functions calls (replicate functions 1) f g n m caller callee call in
    let one : get_or {A = ℕ} (replicate {A = ℕ} functions 1) f 0 ≡ 1 = get_or-replicate functions f 1 0 h in
    omega arith

-- each frame ends within the largest sum
pub ends_within_largest : (functions : ℕ) (calls : ℕ → ℕ → Type 0) (sizes : List ℕ) (f n largest : ℕ) → IsLargestSum functions calls sizes largest → IsLargestSumBefore functions calls sizes f n → n + slice_index sizes f ≤ largest
ends_within_largest functions calls sizes f n largest all before =
    let le = all.most (before.some.0 ++ f ∷ []) before.some.1 in
    let e = sum-end sizes before.some.0 f in
    let s = before.some.2 in
    omega arith

-- the sums of a relation are those of any other with the same calls
pub largest_along_calls : (functions : ℕ) (r s : ℕ → ℕ → Type 0) → ((f g : ℕ) → r f g ↔ s f g) → (sizes : List ℕ) (n : ℕ) → IsLargestSum functions r sizes n → IsLargestSum functions s sizes n
largest_along_calls functions r s same sizes n sum =
    record {
      some = (
        sum.some.0,
        elim sum.some.1 [
          | inl way ↦ inl (path-along functions r s (λ f g. (same f g).0) sum.some.0 way)
          | inr none ↦ inr none
        ],
        sum.some.2,
      );
      most = λ path way. sum.most path (path-along functions s r (λ f g. (same f g).1) path way);
    }

pub before_along_calls : (functions : ℕ) (r s : ℕ → ℕ → Type 0) → ((f g : ℕ) → r f g ↔ s f g) → (sizes : List ℕ) (f n : ℕ) → IsLargestSumBefore functions r sizes f n → IsLargestSumBefore functions s sizes f n
before_along_calls functions r s same sizes f n sum =
    record {
      some = (sum.some.0, path-along functions r s (λ a b. (same a b).0) (sum.some.0 ++ f ∷ []) sum.some.1, sum.some.2);
      most = λ path way. sum.most path (path-along functions s r (λ a b. (same a b).1) (path ++ f ∷ []) way);
    }

-- a sum is at most as many times the greatest size as there are functions on the path
pub sum-bound : (sizes path : List ℕ) (most : ℕ) → All (λ s. s ≤ most) sizes → sum_along sizes path ≤ length path * most
sum-bound sizes path most all =
    let each : (f : ℕ) → get_or sizes f 0 ≤ most =
    λ f. elim (cases_lt f (length sizes)) [
      | inl h ↦ All-get_or (λ (s : ℕ). s ≤ most) sizes f 0 h all
      | inr h ↦ let none = get_or_past sizes f 0 h in omega arith
    ]
    in
    sum_by-le (λ (f : ℕ). get_or sizes f 0) most path (λ k d h. each (get_or path k d))

-- an order has as many functions as the program
pub length-order : (callees : List (List ℕ)) (order : List Called) → IsOrderOf callees order → length order ≡ length callees
length-order callees order is =
    let len : length (functions_of order) ≡ length order = length-functions order in
    let apart : AllPairs (λ (x y : ℕ). x ≢ y) (functions_of order) =
    λ i j d h k e. not_twice order is.in_order (get_or (functions_of order) j d) i j
    (record { within = omega arith; is = get_or_default (functions_of order) i 0 d (omega arith) ∙ e })
    (record { within = omega arith; is = get_or_default (functions_of order) j 0 d k })
    h
    in
    let few : length (functions_of order) ≤ length callees =
    length-le_from_distinct_below (functions_of order) (length callees) (IsDistinct-from_AllPairs Decides-eqb (functions_of order) apart)
    (λ q e. (is.functions q).0 (Contains-from_any (λ x y t. eqb-true x y t) q (functions_of order) e))
    in
    let many : length callees ≤ length (functions_of order) =
    le-length_from_below (functions_of order) (length callees)
    (λ q h. list_any-from_Contains nat_eq_equiv q (functions_of order) ((is.functions q).1 h))
    in
    omega arith

-- a path has at most as many functions as the program
pub length-path_of_program : (callees : List (List ℕ)) (order : List Called) → IsOrderOf callees order → (path : List ℕ) → IsCallPath (length callees) (CallsIn order) path → length path ≤ length callees
length-path_of_program callees order is path way =
    let le = length-path order is.in_order (length callees) (λ f h. (is.functions f).1 h) path way in
    let e = length-order callees order is in
    omega arith

-- where each function has a size of at most 1, as it has where depths are counted, each sum fits
pub depths_fit : (callees : List (List ℕ)) (order : List Called) (sizes : List ℕ) → IsOrderOf callees order → length callees < 2 ^ 32 → length sizes ≡ length callees → All (λ s. s ≤ 1) sizes → (path : List ℕ) → IsCallPath (length sizes) (CallsIn order) path → sum_along sizes path < 2 ^ 32
depths_fit callees order sizes is few same ones path way =
    let le = length-path_of_program callees order is path (subst (λ (n : ℕ). IsCallPath n (CallsIn order) path) same way) in
    let bound = sum-bound sizes path 1 ones in
    omega arith

-- the sum of ones along a path of functions of the program is its length
ones-along : (functions : ℕ) (path : List ℕ) → All (λ f. f < functions) path → sum_along (replicate functions 1) path ≡ length path
ones-along functions [] all = refl
ones-along functions (f ∷ path) all =
    let one : get_or {A = ℕ} (replicate {A = ℕ} functions 1) f 0 ≡ 1 = get_or-replicate functions f 1 0 (All-head (λ (g : ℕ). g < functions) f path all) in
    let rest : sum_along (replicate {A = ℕ} functions 1) path ≡ length path = ones-along functions path (All-tail (λ (g : ℕ). g < functions) f path all) in
    let e = sum_by-cons (λ (g : ℕ). get_or (replicate functions 1) g 0) f path in
    omega arith

called_within : (functions : ℕ) (calls : ℕ → ℕ → Type 0) → ((f g : ℕ) → calls f g → g < functions) → (f : ℕ) (path : List ℕ) → f < functions → AreCalledFrom calls f path → All (λ g. g < functions) (f ∷ path)
called_within functions calls exist f [] h way = All-cons (λ (g : ℕ). g < functions) f [] h (All-nil (λ (g : ℕ). g < functions))
called_within functions calls exist f (g ∷ path) h way = All-cons (λ (x : ℕ). x < functions) f (g ∷ path) h (called_within functions calls exist g path (exist f g way.0) way.1)

-- the largest sum of ones is the length of the longest path
pub length-path-le : (functions : ℕ) (calls : ℕ → ℕ → Type 0) (depth : ℕ) → ((f g : ℕ) → calls f g → g < functions) → IsLargestSum functions calls (replicate functions 1) depth → (path : List ℕ) → IsCallPath functions calls path → length path ≤ depth
length-path-le functions calls depth exist sum [] way = absurd way
length-path-le functions calls depth exist sum (f ∷ path) way =
    let le = sum.most (f ∷ path) way in
    let e = ones-along functions (f ∷ path) (called_within functions calls exist f path way.0 way.1) in
    omega arith

-- the sums of sizes fit where the longest path is known and the greatest size
pub sums_fit : (functions : ℕ) (calls : ℕ → ℕ → Type 0) (sizes : List ℕ) (depth most : ℕ) → ((f g : ℕ) → calls f g → g < functions) → IsLargestSum functions calls (replicate functions 1) depth → All (λ s. s ≤ most) sizes → depth * most < 2 ^ 32 → (path : List ℕ) → IsCallPath functions calls path → sum_along sizes path < 2 ^ 32
sums_fit functions calls sizes depth most exist sum all small path way =
    let le = length-path-le functions calls depth exist sum path way in
    let bound = sum-bound sizes path most all in
    let product : length path * most ≤ depth * most = mul-le-mul_right most le in
    omega arith

-- what an order names as called is a function of the program
pub called_exists : (callees : List (List ℕ)) (order : List Called) → IsOrderOf callees order → (f g : ℕ) → CallsIn order f g → g < length callees
called_exists callees order is f g call =
    (is.functions g).0 (contains_standing order g call.0 (record { within = call.1; is = call.2 }))
