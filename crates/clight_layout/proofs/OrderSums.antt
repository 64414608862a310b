-- The sum along a call path is at most that of all functions of an order of the calls.
use Rattle.std.proofs.Common.{◌≡◌, ℕ, zero, suc, ◌+◌, ◌-◌, ◌<◌, ◌≤◌, List, [], ◌∷◌, length, take, drop, get_or, sym, ap, subst, ◌∙◌, drop-cons, arith}
use Rattle.std.specs.Prelude.{Contains, ◌↔◌}
use Rattle.std.proofs.lemmas.List.{take-append-drop}
use Rattle.std.proofs.lemmas.List.Sums.{sum_by-cons, sum_by-append}
use Rattle.cerco_base.specs.CallOrder.{Called, functions_of, IsCallOrder}
use Rattle.call_graph.specs.CallPaths.{AreCalledFrom, CallsIn, IsCallPath, sum_along}
use Rattle.call_graph.proofs.OrderPaths.{StandsAt, stands, called_stands, call_rises, one_place, length-functions}

-- from the place of a function on, there is it and what stands behind
from_there : (order : List Called) (sizes : List ℕ) (f i : ℕ) → StandsAt order f i → sum_along sizes (drop i (functions_of order)) ≡ get_or sizes f 0 + sum_along sizes (drop (suc i) (functions_of order))
from_there order sizes f i at =
    let count = length-functions order in
    let w = at.within in
    let here : i < length (functions_of order) = omega arith in
    ap (sum_along sizes) (drop-cons (functions_of order) i 0 here)
    ∙ sum_by-cons (λ (g : ℕ). get_or sizes g 0) (get_or (functions_of order) i 0) (drop (suc i) (functions_of order))
    ∙ ap (λ g. get_or sizes g 0 + sum_along sizes (drop (suc i) (functions_of order))) at.is

one_less : (sizes functions : List ℕ) (i : ℕ) → sum_along sizes (drop (suc i) functions) ≤ sum_along sizes (drop i functions)
one_less sizes [] zero = omega arith
one_less sizes [] (suc i) = omega arith
one_less sizes (x ∷ xs) zero = let e : sum_along sizes (x ∷ xs) ≡ get_or sizes x 0 + sum_along sizes xs = sum_by-cons (λ (g : ℕ). get_or sizes g 0) x xs in omega arith
one_less sizes (x ∷ xs) (suc i) = one_less sizes xs i

-- what stands from a later place on has at most as much
later_is_less : (sizes functions : List ℕ) (i k : ℕ) → sum_along sizes (drop (k + i) functions) ≤ sum_along sizes (drop i functions)
later_is_less sizes functions i zero =
    let e : i ≡ 0 + i = omega arith in
    let same : sum_along sizes (drop (0 + i) functions) ≡ sum_along sizes (drop i functions) = ap (λ j. sum_along sizes (drop j functions)) (sym e) in
    omega arith
later_is_less sizes functions i (suc k) =
    let e : suc k + i ≡ suc (k + i) = omega arith in
    let same : sum_along sizes (drop (suc k + i) functions) ≡ sum_along sizes (drop (suc (k + i)) functions) = ap (λ j. sum_along sizes (drop j functions)) e in
    let one = one_less sizes functions (k + i) in
    let rest = later_is_less sizes functions i k in
    omega arith

from_place : (order : List Called) → IsCallOrder order → (sizes : List ℕ) (f : ℕ) (more : List ℕ) (i : ℕ) → AreCalledFrom (CallsIn order) f more → StandsAt order f i → sum_along sizes (f ∷ more) ≤ sum_along sizes (drop i (functions_of order))
from_place order o sizes f [] i way at =
    let e = from_there order sizes f i at in
    let one : sum_along sizes (f ∷ []) ≡ get_or sizes f 0 + 0 = sum_by-cons (λ (g : ℕ). get_or sizes g 0) f [] in
    omega arith
from_place order o sizes f (g ∷ more) i way at =
    let behind = called_stands order f g way.0 in
    let caller = call_rises order o f g behind.0 way.0 behind.1 in
    let same = one_place order o f i caller.0 at caller.2 in
    let before = caller.1 in
    let rest : sum_along sizes (g ∷ more) ≤ sum_along sizes (drop behind.0 (functions_of order)) = from_place order o sizes g more behind.0 way.1 behind.1 in
    let gap : (behind.0 - suc i) + suc i ≡ behind.0 = omega arith in
    let less : sum_along sizes (drop behind.0 (functions_of order)) ≤ sum_along sizes (drop (suc i) (functions_of order)) =
    subst (λ j. sum_along sizes (drop j (functions_of order)) ≤ sum_along sizes (drop (suc i) (functions_of order))) gap (later_is_less sizes (functions_of order) (suc i) (behind.0 - suc i))
    in
    let e = from_there order sizes f i at in
    let all : sum_along sizes (f ∷ (g ∷ more)) ≡ get_or sizes f 0 + sum_along sizes (g ∷ more) = sum_by-cons (λ (h : ℕ). get_or sizes h 0) f (g ∷ more) in
    omega arith

pub path_within : (order : List Called) → IsCallOrder order → (sizes : List ℕ) (n : ℕ) → ((f : ℕ) → Contains (functions_of order) f ↔ (f < n)) → (path : List ℕ) → IsCallPath n (CallsIn order) path → sum_along sizes path ≤ sum_along sizes (functions_of order)
path_within order o sizes n all [] way = absurd way
path_within order o sizes n all (f ∷ more) way =
    let at = stands order f ((all f).1 way.0) in
    let part : sum_along sizes (f ∷ more) ≤ sum_along sizes (drop at.0 (functions_of order)) = from_place order o sizes f more at.0 way.1 at.1 in
    let split : sum_along sizes (take at.0 (functions_of order)) + sum_along sizes (drop at.0 (functions_of order)) ≡ sum_along sizes (functions_of order) =
    sym (sum_by-append (λ (g : ℕ). get_or sizes g 0) (take at.0 (functions_of order)) (drop at.0 (functions_of order))) ∙ ap (sum_along sizes) (take-append-drop at.0 (functions_of order))
    in
    omega arith
