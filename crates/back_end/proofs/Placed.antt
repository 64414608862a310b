-- Allocations beside the graphs of a program, and sums of their sizes.
use Rattle.std.proofs.Common.{◌≡◌, ℕ, ◌+◌, ◌*◌, ◌<◌, ◌≤◌, ◌^◌, List, [], ◌∷◌, ◌++◌, length, map, take, get_or, sym, ap, ◌∙◌, subst, arith, add-one}
use Rattle.std.specs.Prelude.{All, Contains, ◌↔◌, ◌-◌, min}
use Rattle.std.proofs.Math.Nat.{mul-le-mul_right}
use Rattle.std.proofs.Math.Seq.{take-suc}
use Rattle.std.proofs.lemmas.List.{map-append}
use Rattle.cerco_base.specs.CallOrder.{Called, functions_of, IsCallOrder}
use Rattle.call_graph.specs.CallPaths.{CallsIn, IsCallPath, sum_along}
use Rattle.call_graph.proofs.OrderPaths.{length-path}
use Rattle.call_graph.proofs.Consequences.{sum-bound}
use Rattle.cerco_middle.specs.Programs.{HoldsFunctions}
use Rattle.rtl.specs.declared.graphs.Graph.{Graph as WrittenGraph}
use Rattle.rtl.specs.declared.locations.Vreg.{Vreg}
use Rattle.rtl.specs.Code.Views.{graph_of}
use Rattle.rtl.specs.Programs.{Graph}
use Rattle.ltl_alloc.specs.declared.allocation.Allocation.{Allocation}
use Rattle.ltl_alloc.specs.Allocated.{EachHas}
use Rattle.back_end.specs.Chain.{IsPlainest}

each_more : (P : Graph Vreg → Allocation → Type 0) (gs : List (Graph Vreg)) (xs : List Allocation) (g : Graph Vreg) (a : Allocation) → EachHas P gs xs → P g a → EachHas P (gs ++ g ∷ []) (xs ++ a ∷ [])
each_more P [] [] g a h p = (p, tt)
each_more P [] (b ∷ xs) g a h p = absurd h
each_more P (x ∷ gs) [] g a h p = absurd h
each_more P (x ∷ gs) (b ∷ xs) g a h p = (h.0, each_more P gs xs g a h.1 p)

-- one more allocation
pub plainest_on : (gs : List (WrittenGraph Vreg)) (k : ℕ) (g : WrittenGraph Vreg) (xs ys : List Allocation) (a : Allocation) → k < length gs → g ≡ get_or gs k g → EachHas IsPlainest (map graph_of (take k gs)) xs → IsPlainest (graph_of g) a → ys ≡ xs ++ a ∷ [] → EachHas IsPlainest (map graph_of (take (k + 1) gs)) ys
plainest_on gs k g xs ys a lt is before one pushed =
    let next : take (k + 1) gs ≡ take k gs ++ g ∷ [] = ap (λ n. take n gs) (add-one k) ∙ take-suc gs k g lt ∙ ap (λ z. take k gs ++ z ∷ []) (sym is) in
    let graphs = ap (map graph_of) next ∙ map-append graph_of (take k gs) (g ∷ []) in
    subst (λ z. EachHas IsPlainest z ys) (sym graphs) (subst (λ z. EachHas IsPlainest (map graph_of (take k gs) ++ graph_of g ∷ []) z) (sym pushed)
    (each_more IsPlainest (map graph_of (take k gs)) xs (graph_of g) a before one))

pub each_weaker : (P Q : Graph Vreg → Allocation → Type 0) → ((g : Graph Vreg) (a : Allocation) → P g a → Q g a) → (gs : List (Graph Vreg)) (xs : List Allocation) → EachHas P gs xs → EachHas Q gs xs
each_weaker P Q f [] [] h = tt
each_weaker P Q f [] (a ∷ xs) h = h
each_weaker P Q f (g ∷ gs) [] h = h
each_weaker P Q f (g ∷ gs) (a ∷ xs) h = (f g a h.0, each_weaker P Q f gs xs h.1)

-- sums along call paths are small where as many times the largest size as there are functions is
pub sums_are_small :
    (calls : List Called) (count most : ℕ) (sizes : List ℕ) → IsCallOrder calls → ((f : ℕ) → f < length sizes → Contains (functions_of calls) f) → count ≡ length calls → All (λ s. s ≤ most) sizes → count * most < 2 ^ 31
    → (path : List ℕ) → IsCallPath (length sizes) (CallsIn calls) path → sum_along sizes path < 2 ^ 31
sums_are_small calls count most sizes order known same all small path way =
    let le = length-path calls order (length sizes) known path way in
    let within : length path ≤ count = omega (arith, le, same) in
    let bound = sum-bound sizes path most all in
    let product : length path * most ≤ count * most = mul-le-mul_right most within in
    omega (arith, bound, product, small)

-- the functions of an order of calls have sizes
pub functions_listed : (calls : List Called) (n : ℕ) (sizes : List ℕ) → HoldsFunctions calls n → length sizes ≡ n → (f : ℕ) → Contains (functions_of calls) f ↔ (f < length sizes)
functions_listed calls n sizes holds same f = (λ has. subst (λ k. f < k) (sym same) (holds.no_others f has), λ within. holds.all f (subst (λ k. f < k) same within))

pub product_is_small : (count most product : ℕ) → product ≡ min (count * most) (2 ^ 64 - 1) → product < 2 ^ 31 → count * most < 2 ^ 31
product_is_small count most product is small = omega arith
