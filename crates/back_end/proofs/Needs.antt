-- A program needs no more cells than its source needs bytes of registers and cells.
use Rattle.std.proofs.Common.{◌≡◌, ℕ, zero, suc, ◌≤◌, List, [], ◌∷◌, length, ap, ◌∙◌, subst, arith, inl, inr}
use Rattle.std.specs.Prelude.{slice_index}
use Rattle.std.specs.List.{AllByRecursion, sum_by}
use Rattle.std.proofs.lemmas.List.{length-map}
use Rattle.std.proofs.lemmas.List.Sums.{sum_by-cons}
use Rattle.call_graph.specs.CallPaths.{CallsIn, IsLargestSum, sum_along}
use Rattle.cerco_middle.specs.Cminor.Trees.{Cminor}
use Rattle.rtl.specs.declared.locations.Vreg.{Vreg}
use Rattle.rtl.specs.Programs.{Graph, Bytes}
use Rattle.rtl.specs.Graphs.{graph_at}
use Rattle.rtl.specs.WellFormed.{NamesItsVregs}
use Rattle.rtl.specs.Lengths.{register_need}
use Rattle.ltl_alloc.specs.declared.allocation.Allocation.{Allocation}
use Rattle.ltl_alloc.specs.Allocated.{EachHas, sizes_of}
use Rattle.ltl_alloc.proofs.Program.{as_many}
use Rattle.back_end.specs.Needs.{needs, IsWithinNeed}
use Rattle.back_end.specs.Chain.{IsErtlOf, IsPlainest}

sum_less : (f g : ℕ → ℕ) → ((x : ℕ) → f x ≤ g x) → (path : List ℕ) → sum_by f path ≤ sum_by g path
sum_less f g le [] = omega arith
sum_less f g le (x ∷ path) = omega (arith, sum_by-cons f x path, sum_by-cons g x path, le x, sum_less f g le path)

-- with sizes that are no larger the largest sum is no larger
largest_le : (functions : ℕ) (calls : ℕ → ℕ → Type 0) (sizes bounds : List ℕ) (n most : ℕ) → ((f : ℕ) → slice_index sizes f ≤ slice_index bounds f) → IsLargestSum functions calls sizes n → IsLargestSum functions calls bounds most → n ≤ most
largest_le functions calls sizes bounds n most le small large =
    let path = small.some.0 in
    let sum : sum_along sizes path ≡ n = small.some.2 in
    elim small.some.1 [
      | inl way ↦ omega (arith, sum, sum_less (slice_index sizes) (slice_index bounds) le path, large.most path way)
      | inr none ↦ let empty : sum_along sizes path ≡ 0 = ap (sum_along sizes) none in omega (arith, sum, empty)
    ]

-- each function has no more cells than it needs
cells_needed : (graphs : List (Graph Vreg)) (allocations : List Allocation) → EachHas IsPlainest graphs allocations → AllByRecursion (NamesItsVregs 0) graphs → (f : ℕ) → slice_index (sizes_of allocations) f ≤ register_need (graph_at graphs f)
cells_needed [] [] each named f = omega arith
cells_needed [] (a ∷ allocations) each named f = absurd each
cells_needed (g ∷ graphs) [] each named f = absurd each
cells_needed (g ∷ graphs) (a ∷ allocations) each named zero = each.0.need named.0
cells_needed (g ∷ graphs) (a ∷ allocations) each named (suc f) = cells_needed graphs allocations each.1 named.1 f

pub functions_kept : (source : Cminor) (program : Bytes Vreg) (allocations : List Allocation) → IsErtlOf source program → EachHas IsPlainest program.graphs allocations → length allocations ≡ length source.functions
functions_kept source program allocations is each = as_many IsPlainest program.graphs allocations each ∙ is.functions

pub within_need :
    (source : Cminor) (program : Bytes Vreg) (allocations : List Allocation) → IsErtlOf source program → EachHas IsPlainest program.graphs allocations
    → (n : ℕ) → IsLargestSum (length (sizes_of allocations)) (CallsIn program.calls) (sizes_of allocations) n → IsWithinNeed source n
within_need source program allocations is each n sum most top =
    let sizes = sizes_of allocations in
    let count : length sizes ≡ length source.functions = length-map allocations (λ (a : Allocation). a.cells) ∙ functions_kept source program allocations is each in
    let counted = subst (λ k. IsLargestSum k (CallsIn program.calls) sizes n) count sum in
    let called = subst (λ cs. IsLargestSum (length source.functions) (CallsIn cs) sizes n) is.calls counted in
    let cells = cells_needed program.graphs allocations each is.formed.1 in
    let less : (f : ℕ) → slice_index sizes f ≤ slice_index (needs source) f = λ f. omega (arith, cells f, is.need f) in
    largest_le (length source.functions) (CallsIn source.calls) sizes (needs source) n most less called top
