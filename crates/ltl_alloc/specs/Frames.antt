-- Frames of cells: the first cell of a function is the largest sum of the sizes of functions along a call path that leads to it, so
-- that functions on one call path have different cells (overlays by the call graph, as in compilers for the MCS-51).
use Rattle.std.specs.Prelude.{◌≡◌, ℕ, ◌<◌, List, length, slice_index}
use Rattle.cerco_base.specs.CallOrder.{Called}
use Rattle.call_graph.specs.CallPaths.{CallsIn, IsLargestSum, IsLargestSumBefore}
use Rattle.ltl_alloc.specs.declared.frames.Bases.{Bases}

-- the first cell of a function
abbrev pub first_of : Bases → ℕ → ℕ
first_of bases f = slice_index bases.firsts f

pub record AreBases (calls : List Called) (sizes : List ℕ) (bases : Bases) : Type 0 where
  pub functions : length bases.firsts ≡ length sizes
  pub firsts : (f : ℕ) → f < length sizes → IsLargestSumBefore (length sizes) (CallsIn calls) sizes f (first_of bases f)
  pub need : IsLargestSum (length sizes) (CallsIn calls) sizes bases.need
