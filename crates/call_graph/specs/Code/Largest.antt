-- The largest sums before functions, one function after the other.
use Rattle.std.specs.Prelude.{◌≡◌, ℕ, ◌+◌, ◌<◌, ◌≤◌, List, [], ◌⊎◌, length, Contains, slice_index}
use Rattle.cerco_base.specs.CallOrder.{Called, functions_of}
use Rattle.call_graph.specs.CallPaths.{CallsIn, IsCallPath, IsLargestSumBefore, sum_along}

-- the largest of the sums before these callers and with them, or 0
pub record IsLargestWith (callers before sizes : List ℕ) (n : ℕ) : Type 0 where
  pub some : (n ≡ 0) ⊎ ((c : ℕ) × Contains callers c × (slice_index before c + slice_index sizes c ≡ n))
  pub most : (c : ℕ) → Contains callers c → slice_index before c + slice_index sizes c ≤ n

-- the sums before the first functions of the order, and the largest one along a path that ends at one of them
pub record AreSums (order : List Called) (sizes : List ℕ) (count : ℕ) (before : List ℕ) (largest : ℕ) : Type 0 where
  pub before_length : length before ≡ length sizes
  pub sums : (k : ℕ) → k < count → IsLargestSumBefore (length sizes) (CallsIn order) sizes (slice_index (functions_of order) k) (slice_index before (slice_index (functions_of order) k))
  pub some : (path : List ℕ) × (IsCallPath (length sizes) (CallsIn order) path ⊎ (path ≡ [])) × (sum_along sizes path ≡ largest)
  pub most : (k : ℕ) → k < count → slice_index before (slice_index (functions_of order) k) + slice_index sizes (slice_index (functions_of order) k) ≤ largest
