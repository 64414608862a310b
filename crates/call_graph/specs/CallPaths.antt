-- The calls of a program and its call paths, as in a call graph (Ryder, 1979). Functions are numbers from 0 up to how many there
-- are, and a relation says which function calls which. Two such relations stand here: that of the lists of callees of a program,
-- and that of an order of calls.
use Rattle.std.specs.Prelude.{◌≡◌, ℕ, ◌≤◌, ◌<◌, ◌↔◌, List, [], ◌∷◌, ◌++◌, ◌⊎◌, length, Contains, slice_index, slice_index_or, slice_set}
use Rattle.std.specs.List.{sum_by}
use Rattle.cerco_base.specs.CallOrder.{Called, functions_of, callers_at, IsCallOrder}

-- the lists with one more number at the end of the list at place i
abbrev pub list_added : List (List ℕ) → ℕ → ℕ → List (List ℕ)
list_added lists i n = slice_set lists i (slice_index_or lists i [] ++ n ∷ [])

-- f calls g, where the list at place f has the functions that f calls
abbrev pub Calls : List (List ℕ) → ℕ → ℕ → Type 0
Calls callees f g = Contains (slice_index_or callees f []) g

-- f calls g, where f is among the callers that an order of calls names with g
abbrev pub CallsIn : List Called → ℕ → ℕ → Type 0
CallsIn order f g = (i : ℕ) × (i < length order) × (slice_index (functions_of order) i ≡ g) × Contains (callers_at order i) f

-- each of these functions is called by the one before it, the first one by f
abbrev pub AreCalledFrom : (ℕ → ℕ → Type 0) → ℕ → List ℕ → Type 0
AreCalledFrom calls f [] = Unit {0}
AreCalledFrom calls f (g ∷ more) = calls f g × AreCalledFrom calls g more

-- A call path: functions of the program, one at least, of which each one after the first is called by the one before. It may
-- begin at any function.
abbrev pub IsCallPath : ℕ → (ℕ → ℕ → Type 0) → List ℕ → Type 0
IsCallPath functions calls [] = ⊥
IsCallPath functions calls (f ∷ more) = (f < functions) × AreCalledFrom calls f more

-- a call path leads from f back to f
abbrev pub IsOnCycle : ℕ → (ℕ → ℕ → Type 0) → ℕ → Type 0
IsOnCycle functions calls f = (between : List ℕ) × IsCallPath functions calls (f ∷ (between ++ f ∷ []))

-- the first function that is on a cycle
pub record IsFirstOnCycle (functions : ℕ) (calls : ℕ → ℕ → Type 0) (f : ℕ) : Type 0 where
  pub cycle : IsOnCycle functions calls f
  pub first : (g : ℕ) → g < f → IsOnCycle functions calls g → ⊥

-- the sum of what each function of a path has
abbrev pub sum_along : List ℕ → List ℕ → ℕ
sum_along sizes path = sum_by (slice_index sizes) path

-- the largest sum along a call path, 0 where there is none
pub record IsLargestSum (functions : ℕ) (calls : ℕ → ℕ → Type 0) (sizes : List ℕ) (n : ℕ) : Type 0 where
  pub some : (path : List ℕ) × (IsCallPath functions calls path ⊎ (path ≡ [])) × (sum_along sizes path ≡ n)
  pub most : (path : List ℕ) → IsCallPath functions calls path → sum_along sizes path ≤ n

-- the largest sum along the functions before f of a call path that ends at f; 0 where nobody calls f
pub record IsLargestSumBefore (functions : ℕ) (calls : ℕ → ℕ → Type 0) (sizes : List ℕ) (f n : ℕ) : Type 0 where
  pub some : (path : List ℕ) × IsCallPath functions calls (path ++ f ∷ []) × (sum_along sizes path ≡ n)
  pub most : (path : List ℕ) → IsCallPath functions calls (path ++ f ∷ []) → sum_along sizes path ≤ n

-- an order of calls is that of the program with these callees: it has each function, once, and the same calls
pub record IsOrderOf (callees : List (List ℕ)) (order : List Called) : Type 0 where
  pub functions : (f : ℕ) → Contains (functions_of order) f ↔ (f < length callees)
  pub calls : (f g : ℕ) → CallsIn order f g ↔ Calls callees f g
  pub in_order : IsCallOrder order
