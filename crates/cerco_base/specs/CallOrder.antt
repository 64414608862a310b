-- The functions of a program in the order of its calls: each caller stands before those that it calls, which is a topological
-- order of the graph of calls (Kahn, 1962).
use Rattle.std.specs.Prelude.{ℕ, ◌<◌, List, [], length, map, take, slice_index, slice_index_or, All, Contains}

-- a function by number, with the functions that call it
pub record Called : Type 0 where
  pub function : ℕ
  pub callers : List ℕ

abbrev pub functions_of : List Called → List ℕ
functions_of = map (λ c. c.function)

-- the callers of the function at place i
abbrev pub callers_at : List Called → ℕ → List ℕ
callers_at l i = slice_index_or (map (λ c. c.callers) l) i []

-- no function stands twice, and each one's callers stand before it
pub record IsCallOrder (l : List Called) : Type 0 where
  pub once : (i : ℕ) → i < length l → Contains (take i (functions_of l)) (slice_index (functions_of l) i) → ⊥
  pub callers_before : (i : ℕ) → i < length l → All (Contains (take i (functions_of l))) (callers_at l i)
