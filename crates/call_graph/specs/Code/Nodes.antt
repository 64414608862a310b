-- How the nodes of a graph of calls stand for its lists of callees.
use Rattle.std.specs.Prelude.{◌≡◌, ℕ, ◌<◌, ◌^◌, List, [], map, length, Contains, slice_index_or}
use Rattle.call_graph.specs.declared.nodes.Node.{Node}
use Rattle.call_graph.specs.CallPaths.{Calls}

abbrev pub callees_of : List Node → List (List ℕ)
callees_of = map (λ n. n.callees.items)

abbrev pub callers_of : List Node → List (List ℕ)
callers_of = map (λ n. n.callers.items)

-- f calls g, where the list at place g has the functions that call g
abbrev pub CallsTo : List (List ℕ) → ℕ → ℕ → Type 0
CallsTo callers f g = Contains (slice_index_or callers g []) f

-- there are as many functions as a number of four bytes counts, each callee is one of them, and the callers of each are those whose
-- callee it is
pub record AreOpposite (callees callers : List (List ℕ)) : Type 0 where
  pub few : length callees < 2 ^ 32
  pub lengths : length callers ≡ length callees
  pub exist : (f g : ℕ) → Calls callees f g → g < length callees
  pub called : (f g : ℕ) → Calls callees f g → CallsTo callers f g
  pub calling : (f g : ℕ) → CallsTo callers f g → Calls callees f g

abbrev pub AreNodes : List Node → Type 0
AreNodes nodes = AreOpposite (callees_of nodes) (callers_of nodes)
