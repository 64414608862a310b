-- What the steps of the code make of a graph and its live sets.
use Rattle.std.proofs.Common.{Result, Ok, Err, IfOk, ◌≡◌, ℕ, ◌+◌, ◌<◌, ◌≤◌, ◌↔◌, List, length, map, Bool, true, sym, ap, ◌∙◌, subst}
use Rattle.std.proofs.lemmas.List.{length-map}
use Rattle.cerco_traces.specs.LabelledGraphs.{In}
use Rattle.rtl.specs.declared.locations.Vreg.{Vreg}
use Rattle.rtl.specs.declared.graphs.Node.{Node as WrittenNode}
use Rattle.rtl.specs.declared.graphs.Graph.{Graph as WrittenGraph}
use Rattle.rtl.specs.declared.live_sets.LiveSets.{LiveSets}
use Rattle.rtl.specs.Locations.{vreg_number}
use Rattle.rtl.specs.Graphs.{renamed_graph}
use Rattle.rtl.specs.Liveness.{AreLiveSets}
use Rattle.rtl.specs.Interference.{IsGreedyColouring}
use Rattle.rtl.specs.WellFormed.{locations_in}
use Rattle.rtl.specs.Code.Views.{node_of, graph_of}
use Rattle.colouring.specs.declared.greedy.Row.{Row}
use Rattle.colouring.specs.declared.greedy.Colouring.{Colouring}
use Rattle.colouring.specs.Colours.{place_by, CellsAreCounted}
use Rattle.colouring.specs.Code.Rows.{near_of, mark_at, AreGiven}
use Rattle.colouring.specs.Code.Neighbours.{AtNodes, IsGoneTo, IsAfterCallOf, AreReady, AreRowsBy, EntriesBelow}
use Rattle.colouring.proofs.GraphRows.{ready_for, coloured, cells_counted}

-- two promises of one result
both_ok : {T E : Type 0} (r : Result T E) (P Q R : T → Type 0) → ((x : T) → P x → Q x → R x) → IfOk r P → IfOk r Q → IfOk r R
both_ok (Ok x) P Q R f p q = f x p q
both_ok (Err e) P Q R f p q = tt

module _
    (graph : WrittenGraph Vreg) (sets : LiveSets) (live : AreLiveSets 0 (graph_of graph) sets) (n : ℕ) (named : (v : ℕ) → In v (map vreg_number (locations_in (graph_of graph))) → v < n) (nodes : List (WrittenNode Vreg)) (same : nodes ≡ graph.nodes) where
  as_many : length nodes ≡ length (map node_of graph.nodes)
  as_many = ap length same ∙ sym (length-map graph.nodes node_of)

  pub graph_ready : AreReady n (map node_of nodes) sets
  graph_ready = ready_for (graph_of graph) sets live n named (map node_of nodes) (length nodes) (ap (map node_of) same) as_many

  pub entries_below : EntriesBelow n sets
  entries_below q = graph_ready.live q 0

  module _
      (calls marks calls' marks' : List Bool) (rows rows' : List Row) (c : calls' ≡ calls) (m : marks' ≡ marks) (r : rows' ≡ rows) (long : length rows ≡ n) (after : (v : ℕ) → (mark_at calls v ≡ true) ↔ IsAfterCallOf (map node_of nodes) sets (length nodes) v)
      (gone : (q : ℕ) → mark_at marks q ≡ true → IsGoneTo (map node_of nodes) (length nodes) q) (pairs : AreRowsBy (AtNodes marks' (map node_of nodes) sets (length nodes)) rows) {E : Type 0} (result : Result Colouring E)
      (enough : IfOk result (λ made. length rows' ≤ length made.colours)) (given : IfOk result (λ made. AreGiven (near_of rows') (mark_at calls') made.colours (12 + made.cells))) where
    long' : length rows' ≡ n
    long' = ap length r ∙ long

    after' : (v : ℕ) → (mark_at calls' v ≡ true) ↔ IsAfterCallOf (map node_of nodes) sets (length nodes) v
    after' v = subst (λ z. (mark_at z v ≡ true) ↔ IsAfterCallOf (map node_of nodes) sets (length nodes) v) (sym c) (after v)

    gone' : (q : ℕ) → mark_at marks' q ≡ true → IsGoneTo (map node_of nodes) (length nodes) q
    gone' q = subst (λ z. mark_at z q ≡ true → IsGoneTo (map node_of nodes) (length nodes) q) (sym m) (gone q)

    pairs' : AreRowsBy (AtNodes marks' (map node_of nodes) sets (length nodes)) rows'
    pairs' = subst (AreRowsBy (AtNodes marks' (map node_of nodes) sets (length nodes))) (sym r) pairs

    pub is_greedy : IfOk result (λ made. IsGreedyColouring (renamed_graph vreg_number (graph_of graph)) (place_by made.colours))
    is_greedy =
        both_ok result (λ made. length rows' ≤ length made.colours) (λ made. AreGiven (near_of rows') (mark_at calls') made.colours (12 + made.cells)) (λ made. IsGreedyColouring (renamed_graph vreg_number (graph_of graph)) (place_by made.colours))
        (λ made many first. coloured (graph_of graph) sets live n named (map node_of nodes) (length nodes) (ap (map node_of) same) as_many calls' marks' rows' long' after' gone' pairs' made.colours made.cells many first) enough given

    pub are_counted : IfOk result (λ made. CellsAreCounted (map vreg_number (locations_in (graph_of graph))) made.colours made.cells)
    are_counted =
        both_ok result (λ made. length rows' ≤ length made.colours) (λ made. AreGiven (near_of rows') (mark_at calls') made.colours (12 + made.cells)) (λ made. CellsAreCounted (map vreg_number (locations_in (graph_of graph))) made.colours made.cells)
        (λ made many first. cells_counted (graph_of graph) sets live n named (map node_of nodes) (length nodes) (ap (map node_of) same) as_many calls' marks' rows' long' after' gone' pairs' made.colours made.cells many first) enough given
