-- The live sets of the code's graph, from its tables and rows.
use Rattle.std.proofs.Common.{◌≡◌, ℕ, ◌+◌, ◌<◌, ◌^◌, List, [], length, Bool, slice_index_or, get_or, sym, ◌∙◌, subst, arith}
use Rattle.std.proofs.lemmas.List.{length-map}
use Rattle.rtl.specs.declared.locations.Vreg.{Vreg}
use Rattle.rtl.specs.declared.graphs.Graph.{Graph as WrittenGraph}
use Rattle.rtl.specs.declared.live_sets.LiveSets.{LiveSets}
use Rattle.rtl.specs.Programs.{Graph}
use Rattle.rtl.specs.Graphs.{ops_at}
use Rattle.rtl.specs.Code.Views.{node_of, graph_of}
use Rattle.rtl.specs.Liveness.{AreLiveSets}
use Rattle.liveness.specs.declared.ways.Ways.{Ways}
use Rattle.liveness.specs.declared.points.Points.{Points}
use Rattle.liveness.specs.declared.flow.Flow.{Flow}
use Rattle.liveness.specs.Code.Rows.{ways_of, AllBelow}
use Rattle.liveness.specs.Code.Views.{numbered_graph}
use Rattle.liveness.specs.Code.Points.{front, ArePoints}
use Rattle.liveness.specs.Code.Flow.{IsFlow, AreRows, AreRowsOf}
use Rattle.liveness.proofs.Lists.{read_is}
use Rattle.liveness.proofs.Nodes.{nodes_long}
use Rattle.liveness.proofs.LiveRows.{are_live_sets}

pub rows_below : (g : Graph ℕ) (flow : Flow) (rows : List Ways) (carry : List Bool) → IsFlow g flow → AreRowsOf g flow rows carry → (i : ℕ) → AllBelow (ways_of rows i) (2 ^ 32)
rows_below g flow rows carry is are i x h =
    let lt = (are.vregs.only i x h).0 in
    let few = is.few in
    omega (arith, lt, few)

-- the first point of a node, as it is read, and how many points come before the node's last one
module _ (graph : WrittenGraph Vreg) (points : Points) (are : ArePoints (numbered_graph graph) (length (numbered_graph graph).nodes) points) (p first : ℕ) (within : p < length graph.nodes) (read : first ≡ get_or points.fronts.items p first) where
  pub front_read : front points p ≡ first
  front_read = read_is points.fronts.items p first 0 (let l = are.long in let m = nodes_long graph in omega (arith, within, l, m)) read

  pub few_points : (n : ℕ) → n ≡ length (ops_at (numbered_graph graph) p) → first + n + 1 < 2 ^ 64
  few_points n long =
      let m = nodes_long graph in
      let ops = length (ops_at (numbered_graph graph) p) in
      let there = (are.each p ops (omega (arith, within, m)) (omega arith)).0 in
      let at = front_read in
      let ok = points.places.ok in
      let whole = ok.0 in
      let fits = ok.1 in
      let small = points.places.small in
      omega (arith, there, at, long, whole, fits, small)

pub live_of : (graph : WrittenGraph Vreg) (sets : LiveSets) (flow : Flow) (rows : List Ways) (carry : List Bool) → IsFlow (numbered_graph graph) flow → AreRowsOf (numbered_graph graph) flow rows carry → length sets.nodes ≡ length graph.nodes → ((q : ℕ) → q < length graph.nodes → AreRows rows carry (front flow.points q) (length (ops_at (numbered_graph graph) q) + 1) (slice_index_or sets.nodes q [])) → AreLiveSets 0 (graph_of graph) sets
live_of graph sets flow rows carry is are long each =
    let same = length-map graph.nodes node_of in
    are_live_sets (graph_of graph) sets flow rows carry is are (long ∙ sym same) (λ p lt. each p (subst (λ n. p < n) same lt))
