-- The tables of a graph are its tables, and the rows that are made of them one by one.
use Rattle.std.proofs.Common.{◌≡◌, ℕ, ◌+◌, ◌<◌, ◌≤◌, ◌^◌, List, [], ◌∷◌, ◌++◌, length, slice_index_or, ◌⊎◌, ◌↔◌, inl, inr, refl, sym, ap, ◌∙◌, subst, arith}
use Rattle.std.proofs.lemmas.List.{get_or_append_left}
use Rattle.std.proofs.Math.Seq.{get_or-append_seam}
use Rattle.cerco_traces.specs.LabelledGraphs.{In}
use Rattle.rtl.specs.declared.locations.Vreg.{Vreg}
use Rattle.rtl.specs.declared.graphs.Graph.{Graph as WrittenGraph}
use Rattle.rtl.specs.Operations.{ByteOp}
use Rattle.rtl.specs.Programs.{Graph}
use Rattle.rtl.specs.Effects.{Loc}
use Rattle.rtl.specs.Liveness.{AreRising}
use Rattle.liveness.specs.declared.ways.Ways.{Ways}
use Rattle.liveness.specs.declared.points.Points.{Points}
use Rattle.liveness.specs.declared.flow.Flow.{Flow}
use Rattle.liveness.specs.Code.Rows.{ways_of, AllBelow, AddedTo, AddedOnce, AreTurned}
use Rattle.liveness.specs.Code.Views.{numbered_graph, occurrences_of}
use Rattle.liveness.specs.Code.Points.{point_at, count, left, ArePoints}
use Rattle.liveness.specs.Code.Flow.{LeadsAt, LeadsOn, IsUsed, IsStopped, IsLive, IsFlow, HasGraph}
use Rattle.liveness.proofs.Lists.{below_suc}
use Rattle.liveness.proofs.Turned.{turned_as, turned_next, added_as, rising_next}
use Rattle.liveness.proofs.LivePoints.{next_point, first_point}
use Rattle.liveness.proofs.LiveRows.{ways_past}
use Rattle.liveness.proofs.Nodes.{nodes_long}

low_or_past : (v k : ℕ) → (v < k) ⊎ (k ≤ v)
low_or_past v k = grind arith

module _ (g : Graph ℕ) (points : Points) (are : ArePoints g (length g.nodes) points) where
  leads_below : (i j : ℕ) (ops : List (ByteOp ℕ)) → i < count points → left g (point_at points i) ≡ ops → LeadsAt g points i j (point_at points i).node ops → j < count points
  leads_below i j [] lt is l = subst (λ j. j < count points) l.3 (first_point g points are l.0 (subst (λ n. l.0 < n) are.long l.1)).0
  leads_below i j (op ∷ ops) lt is e = subst (λ j. j < count points) e (next_point g points are i op ops lt is).0

  pub forward_below : (ways : List Ways) → length ways ≡ count points → ((i j : ℕ) → i < count points → In j (ways_of ways i) ↔ LeadsOn g points i j) → (i : ℕ) → AllBelow (ways_of ways i) (count points)
  forward_below ways long each i j h = by_place (low_or_past i (count points))
    where
      by_place : (i < count points) ⊎ (count points ≤ i) → j < count points
      by_place (inl lt) = leads_below i j (left g (point_at points i)) lt refl ((each i j lt).0 h)
      by_place (inr past) = absurd (subst (In j) (ways_past ways i (omega (arith, long, past))) h)

-- the points of the code's graph, as those of its view
pub are_points : (g : WrittenGraph Vreg) (points : Points) → ArePoints (numbered_graph g) (length g.nodes) points → ArePoints (numbered_graph g) (length (numbered_graph g).nodes) points
are_points g points are = subst (λ n. ArePoints (numbered_graph g) n points) (sym (nodes_long g)) are

pub flow_is : (g : WrittenGraph Vreg) (flow : Flow) (ways : List Ways) → ArePoints (numbered_graph g) (length g.nodes) flow.points → length ways ≡ count flow.points → ((i j : ℕ) → i < count flow.points → In j (ways_of ways i) ↔ LeadsOn (numbered_graph g) flow.points i j) → length flow.back.items ≡ length ways → AreTurned (λ y x. In x (ways_of ways y)) (length ways) (ways_of flow.back.items) → AreTurned (IsUsed (numbered_graph g) flow.points) (count flow.points) (occurrences_of flow.uses) → length flow.uses.vregs.items ≤ 2 ^ 32 → AreTurned (IsStopped (numbered_graph g) flow.points) (count flow.points) (occurrences_of flow.stops) → IsFlow (numbered_graph g) flow
flow_is g flow ways are long each back_long turned uses few stops = record {
  points = are_points g flow.points are;
  back = turned_as (λ y x. In x (ways_of ways y)) (LeadsOn (numbered_graph g) flow.points) (length ways) (count flow.points) (ways_of flow.back.items) long (λ y x lt. each y x lt) turned;
  long = back_long ∙ long;
  uses = uses;
  few = few;
  stops = stops;
}

-- ---- rows of virtual registers

abbrev pub AreLiveRows : Flow → ℕ → List Ways → Type 0
AreLiveRows flow v rows = (g : Graph ℕ) → IsFlow g flow → AreTurned (λ v i. (i < count flow.points) × IsLive g flow.points i (Loc v)) v (ways_of rows)

-- one virtual register more
pub live_rows_next : (flow : Flow) (v : ℕ) (rows rows' : List Ways) (list : List ℕ) → AreLiveRows flow v rows → ((g : Graph ℕ) → IsFlow g flow → (i : ℕ) → In i list ↔ ((i < count flow.points) × IsLive g flow.points i (Loc v))) → AddedTo (ways_of rows) (λ i. In i list) v (ways_of rows') → AreLiveRows flow (v + 1) rows'
live_rows_next flow v rows rows' list before exact a g is =
    turned_next (λ v i. (i < count flow.points) × IsLive g flow.points i (Loc v)) v (ways_of rows) (ways_of rows') (before g is)
    (added_as (ways_of rows) (ways_of rows') (λ i. In i list) (λ i. (i < count flow.points) × IsLive g flow.points i (Loc v)) v (λ i h. (exact g is i).0 h) (λ i p. (exact g is i).1 p) a)

pub still_rising : (flow : Flow) (v : ℕ) (rows rows' : List Ways) → HasGraph flow → AreLiveRows flow v rows → ((i : ℕ) → AreRising (ways_of rows i)) → AddedOnce (ways_of rows) v (ways_of rows') → (i : ℕ) → AreRising (ways_of rows' i)
still_rising flow v rows rows' has before rising once = rising_next (ways_of rows) (ways_of rows') v rising (λ x y h. ((before has.0 has.1).only x y h).0) once

-- ---- lists made one by one

-- what is so of each item is so with one more at the end
pub each_more : {X : Type 0} (P : ℕ → X → Type 0) (xs : List X) (x d : X) (n : ℕ) → length xs ≡ n → ((k : ℕ) → k < n → P k (slice_index_or xs k d)) → P n x → (k : ℕ) → k < n + 1 → P k (slice_index_or (xs ++ x ∷ []) k d)
each_more P xs x d n long before now k lt = by_place (below_suc k n lt)
  where
    by_place : (k < n) ⊎ (n ≡ k) → P k (slice_index_or (xs ++ x ∷ []) k d)
    by_place (inl below) = subst (P k) (sym (get_or_append_left xs (x ∷ []) d k (omega (arith, below, long)))) (before k below)
    by_place (inr e) =
        let last : slice_index_or (xs ++ x ∷ []) k d ≡ x = ap (λ i. slice_index_or (xs ++ x ∷ []) i d) (sym e ∙ sym long) ∙ get_or-append_seam xs x [] d in
        subst (P k) (sym last) (subst (λ i. P i x) e now)
