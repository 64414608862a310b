-- The rows of points, and the live sets that are made of them.
use Rattle.std.proofs.Common.{◌≡◌, ℕ, suc, ◌+◌, ◌<◌, ◌≤◌, List, [], length, map, Bool, true, IsTrue, ◌↔◌, ◌⊎◌, inl, inr, refl, sym, ap, ◌∙◌, subst, arith}
use Rattle.std.proofs.lemmas.List.{length-map}
use Rattle.std.proofs.lemmas.Option.{slice_get_past}
use Rattle.cerco_traces.specs.LabelledGraphs.{In}
use Rattle.rtl.specs.declared.locations.Vreg.{Vreg}
use Rattle.rtl.specs.declared.live_sets.LiveSets.{LiveSets}
use Rattle.rtl.specs.Operations.{ByteOp}
use Rattle.rtl.specs.Programs.{Graph}
use Rattle.rtl.specs.Locations.{vreg_number}
use Rattle.rtl.specs.Effects.{Storage, Loc, Carry}
use Rattle.rtl.specs.Graphs.{ops_at, renamed_op, renamed_node, renamed_graph}
use Rattle.rtl.specs.LiveSets.{points_of, point_of, vregs_before, carry_before}
use Rattle.rtl.specs.Liveness.{Live, used, kept, used_by_exit, onward, LiveBefore, AreRising, AreLiveSets}
use Rattle.rtl.proofs.Renamings.{node_renamed}
use Rattle.liveness.specs.declared.ways.Ways.{Ways}
use Rattle.liveness.specs.declared.points.Point.{Point}
use Rattle.liveness.specs.declared.points.Points.{Points}
use Rattle.liveness.specs.declared.flow.Flow.{Flow}
use Rattle.liveness.specs.Code.Rows.{ways_in, ways_of, AllBelow}
use Rattle.liveness.specs.Code.Reach.{is_marked, Reached, AreClear, AreSet}
use Rattle.liveness.specs.Code.Views.{occurrences_of}
use Rattle.liveness.specs.Code.Points.{point_at, count, front, left, ArePoints}
use Rattle.liveness.specs.Code.Flow.{UsesAt, IsUsed, IsStopped, IsLive, IsFlow, IsRow, AreRows, AreRowsOf}
use Rattle.liveness.proofs.Reaching.{set_from_clear}
use Rattle.liveness.proofs.LivePoints.{next_point, first_point, reached_live, live_reached, no_ops, live_nowhere}

low_or_past : (v k : ℕ) → (v < k) ⊎ (k ≤ v)
low_or_past v k = grind arith

pub ways_past : (ways : List Ways) (x : ℕ) → length ways ≤ x → ways_of ways x ≡ []
ways_past ways x le = ap ways_in (slice_get_past ways x le)

-- the ways of all points lead to points
pub back_below : (g : Graph ℕ) (flow : Flow) → IsFlow g flow → (i : ℕ) → AllBelow (ways_of flow.back.items i) (count flow.points)
back_below g flow is i j h = (is.back.only i j h).0

pub uses_below : (g : Graph ℕ) (flow : Flow) → IsFlow g flow → (s : Storage) → AllBelow (occurrences_of flow.uses s) (count flow.points)
uses_below g flow is s i h = (is.uses.only s i h).0

pub stops_below : (g : Graph ℕ) (flow : Flow) → IsFlow g flow → (s : Storage) → AllBelow (occurrences_of flow.stops s) (count flow.points)
stops_below g flow is s i h = (is.stops.only s i h).0

-- what is reached from the uses of s past its writings
pub exact_points : (g : Graph ℕ) (flow : Flow) (s : Storage) (m walls : List Bool) (list : List ℕ) → IsFlow g flow → AreClear m (count flow.points) → AreSet m (occurrences_of flow.stops s) true walls → ((i : ℕ) → In i list ↔ Reached (occurrences_of flow.uses s) (ways_of flow.back.items) walls i) → (i : ℕ) → In i list ↔ ((i < count flow.points) × IsLive g flow.points i s)
exact_points g flow s m walls list is clear set exact i = (
  (λ h. reached_live g flow.points is.points s (occurrences_of flow.uses s) (ways_of flow.back.items) walls (is.uses.only s) (is.uses.every s) is.back walls_only walls_all i ((exact i).0 h)),
  λ h. (exact i).1 (live_reached g flow.points is.points s (occurrences_of flow.uses s) (ways_of flow.back.items) walls (is.uses.only s) (is.uses.every s) is.back walls_only walls_all i h.0 h.1),
)
  where
    walls_only : (i : ℕ) → is_marked walls i ≡ true → IsStopped g flow.points i s
    walls_only i e = (is.stops.only s i (set_from_clear m walls (occurrences_of flow.stops s) (count flow.points) clear set i e)).1

    walls_all : (i : ℕ) → i < count flow.points → IsStopped g flow.points i s → is_marked walls i ≡ true
    walls_all i lt stop = set.inside i (is.stops.every s i lt stop)

-- ---- what is live is used somewhere

module _ (g : Graph ℕ) (points : Points) (are : ArePoints g (length g.nodes) points) (s : Storage) where
  abbrev IsSomewhere : Type 0
  IsSomewhere = (j : ℕ) × (j < count points) × IsUsed g points j s

  pub used_somewhere : (p : ℕ) (ops : List (ByteOp ℕ)) → Live 0 g s p ops → (i : ℕ) → i < count points → (point_at points i).node ≡ p → left g (point_at points i) ≡ ops → IsSomewhere
  used_somewhere p ops (used p' op ops' u) i lt e e' = (i, lt, subst (UsesAt g s (point_at points i).node) (sym e') u)
  used_somewhere p ops (used_by_exit p' u) i lt e e' = (i, lt, subst (UsesAt g s (point_at points i).node) (sym e') (subst (λ z. UsesAt g s z []) (sym e) u))
  used_somewhere p ops (kept p' op ops' out live) i lt e e' =
      let f = next_point g points are i op ops' lt e' in
      used_somewhere p ops' live (suc i) f.0 (f.1 ∙ e) f.2
  used_somewhere p ops (onward p' q out goes live) i lt e e' = by_place (λ k lt' at is. used_somewhere q (ops_at g q) live k lt' at is) (low_or_past q (length g.nodes))
    where
      by_place : ((k : ℕ) → k < count points → (point_at points k).node ≡ q → left g (point_at points k) ≡ ops_at g q → IsSomewhere) → (q < length g.nodes) ⊎ (length g.nodes ≤ q) → IsSomewhere
      by_place later (inl below) = let f = first_point g points are q below in later (front points q) f.0 f.1 f.2
      by_place later (inr far) = absurd (live_nowhere g s q (ops_at g q) far (no_ops g q far) live)

live_is_named : (g : Graph ℕ) (flow : Flow) → IsFlow g flow → (i v : ℕ) → i < count flow.points → IsLive g flow.points i (Loc v) → v < length flow.uses.vregs.items
live_is_named g flow is i v lt live =
    let u = used_somewhere g flow.points is.points (Loc v) (point_at flow.points i).node (left g (point_at flow.points i)) live i lt refl refl in
    by_place u.0 (is.uses.every (Loc v) u.0 u.1 u.2) (low_or_past v (length flow.uses.vregs.items))
  where
    by_place : (j : ℕ) → In j (ways_of flow.uses.vregs.items v) → (v < length flow.uses.vregs.items) ⊎ (length flow.uses.vregs.items ≤ v) → v < length flow.uses.vregs.items
    by_place j h (inl below) = below
    by_place j h (inr past) = absurd (subst (In j) (ways_past flow.uses.vregs.items v past) h)

-- ---- live sets

module _ (h : Graph Vreg) (sets : LiveSets) (flow : Flow) (rows : List Ways) (carry : List Bool) where
  abbrev g : Graph ℕ
  g = renamed_graph vreg_number h

  ops_long : (p : ℕ) → length (ops_at g p) ≡ length (ops_at h p)
  ops_long p = ap (λ n. length n.ops) (node_renamed vreg_number h p) ∙ length-map (ops_at h p) (renamed_op vreg_number)

  module _ (is : IsFlow g flow) (are : AreRowsOf g flow rows carry) (long : length sets.nodes ≡ length h.nodes) (each : (p : ℕ) → p < length h.nodes → AreRows rows carry (front flow.points p) (length (ops_at g p) + 1) (points_of sets p)) where
    row : (p k : ℕ) → p < length h.nodes → k ≤ length (ops_at h p) → IsRow rows carry (front flow.points p + k) (point_of sets p k)
    row p k lt le = (each p lt).each k (let e = ops_long p in omega (arith, le, e))

    there : (p k : ℕ) → p < length h.nodes → k ≤ length (ops_at h p) → (front flow.points p + k < count flow.points) × (point_at flow.points (front flow.points p + k) ≡ record { node = p; op = k })
    there p k lt le =
        let e = ops_long p in
        let l = length-map h.nodes (renamed_node vreg_number) in
        is.points.each p k (omega (arith, lt, l)) (omega (arith, le, e))

    live_at : (p k : ℕ) (s : Storage) → p < length h.nodes → k ≤ length (ops_at h p) → IsLive g flow.points (front flow.points p + k) s → LiveBefore 0 g s p k
    live_at p k s lt le l = subst (λ (pt : Point). Live 0 g s pt.node (left g pt)) (there p k lt le).1 l

    at_live : (p k : ℕ) (s : Storage) → p < length h.nodes → k ≤ length (ops_at h p) → LiveBefore 0 g s p k → IsLive g flow.points (front flow.points p + k) s
    at_live p k s lt le l = subst (λ (pt : Point). Live 0 g s pt.node (left g pt)) (sym (there p k lt le).1) l

    vreg_sound : (p k v : ℕ) → p < length h.nodes → k ≤ length (ops_at h p) → In v (map vreg_number (vregs_before sets p k)) → LiveBefore 0 g (Loc v) p k
    vreg_sound p k v lt le i = live_at p k (Loc v) lt le (are.vregs.only (front flow.points p + k) v (subst (In v) (row p k lt le).vregs i)).1.1

    vreg_complete : (p k v : ℕ) → p < length h.nodes → k ≤ length (ops_at h p) → LiveBefore 0 g (Loc v) p k → In v (map vreg_number (vregs_before sets p k))
    vreg_complete p k v lt le l =
        let i = front flow.points p + k in
        let within = (there p k lt le).0 in
        let live = at_live p k (Loc v) lt le l in
        subst (In v) (sym (row p k lt le).vregs) (are.vregs.every i v (live_is_named g flow is i v within live) (within, live))

    carry_sound : (p k : ℕ) → p < length h.nodes → k ≤ length (ops_at h p) → IsTrue (carry_before sets p k) → LiveBefore 0 g Carry p k
    carry_sound p k lt le t = live_at p k Carry lt le ((are.carry_live (front flow.points p + k)).0 (sym (row p k lt le).carry_is ∙ t)).1

    carry_complete : (p k : ℕ) → p < length h.nodes → k ≤ length (ops_at h p) → LiveBefore 0 g Carry p k → IsTrue (carry_before sets p k)
    carry_complete p k lt le l = (row p k lt le).carry_is ∙ (are.carry_live (front flow.points p + k)).1 ((there p k lt le).0, at_live p k Carry lt le l)

    next_is : (n : ℕ) → n + 1 ≡ suc n
    next_is n = omega arith

    pub are_live_sets : AreLiveSets 0 h sets
    are_live_sets = record {
      nodes = long;
      points = λ p lt. (each p lt).long ∙ ap (λ n. n + 1) (ops_long p) ∙ next_is (length (ops_at h p));
      vregs = λ p k v lt le. (vreg_sound p k v lt le, vreg_complete p k v lt le);
      carry = λ p k lt le. (carry_sound p k lt le, carry_complete p k lt le);
      rising = λ p k lt le. subst AreRising (sym (row p k lt le).vregs) (are.rising (front flow.points p + k));
    }

-- ---- marks

pub carry_marks : (m carry : List Bool) (list : List ℕ) (n : ℕ) (P : ℕ → Type 0) → AreClear m n → AreSet m list true carry → ((i : ℕ) → In i list ↔ P i) → (i : ℕ) → is_marked carry i ≡ true ↔ P i
carry_marks m carry list n P clear set exact i = ((λ e. (exact i).0 (set_from_clear m carry list n clear set i e)), λ p. set.inside i ((exact i).1 p))
