-- The lists of points after a point, and rows that are made one by one.
use Rattle.std.proofs.Common.{◌≡◌, ℕ, zero, suc, ◌+◌, ◌<◌, ◌≤◌, List, [], ◌∷◌, ◌++◌, length, map, drop, Some, slice_get, ◌⊎◌, ◌↔◌, inl, inr, refl, sym, ap, ◌∙◌, subst, arith, add-one}
use Rattle.cerco_traces.specs.LabelledGraphs.{In}
use Rattle.rtl.specs.declared.locations.Vreg.{Vreg}
use Rattle.rtl.specs.declared.graphs.Node.{Node as WrittenNode}
use Rattle.rtl.specs.declared.graphs.Graph.{Graph as WrittenGraph}
use Rattle.rtl.specs.Operations.{ByteOp}
use Rattle.rtl.specs.Graphs.{ops_at, exit_at}
use Rattle.liveness.specs.declared.ways.Ways.{Ways}
use Rattle.liveness.specs.declared.points.Point.{Point}
use Rattle.liveness.specs.declared.points.Points.{Points}
use Rattle.liveness.specs.Code.Rows.{ways_of}
use Rattle.liveness.specs.Code.Views.{numbered_exit, numbered_graph}
use Rattle.liveness.specs.Code.Points.{point_at, front, left}
use Rattle.liveness.specs.Code.Flow.{after, LeadsAt, LeadsOn}
use Rattle.liveness.proofs.Lists.{below_suc, not_below_zero, in_one}
use Rattle.liveness.proofs.ExitLists.{after_only, after_all}
use Rattle.liveness.proofs.Nodes.{ops_long, exit_is, left_none}

drop_cons : (k : ℕ) (xs : List (ByteOp ℕ)) → k < length xs → (x : ByteOp ℕ) × (rest : List (ByteOp ℕ)) × (drop k xs ≡ x ∷ rest)
drop_cons zero [] lt = absurd (not_below_zero 0 lt)
drop_cons zero (x ∷ xs) lt = (x, xs, refl)
drop_cons (suc k) [] lt = absurd (not_below_zero (suc k) lt)
drop_cons (suc k) (x ∷ xs) lt = drop_cons k xs (omega (arith, lt))

map_only : (f : ℕ → ℕ) (xs : List ℕ) (j : ℕ) → In j (map f xs) → (q : ℕ) × In q xs × (f q ≡ j)
map_only f [] j i = absurd i
map_only f (x ∷ xs) j (inl e) = (x, inl refl, e)
map_only f (x ∷ xs) j (inr i) = let r = map_only f xs j i in (r.0, inr r.1, r.2)

map_all : (f : ℕ → ℕ) (xs : List ℕ) (q : ℕ) → In q xs → In (f q) (map f xs)
map_all f [] q i = absurd i
map_all f (x ∷ xs) q (inl e) = inl (ap f e)
map_all f (x ∷ xs) q (inr i) = inr (map_all f xs q i)

module _ (g : WrittenGraph Vreg) (points : Points) (i : ℕ) (pt : Point) (n : WrittenNode Vreg) (is : point_at points i ≡ pt) (found : slice_get g.nodes pt.node ≡ Some n) where
  abbrev Leads : ℕ → Point → Type 0
  Leads j z = LeadsAt (numbered_graph g) points i j z.node (left (numbered_graph g) z)

  pub leads_op : (xs : List ℕ) → pt.op < length n.ops → xs ≡ (i + 1) ∷ [] → (j : ℕ) → In j xs ↔ LeadsOn (numbered_graph g) points i j
  leads_op xs lt e j = subst (λ z. In j xs ↔ Leads j z) (sym is) (subst (λ ys. In j ys ↔ Leads j pt) (sym (e ∙ ap (λ k. k ∷ []) (add-one i))) here)
    where
      there : (x : ByteOp ℕ) × (rest : List (ByteOp ℕ)) × (left (numbered_graph g) pt ≡ x ∷ rest)
      there = drop_cons pt.op (ops_at (numbered_graph g) pt.node) (let l = ops_long g pt.node n found in omega (arith, lt, l))

      here : In j (suc i ∷ []) ↔ Leads j pt
      here = subst (λ ops. In j (suc i ∷ []) ↔ LeadsAt (numbered_graph g) points i j pt.node ops) (sym there.2) ((λ h. in_one j (suc i) h), λ h. inl h)

  pub leads_exit : (xs : List ℕ) → length n.ops ≤ pt.op → xs ≡ map (front points) (after (numbered_exit n.exit) (length points.fronts.items)) → (j : ℕ) → In j xs ↔ LeadsOn (numbered_graph g) points i j
  leads_exit xs le e j = subst (λ z. In j xs ↔ Leads j z) (sym is) (subst (λ ys. In j ys ↔ Leads j pt) (sym (e ∙ ap (λ x. map (front points) (after x (length points.fronts.items))) (sym (exit_is g pt.node n found)))) here)
    where
      only : In j (map (front points) (after (exit_at (numbered_graph g) pt.node) (length points.fronts.items))) → LeadsAt (numbered_graph g) points i j pt.node []
      only h =
          let r = map_only (front points) (after (exit_at (numbered_graph g) pt.node) (length points.fronts.items)) j h in
          let a = after_only (exit_at (numbered_graph g) pt.node) (length points.fronts.items) r.0 r.1 in
          (r.0, a.0, a.1, r.2)

      all : LeadsAt (numbered_graph g) points i j pt.node [] → In j (map (front points) (after (exit_at (numbered_graph g) pt.node) (length points.fronts.items)))
      all l = subst (λ j. In j (map (front points) (after (exit_at (numbered_graph g) pt.node) (length points.fronts.items)))) l.3 (map_all (front points) (after (exit_at (numbered_graph g) pt.node) (length points.fronts.items)) l.0 (after_all (exit_at (numbered_graph g) pt.node) (length points.fronts.items) l.0 l.1 l.2))

      here : In j (map (front points) (after (exit_at (numbered_graph g) pt.node) (length points.fronts.items))) ↔ Leads j pt
      here = subst (λ ops. In j (map (front points) (after (exit_at (numbered_graph g) pt.node) (length points.fronts.items))) ↔ LeadsAt (numbered_graph g) points i j pt.node ops) (sym (left_none g pt n found le)) (only, all)

-- ---- rows made one by one

last_row : (ways : List Ways) (new : Ways) (x : ℕ) → x ≡ length ways → ways_of (ways ++ new ∷ []) x ≡ new.to.items
last_row [] new zero e = refl
last_row [] new (suc x) e = absurd (omega (arith, e))
last_row (w ∷ ws) new zero e = absurd (let n = length ws in omega (arith, e))
last_row (w ∷ ws) new (suc x) e = last_row ws new x (omega (arith, e))

old_row : (ways : List Ways) (new : Ways) (x : ℕ) → x < length ways → ways_of (ways ++ new ∷ []) x ≡ ways_of ways x
old_row [] new x lt = absurd (not_below_zero x lt)
old_row (w ∷ ws) new zero lt = refl
old_row (w ∷ ws) new (suc x) lt = old_row ws new x (omega (arith, lt))

pub rows_more : (P : ℕ → List ℕ → Type 0) (ways : List Ways) (new : Ways) (n : ℕ) → length ways ≡ n → ((x : ℕ) → x < n → P x (ways_of ways x)) → P n new.to.items → (x : ℕ) → x < n + 1 → P x (ways_of (ways ++ new ∷ []) x)
rows_more P ways new n long before now x lt = by_place (below_suc x n lt)
  where
    by_place : (x < n) ⊎ (n ≡ x) → P x (ways_of (ways ++ new ∷ []) x)
    by_place (inl below) = subst (P x) (sym (old_row ways new x (omega (arith, below, long)))) (before x below)
    by_place (inr e) = subst (P x) (sym (last_row ways new x (sym e ∙ sym long))) (subst (λ z. P z new.to.items) e now)
