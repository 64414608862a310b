-- What a search reaches from the uses of a storage that are marked is where it is live by the marks; and what a turn does.
use Rattle.std.proofs.Common.{◌≡◌, ℕ, suc, ◌<◌, ◌≤◌, ◌⊎◌, inl, inr, ◌↔◌, List, [], ◌∷◌, length, Bool, true, false, IsTrue, refl, sym, ap, ◌∙◌, subst, arith}
use Rattle.cerco_traces.specs.LabelledGraphs.{In}
use Rattle.rtl.specs.Operations.{ByteOp}
use Rattle.rtl.specs.Programs.{Graph}
use Rattle.rtl.specs.Effects.{Storage, writes}
use Rattle.rtl.specs.Graphs.{ops_at}
use Rattle.rtl.specs.Liveness.{IsAmong, IsPoint, Live}
use Rattle.liveness.specs.declared.points.Points.{Points}
use Rattle.liveness.specs.Code.Rows.{AreTurned}
use Rattle.liveness.specs.Code.Reach.{is_marked, Reached, seed, onward as further}
use Rattle.liveness.specs.Code.Points.{point_at, count, front, left, ArePoints}
use Rattle.liveness.specs.Code.Flow.{UsesAt, StopsAt, LeadsAt, IsUsed, IsStopped, LeadsOn}
use Rattle.liveness.proofs.Reaching.{true_false}
use Rattle.liveness.proofs.LivePoints.{next_point, first_point, live_nowhere, no_ops}
use Rattle.pruned_graphs.specs.Searches.{Marks, LiveBy, used, kept, used_by_exit, onward, IsTurn}
use Rattle.pruned_graphs.proofs.Searching.{by_more_marks, live_by_all}
use Rattle.dropping.specs.Code.Marks.{ComesBefore, AreMarkedBefore}
use Rattle.dropping.specs.Code.Turns.{marks_of, ExitsAreMarked}
use Rattle.dropping.proofs.Points.{IsAt, is_at, mark_is, point_for, low_or_past}

-- what is live by marks is live
pub live_by_is_live : (g : Graph ℕ) (marked : Marks) (s : Storage) (p : ℕ) (ops : List (ByteOp ℕ)) → LiveBy 0 g marked s p ops → IsPoint g p ops → Live 0 g s p ops
live_by_is_live g marked s p ops live point = live_by_all 0 g s p ops (by_more_marks 0 g marked (λ q rest. true) (λ q op rest at mark. refl) s p ops live point)

module _ (g : Graph ℕ) (points : Points) (are : ArePoints g (length g.nodes) points) where
  -- the point after an operation
  pub after_it : (i p : ℕ) (op : ByteOp ℕ) (ops : List (ByteOp ℕ)) → IsAt g points are i p (op ∷ ops) → IsAt g points are (suc i) p ops
  after_it i p op ops at =
      let f = next_point g points are i op ops at.within at.left_is in
      record { within = f.0; node = f.1 ∙ at.node; left_is = f.2 }

  pub front_of : (q : ℕ) → q < length g.nodes → IsAt g points are (front points q) q (ops_at g q)
  front_of q lt = let f = first_point g points are q lt in record { within = f.0; node = f.1; left_is = f.2 }

  module _ (m : List Bool) (exits : ExitsAreMarked g points m) (s : Storage) where
    abbrev marked : Marks
    marked = marks_of g points m

    -- s is live by the marks at the point i
    abbrev pub IsLiveBy : ℕ → Type 0
    IsLiveBy i = LiveBy 0 g marked s (point_at points i).node (left g (point_at points i))

    pub live_there : (i p : ℕ) (ops : List (ByteOp ℕ)) → IsAt g points are i p ops → IsLiveBy i → LiveBy 0 g marked s p ops
    live_there i p ops at live = subst (LiveBy 0 g marked s p) at.left_is (subst (λ q. LiveBy 0 g marked s q (left g (point_at points i))) at.node live)

    pub live_here : (i p : ℕ) (ops : List (ByteOp ℕ)) → IsAt g points are i p ops → LiveBy 0 g marked s p ops → IsLiveBy i
    live_here i p ops at live = subst (λ q. LiveBy 0 g marked s q (left g (point_at points i))) (sym at.node) (subst (LiveBy 0 g marked s p) (sym at.left_is) live)

    module _ (seeds : List ℕ) (ways : ℕ → List ℕ) (walls : List Bool) (seeds_only : (i : ℕ) → In i seeds → (i < count points) × IsUsed g points i s × (is_marked m i ≡ true)) (seeds_all : (i : ℕ) → i < count points → IsUsed g points i s → is_marked m i ≡ true → In i seeds) (back : AreTurned (LeadsOn g points) (count points) ways) (walls_only : (i : ℕ) → is_marked walls i ≡ true → IsStopped g points i s) (walls_all : (i : ℕ) → i < count points → IsStopped g points i s → is_marked walls i ≡ true) where
      abbrev Comes : ℕ → Type 0
      Comes i = Reached seeds ways walls i

      seed_live : (i p : ℕ) (ops : List (ByteOp ℕ)) → IsAt g points are i p ops → UsesAt g s p ops → is_marked m i ≡ true → LiveBy 0 g marked s p ops
      seed_live i p [] at u e = used_by_exit p u
      seed_live i p (op ∷ ops) at u e = used p op ops (mark_is g points are m i p (op ∷ ops) at ∙ e) u

      passes : (j : ℕ) → j < count points → is_marked walls j ≡ false → IsStopped g points j s → ⊥
      passes j lt e stop = true_false (sym e ∙ walls_all j lt stop)

      back_live : (i j p : ℕ) (ops : List (ByteOp ℕ)) → IsAt g points are j p ops → LeadsAt g points j i p ops → (StopsAt g s p ops → ⊥) → IsLiveBy i → LiveBy 0 g marked s p ops
      back_live i j p [] at leads out live =
          let q = leads.0 in
          let within : q < length g.nodes = subst (λ n. q < n) are.long leads.1 in
          onward p q out leads.2 (live_there (front points q) q (ops_at g q) (front_of q within) (subst IsLiveBy (sym leads.3) live))
      back_live i j p (op ∷ ops) at leads out live = kept p op ops out (live_there (suc j) p ops (after_it j p op ops at) (subst IsLiveBy (sym leads) live))

      pub reached_live : (i : ℕ) → Comes i → (i < count points) × IsLiveBy i
      reached_live i (seed i' h) =
          let r = seeds_only i h in
          (r.0, seed_live i (point_at points i).node (left g (point_at points i)) (is_at g points are i r.0) r.1 r.2)
      reached_live j (further i j' r h o) =
          let w = back.only i j h in
          (w.0, back_live i j (point_at points j).node (left g (point_at points j)) (is_at g points are j w.0) w.1 (passes j w.0 o) (reached_live i r).1)

      unwalled : (j : ℕ) → (IsStopped g points j s → ⊥) → is_marked walls j ≡ false
      unwalled j out = by_mark (is_marked walls j) refl
        where
          by_mark : (b : Bool) → is_marked walls j ≡ b → is_marked walls j ≡ false
          by_mark true e = absurd (out (walls_only j e))
          by_mark false e = e

      uses_here : (i p : ℕ) (ops : List (ByteOp ℕ)) → IsAt g points are i p ops → UsesAt g s p ops → IsUsed g points i s
      uses_here i p ops at u = subst (λ q. UsesAt g s q (left g (point_at points i))) (sym at.node) (subst (UsesAt g s p) (sym at.left_is) u)

      stops_there : (i p : ℕ) (ops : List (ByteOp ℕ)) → IsAt g points are i p ops → IsStopped g points i s → StopsAt g s p ops
      stops_there i p ops at h = subst (StopsAt g s p) at.left_is (subst (λ q. StopsAt g s q (left g (point_at points i))) at.node h)

      leads_here : (i j p : ℕ) (ops : List (ByteOp ℕ)) → IsAt g points are i p ops → LeadsAt g points i j p ops → LeadsOn g points i j
      leads_here i j p ops at h = subst (λ q. LeadsAt g points i j q (left g (point_at points i))) (sym at.node) (subst (LeadsAt g points i j p) (sym at.left_is) h)

      from_live : (p : ℕ) (ops : List (ByteOp ℕ)) → LiveBy 0 g marked s p ops → (i : ℕ) → IsAt g points are i p ops → Comes i
      from_live p ops (used p' op ops' mark u) i at = seed i (seeds_all i at.within (uses_here i p' (op ∷ ops') at u) (sym (mark_is g points are m i p' (op ∷ ops') at) ∙ mark))
      from_live p ops (used_by_exit p' u) i at = seed i (seeds_all i at.within (uses_here i p' [] at u) (exits i at.within at.left_is))
      from_live p ops (kept p' op ops' out live) i at =
          further (suc i) i (from_live p' ops' live (suc i) (after_it i p' op ops' at))
          (back.every (suc i) i at.within (leads_here i (suc i) p' (op ∷ ops') at refl))
          (unwalled i (λ stop. out (stops_there i p' (op ∷ ops') at stop)))
      from_live p ops (onward p' q out goes live) i at = by_place (λ k there. from_live q (ops_at g q) live k there) (low_or_past q (length g.nodes))
        where
          within : ((k : ℕ) → IsAt g points are k q (ops_at g q) → Comes k) → q < length g.nodes → Comes i
          within later below =
              let leads : LeadsAt g points i (front points q) p' [] = (q, subst (λ n. q < n) (sym are.long) below, goes, refl) in
              further (front points q) i (later (front points q) (front_of q below))
              (back.every (front points q) i at.within (leads_here i (front points q) p' [] at leads))
              (unwalled i (λ stop. out (stops_there i p' [] at stop)))

          by_place : ((k : ℕ) → IsAt g points are k q (ops_at g q) → Comes k) → (q < length g.nodes) ⊎ (length g.nodes ≤ q) → Comes i
          by_place later (inl below) = within later below
          by_place later (inr far) = absurd (live_nowhere g s q (ops_at g q) far (no_ops g q far) (live_by_is_live g marked s q (ops_at g q) live ([], refl)))

      pub live_reached : (i : ℕ) → i < count points → IsLiveBy i → Comes i
      live_reached i lt live = from_live (point_at points i).node (left g (point_at points i)) live i (is_at g points are i lt)

    -- ---- the turn

    module _ (walls : List Bool) (list : List ℕ) (exact : (i : ℕ) → In i list ↔ ((i < count points) × IsLiveBy i)) (walls_only : (i : ℕ) → is_marked walls i ≡ true → IsStopped g points i s) (walls_all : (i : ℕ) → i < count points → IsStopped g points i s → is_marked walls i ≡ true) (new : List Bool) (before : AreMarkedBefore points walls (λ k. In k list) m new) where
      -- the point after an operation isn't the first one of its node
      not_first : (i p : ℕ) (op : ByteOp ℕ) (ops : List (ByteOp ℕ)) → IsAt g points are i p (op ∷ ops) → 0 < (point_at points (suc i)).op
      not_first i p op ops at =
          let next = after_it i p op ops at in
          let a = (are.only i at.within).2 in
          let b = (are.only (suc i) next.within).2 in
          let c : front points (point_at points (suc i)).node ≡ front points (point_at points i).node = ap (front points) (next.node ∙ sym at.node) in
          omega (arith, a, b, c)

      stops_at_it : (i p : ℕ) (op : ByteOp ℕ) (ops : List (ByteOp ℕ)) → IsAt g points are i p (op ∷ ops) → IsAmong s (writes op) → IsStopped g points i s
      stops_at_it i p op ops at w = subst (λ q. StopsAt g s q (left g (point_at points i))) (sym at.node) (subst (StopsAt g s p) (sym at.left_is) w)

      writes_it : (i p : ℕ) (op : ByteOp ℕ) (ops : List (ByteOp ℕ)) → IsAt g points are i p (op ∷ ops) → IsStopped g points i s → IsAmong s (writes op)
      writes_it i p op ops at h =
          let h' : StopsAt g s p (op ∷ ops) = subst (StopsAt g s p) at.left_is (subst (λ q. StopsAt g s q (left g (point_at points i))) at.node h) in
          h'

      comes : (i p : ℕ) (op : ByteOp ℕ) (ops : List (ByteOp ℕ)) → IsAt g points are i p (op ∷ ops) → IsAmong s (writes op) → LiveBy 0 g marked s p ops → ComesBefore points walls (λ k. In k list) i
      comes i p op ops at w live =
          let next = after_it i p op ops at in
          ((exact (suc i)).1 (next.within, live_here (suc i) p ops next live), not_first i p op ops at, walls_all i at.within (stops_at_it i p op ops at w))

      came : (i p : ℕ) (op : ByteOp ℕ) (ops : List (ByteOp ℕ)) → IsAt g points are i p (op ∷ ops) → ComesBefore points walls (λ k. In k list) i → IsAmong s (writes op) × LiveBy 0 g marked s p ops
      came i p op ops at h = (writes_it i p op ops at (walls_only i h.2), live_there (suc i) p ops (after_it i p op ops at) ((exact (suc i)).0 h.0).1)

      pub is_turn : IsTurn 0 g s marked (marks_of g points new)
      is_turn = record {
        stay = λ p op ops point mark.
            let at = point_for g points are p op ops point in
            mark_is g points are new at.0 p (op ∷ ops) at.1 ∙ before.kept at.0 (sym (mark_is g points are m at.0 p (op ∷ ops) at.1) ∙ mark);
        added = λ p op ops point w live.
            let at = point_for g points are p op ops point in
            mark_is g points are new at.0 p (op ∷ ops) at.1 ∙ before.added at.0 (comes at.0 p op ops at.1 w live);
        only = λ p op ops point mark.
            let at = point_for g points are p op ops point in
            by_case p op ops at.0 at.1 (before.only at.0 (sym (mark_is g points are new at.0 p (op ∷ ops) at.1) ∙ mark));
      }
        where
          by_case :
              (p : ℕ) (op : ByteOp ℕ) (ops : List (ByteOp ℕ)) (i : ℕ) → IsAt g points are i p (op ∷ ops) → (is_marked m i ≡ true) ⊎ ComesBefore points walls (λ k. In k list) i
              → IsTrue (marked p (op ∷ ops)) ⊎ (IsAmong s (writes op) × LiveBy 0 g marked s p ops)
          by_case p op ops i at (inl e) = inl (mark_is g points are m i p (op ∷ ops) at ∙ e)
          by_case p op ops i at (inr h) = inr (came i p op ops at h)
