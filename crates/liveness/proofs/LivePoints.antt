-- What is reached against the ways of a graph from the uses of a storage, past no writing of it, is where it is live.
use Rattle.std.proofs.Common.{◌≡◌, ℕ, zero, suc, ◌+◌, ◌<◌, ◌≤◌, List, [], ◌∷◌, length, drop, Bool, true, false, ◌⊎◌, inl, inr, refl, sym, ap, ◌∙◌, subst, arith}
use Rattle.std.proofs.lemmas.Option.{slice_get_past}
use Rattle.cerco_traces.specs.LabelledGraphs.{In}
use Rattle.rtl.specs.Operations.{ByteOp}
use Rattle.rtl.specs.declared.graphs.Exit.TheVariants.{Next}
use Rattle.rtl.specs.Programs.{Graph}
use Rattle.rtl.specs.Effects.{Storage}
use Rattle.rtl.specs.Graphs.{node_or, ops_at, exit_at}
use Rattle.rtl.specs.Liveness.{GoesTo, Uses, Overwrites, Live, used, kept, used_by_exit, onward}
use Rattle.liveness.specs.declared.points.Point.{Point}
use Rattle.liveness.specs.declared.points.Points.{Points}
use Rattle.liveness.specs.Code.Rows.{AreTurned}
use Rattle.liveness.specs.Code.Reach.{is_marked, Reached, seed, onward as further}
use Rattle.liveness.specs.Code.Points.{point_at, count, front, left, ArePoints}
use Rattle.liveness.specs.Code.Flow.{UsesAt, StopsAt, LeadsAt, IsUsed, IsStopped, LeadsOn, IsLive}
use Rattle.liveness.proofs.Reaching.{true_false}

low_or_past : (v k : ℕ) → (v < k) ⊎ (k ≤ v)
low_or_past v k = grind arith

-- ---- nodes that aren't there

pub no_ops : (g : Graph ℕ) (p : ℕ) → length g.nodes ≤ p → ops_at g p ≡ []
no_ops g p far = ap (λ n. (node_or p n).ops) (slice_get_past g.nodes p far)

pub no_exit : (g : Graph ℕ) (p : ℕ) → length g.nodes ≤ p → exit_at g p ≡ Next p
no_exit g p far = ap (λ n. (node_or p n).exit) (slice_get_past g.nodes p far)

-- nothing is live there
pub live_nowhere : (g : Graph ℕ) (s : Storage) (p : ℕ) (ops : List (ByteOp ℕ)) → length g.nodes ≤ p → ops ≡ [] → Live 0 g s p ops → ⊥
live_nowhere g s p (op ∷ ops) far e (used p' op' ops' i) = cc
live_nowhere g s p (op ∷ ops) far e (kept p' op' ops' out l) = cc
live_nowhere g s p [] far e (used_by_exit p' u) = subst (λ e. Uses 0 e g p s) (no_exit g p far) u
live_nowhere g s p [] far e (onward p' q out goes l) =
    let same : p ≡ q = subst (λ e. GoesTo e q) (no_exit g p far) goes in
    live_nowhere g s q (ops_at g q) (subst (λ q. length g.nodes ≤ q) same far) (no_ops g q (subst (λ q. length g.nodes ≤ q) same far)) l

-- ---- points

drop_within : (k : ℕ) (xs : List (ByteOp ℕ)) (op : ByteOp ℕ) (ops : List (ByteOp ℕ)) → drop k xs ≡ op ∷ ops → (k < length xs) × (drop (suc k) xs ≡ ops)
drop_within zero [] op ops e = absurd cc
drop_within zero (x ∷ xs) op ops e = (omega arith, let t : xs ≡ ops = cc in t)
drop_within (suc k) [] op ops e = absurd cc
drop_within (suc k) (x ∷ xs) op ops e = let r = drop_within k xs op ops e in (let lt = r.0 in omega (arith, lt), r.1)

module _ (g : Graph ℕ) (points : Points) (are : ArePoints g (length g.nodes) points) where
  abbrev IsNext : ℕ → ℕ → List (ByteOp ℕ) → Type 0
  IsNext i p ops = (i < count points) × ((point_at points i).node ≡ p) × (left g (point_at points i) ≡ ops)

  point_is : (i : ℕ) (pt : Point) → i < count points → point_at points i ≡ pt → IsNext i pt.node (left g pt)
  point_is i pt lt e = (lt, ap (λ (z : Point). z.node) e, ap (left g) e)

  pub next_point : (i : ℕ) (op : ByteOp ℕ) (ops : List (ByteOp ℕ)) → i < count points → left g (point_at points i) ≡ op ∷ ops → IsNext (suc i) (point_at points i).node ops
  next_point i op ops lt is =
      let pt = point_at points i in
      let o = are.only i lt in
      let d = drop_within pt.op (ops_at g pt.node) op ops is in
      let below = d.0 in
      let there = are.each pt.node (suc pt.op) o.0 (omega (arith, below)) in
      let at = o.2 in
      let e : front points pt.node + suc pt.op ≡ suc i = omega (arith, at) in
      let there' = subst (λ k. (k < count points) × (point_at points k ≡ record { node = pt.node; op = suc pt.op })) e there in
      let r = point_is (suc i) (record { node = pt.node; op = suc pt.op }) there'.0 there'.1 in
      (r.0, r.1, r.2 ∙ d.1)

  pub first_point : (q : ℕ) → q < length g.nodes → IsNext (front points q) q (ops_at g q)
  first_point q lt =
      let there = are.each q 0 lt (omega arith) in
      let e : front points q + 0 ≡ front points q = omega arith in
      let there' = subst (λ k. (k < count points) × (point_at points k ≡ record { node = q; op = 0 })) e there in
      point_is (front points q) (record { node = q; op = 0 }) there'.0 there'.1

  module _ (s : Storage) (seeds : List ℕ) (ways : ℕ → List ℕ) (walls : List Bool) (seeds_only : (i : ℕ) → In i seeds → (i < count points) × IsUsed g points i s) (seeds_all : (i : ℕ) → i < count points → IsUsed g points i s → In i seeds) (back : AreTurned (LeadsOn g points) (count points) ways) (walls_only : (i : ℕ) → is_marked walls i ≡ true → IsStopped g points i s) (walls_all : (i : ℕ) → i < count points → IsStopped g points i s → is_marked walls i ≡ true) where
    abbrev Comes : ℕ → Type 0
    Comes i = Reached seeds ways walls i

    seed_live : (p : ℕ) (ops : List (ByteOp ℕ)) → UsesAt g s p ops → Live 0 g s p ops
    seed_live p [] u = used_by_exit p u
    seed_live p (op ∷ ops) u = used p op ops u

    passes : (j : ℕ) → j < count points → is_marked walls j ≡ false → IsStopped g points j s → ⊥
    passes j lt e stop = true_false (sym e ∙ walls_all j lt stop)

    back_live : (i j : ℕ) → j < count points → (ops : List (ByteOp ℕ)) → left g (point_at points j) ≡ ops → LeadsAt g points j i (point_at points j).node ops → (StopsAt g s (point_at points j).node ops → ⊥) → IsLive g points i s → Live 0 g s (point_at points j).node ops
    back_live i j lt [] is leads out live =
        let q = leads.0 in
        let within : q < length g.nodes = subst (λ n. q < n) are.long leads.1 in
        let f = first_point q within in
        let here : IsLive g points (front points q) s = subst (λ k. IsLive g points k s) (sym leads.3) live in
        onward (point_at points j).node q out leads.2 (subst (Live 0 g s q) f.2 (subst (λ p. Live 0 g s p (left g (point_at points (front points q)))) f.1 here))
    back_live i j lt (op ∷ ops) is leads out live =
        let f = next_point j op ops lt is in
        let here : IsLive g points (suc j) s = subst (λ k. IsLive g points k s) (sym leads) live in
        kept (point_at points j).node op ops out (subst (Live 0 g s (point_at points j).node) f.2 (subst (λ p. Live 0 g s p (left g (point_at points (suc j)))) f.1 here))

    pub reached_live : (i : ℕ) → Comes i → (i < count points) × IsLive g points i s
    reached_live i (seed i' h) = let r = seeds_only i h in (r.0, seed_live (point_at points i).node (left g (point_at points i)) r.1)
    reached_live j (further i j' r h o) =
        let w = back.only i j h in
        (w.0, back_live i j w.0 (left g (point_at points j)) refl w.1 (passes j w.0 o) (reached_live i r).1)

    unmarked : (j : ℕ) → (IsStopped g points j s → ⊥) → is_marked walls j ≡ false
    unmarked j out = by_mark (is_marked walls j) refl
      where
        by_mark : (b : Bool) → is_marked walls j ≡ b → is_marked walls j ≡ false
        by_mark true e = absurd (out (walls_only j e))
        by_mark false e = e

    from_live : (p : ℕ) (ops : List (ByteOp ℕ)) → Live 0 g s p ops → (i : ℕ) → i < count points → (point_at points i).node ≡ p → left g (point_at points i) ≡ ops → Comes i
    from_live p ops (used p' op ops' u) i lt e e' = seed i (seeds_all i lt (subst (UsesAt g s (point_at points i).node) (sym e') u))
    from_live p ops (used_by_exit p' u) i lt e e' = seed i (seeds_all i lt (subst (UsesAt g s (point_at points i).node) (sym e') (subst (λ z. UsesAt g s z []) (sym e) u)))
    from_live p ops (kept p' op ops' out live) i lt e e' =
        let f = next_point i op ops' lt e' in
        further (suc i) i (from_live p ops' live (suc i) f.0 (f.1 ∙ e) f.2)
        (back.every (suc i) i lt (subst (LeadsAt g points i (suc i) (point_at points i).node) (sym e') refl))
        (unmarked i (λ stop. out (subst (StopsAt g s (point_at points i).node) e' stop)))
    from_live p ops (onward p' q out goes live) i lt e e' = by_place (λ k lt' at is. from_live q (ops_at g q) live k lt' at is) (low_or_past q (length g.nodes))
      where
        goes' : GoesTo (exit_at g (point_at points i).node) q
        goes' = subst (λ z. GoesTo (exit_at g z) q) (sym e) goes

        stop : IsStopped g points i s → ⊥
        stop h = out (subst (λ z. Overwrites 0 (exit_at g z) s) e (subst (StopsAt g s (point_at points i).node) e' h))

        within : ((k : ℕ) → k < count points → (point_at points k).node ≡ q → left g (point_at points k) ≡ ops_at g q → Comes k) → q < length g.nodes → Comes i
        within later below =
            let f = first_point q below in
            let leads : LeadsAt g points i (front points q) (point_at points i).node [] = (q, subst (λ n. q < n) (sym are.long) below, goes', refl) in
            further (front points q) i (later (front points q) f.0 f.1 f.2)
            (back.every (front points q) i lt (subst (LeadsAt g points i (front points q) (point_at points i).node) (sym e') leads))
            (unmarked i stop)

        by_place : ((k : ℕ) → k < count points → (point_at points k).node ≡ q → left g (point_at points k) ≡ ops_at g q → Comes k) → (q < length g.nodes) ⊎ (length g.nodes ≤ q) → Comes i
        by_place later (inl below) = within later below
        by_place later (inr far) = absurd (live_nowhere g s q (ops_at g q) far (no_ops g q far) live)

    pub live_reached : (i : ℕ) → i < count points → IsLive g points i s → Comes i
    live_reached i lt live = from_live (point_at points i).node (left g (point_at points i)) live i lt refl refl
