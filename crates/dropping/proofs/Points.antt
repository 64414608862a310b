-- The points of a graph and the marks of its operations.
use Rattle.std.proofs.Common.{◌≡◌, ℕ, ◌+◌, ◌-◌, ◌<◌, ◌≤◌, ◌⊎◌, inl, inr, List, [], ◌∷◌, ◌++◌, length, drop, Bool, refl, sym, ap, ◌∙◌, subst, arith, length-append}
use Rattle.std.proofs.lemmas.List.{length-drop, drop_at}
use Rattle.rtl.specs.Operations.{ByteOp}
use Rattle.rtl.specs.Programs.{Graph}
use Rattle.rtl.specs.Graphs.{ops_at}
use Rattle.rtl.specs.Liveness.{IsPoint}
use Rattle.liveness.specs.declared.points.Point.{Point}
use Rattle.liveness.specs.declared.points.Points.{Points}
use Rattle.liveness.specs.Code.Reach.{is_marked}
use Rattle.liveness.specs.Code.Points.{point_at, count, front, left, ArePoints}
use Rattle.liveness.proofs.LivePoints.{no_ops}
use Rattle.dropping.specs.Code.Turns.{marks_of}

pub low_or_past : (v k : ℕ) → (v < k) ⊎ (k ≤ v)
low_or_past v k = grind arith

nothing_is : (made : List (ByteOp ℕ)) (op : ByteOp ℕ) (ops : List (ByteOp ℕ)) → made ++ op ∷ ops ≡ [] → ⊥
nothing_is [] op ops e = cc
nothing_is (x ∷ xs) op ops e = cc

-- how many operations come before the last ones
pub made_long : (made ops whole : List (ByteOp ℕ)) → made ++ ops ≡ whole → length whole - length ops ≡ length made
made_long made ops whole e =
    let a = ap length e in
    let b = length-append made ops in
    omega (arith, a, b)

module _ (g : Graph ℕ) (points : Points) (are : ArePoints g (length g.nodes) points) where
  -- the point i is the one where these operations are left in the node p
  pub record IsAt (i p : ℕ) (ops : List (ByteOp ℕ)) : Type 0 where
    pub within : i < count points
    pub node : (point_at points i).node ≡ p
    pub left_is : left g (point_at points i) ≡ ops

  pub is_at : (i : ℕ) → i < count points → IsAt i (point_at points i).node (left g (point_at points i))
  is_at i lt = record { within = lt; node = refl; left_is = refl }

  number_here : (i : ℕ) → i < count points → front points (point_at points i).node + (length (ops_at g (point_at points i).node) - length (left g (point_at points i))) ≡ i
  number_here i lt =
      let pt = point_at points i in
      let o = are.only i lt in
      let le = o.1 in
      let at = o.2 in
      let long = length-drop pt.op (ops_at g pt.node) in
      omega (arith, le, at, long)

  -- its number
  pub number_is : (i p : ℕ) (ops : List (ByteOp ℕ)) → IsAt i p ops → front points p + (length (ops_at g p) - length ops) ≡ i
  number_is i p ops at =
      subst (λ q. front points q + (length (ops_at g q) - length ops) ≡ i) at.node
      (subst (λ rest. front points (point_at points i).node + (length (ops_at g (point_at points i).node) - length rest) ≡ i) at.left_is (number_here i at.within))

  -- its mark
  pub mark_is : (m : List Bool) (i p : ℕ) (ops : List (ByteOp ℕ)) → IsAt i p ops → marks_of g points m p ops ≡ is_marked m i
  mark_is m i p ops at = ap (is_marked m) (number_is i p ops at)

  there : (p : ℕ) (made ops : List (ByteOp ℕ)) → made ++ ops ≡ ops_at g p → p < length g.nodes → IsAt (front points p + length made) p ops
  there p made ops e lt =
      let a = ap length e in
      let b = length-append made ops in
      let at = are.each p (length made) lt (omega (arith, a, b)) in
      record {
        within = at.0;
        node = ap (λ (z : Point). z.node) at.1;
        left_is = ap (left g) at.1 ∙ ap (drop (length made)) (sym e) ∙ drop_at made ops (length made) refl;
      }

  -- the point of an operation
  pub point_for : (p : ℕ) (op : ByteOp ℕ) (ops : List (ByteOp ℕ)) → IsPoint g p (op ∷ ops) → (i : ℕ) × IsAt i p (op ∷ ops)
  point_for p op ops point = by_place (low_or_past p (length g.nodes))
    where
      by_place : (p < length g.nodes) ⊎ (length g.nodes ≤ p) → (i : ℕ) × IsAt i p (op ∷ ops)
      by_place (inl lt) = (front points p + length point.0, there p point.0 (op ∷ ops) point.1 lt)
      by_place (inr far) = absurd (nothing_is point.0 op ops (point.1 ∙ no_ops g p far))
