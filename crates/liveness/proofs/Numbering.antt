-- The points of one node more.
use Rattle.std.proofs.Common.{◌≡◌, ℕ, zero, suc, ◌+◌, ◌-◌, ◌<◌, ◌≤◌, List, [], ◌∷◌, ◌++◌, length, get_or, ◌⊎◌, inl, inr, refl, sym, ap, ◌∙◌, subst, arith, length-append}
use Rattle.std.proofs.lemmas.List.{get_or_append_left}
use Rattle.std.proofs.Math.Seq.{get_or-append_seam}
use Rattle.rtl.specs.Programs.{Graph}
use Rattle.rtl.specs.Graphs.{ops_at}
use Rattle.liveness.specs.declared.points.Point.{Point}
use Rattle.liveness.specs.declared.points.Points.{Points}
use Rattle.liveness.specs.Code.Points.{point_at, count, front, node_points, ArePoints}
use Rattle.liveness.proofs.Lists.{below_suc, not_below_zero}

append_right : {X : Type 0} (xs ys : List X) (i k : ℕ) (d : X) → i ≡ length xs + k → get_or (xs ++ ys) i d ≡ get_or ys k d
append_right [] ys i k d e = ap (λ n. get_or ys n d) (let e' : i ≡ k = omega (arith, e) in e')
append_right (x ∷ xs) ys zero k d e = absurd (let n = length xs in omega (arith, e))
append_right (x ∷ xs) ys (suc i) k d e = append_right xs ys i k d (omega (arith, e))

node_points_long : (p n : ℕ) → length (node_points p n) ≡ n
node_points_long p zero = refl
node_points_long p (suc n) =
    let e = node_points_long p n in
    let a = length-append (node_points p n) (record { node = p; op = n } ∷ []) in
    omega (arith, e, a)

node_points_at : (p n k : ℕ) (d : Point) → k < n → get_or (node_points p n) k d ≡ record { node = p; op = k }
node_points_at p zero k d lt = absurd (not_below_zero k lt)
node_points_at p (suc n) k d lt = by_case (λ below. node_points_at p n k d below) (below_suc k n (omega (arith, lt)))
  where
    by_case : (k < n → get_or (node_points p n) k d ≡ record { node = p; op = k }) → (k < n) ⊎ (n ≡ k) → get_or (node_points p n ++ record { node = p; op = n } ∷ []) k d ≡ record { node = p; op = k }
    by_case before (inl below) = get_or_append_left (node_points p n) (record { node = p; op = n } ∷ []) d k (let e = node_points_long p n in omega (arith, e, below)) ∙ before below
    by_case before (inr e) =
        ap (λ i. get_or (node_points p n ++ record { node = p; op = n } ∷ []) i d) (sym e ∙ sym (node_points_long p n))
        ∙ get_or-append_seam (node_points p n) (record { node = p; op = n }) [] d
        ∙ ap (λ i. record { node = p; op = i }) e

low_or_past : (v k : ℕ) → (v < k) ⊎ (k ≤ v)
low_or_past v k = grind arith

pub no_points : (g : Graph ℕ) (points : Points) → points.fronts.items ≡ [] → points.places.items ≡ [] → ArePoints g 0 points
no_points g points fronts places = record {
  long = ap length fronts;
  each = λ p k lt. absurd (not_below_zero p lt);
  only = λ i lt. absurd (not_below_zero i (subst (λ xs. i < length xs) places lt));
}

module _ (g : Graph ℕ) (p n : ℕ) (points points' : Points) (are : ArePoints g p points) (fronts_is : points'.fronts.items ≡ points.fronts.items ++ count points ∷ []) (places_is : points'.places.items ≡ points.places.items ++ node_points p (n + 1)) (ops : n ≡ length (ops_at g p)) where
  abbrev none : Point
  none = record { node = 0; op = 0 }

  more : count points' ≡ count points + (n + 1)
  more = ap length places_is ∙ length-append points.places.items (node_points p (n + 1)) ∙ ap (λ k. count points + k) (node_points_long p (n + 1))

  old_front : (q : ℕ) → q < p → front points' q ≡ front points q
  old_front q lt = ap (λ z. get_or z q 0) fronts_is ∙ get_or_append_left points.fronts.items (count points ∷ []) 0 q (let e = are.long in omega (arith, lt, e))

  new_front : front points' p ≡ count points
  new_front = ap (λ z. get_or z p 0) fronts_is ∙ ap (λ k. get_or (points.fronts.items ++ count points ∷ []) k 0) (sym are.long) ∙ get_or-append_seam points.fronts.items (count points) [] 0

  old_point : (i : ℕ) → i < count points → point_at points' i ≡ point_at points i
  old_point i lt = ap (λ z. get_or z i none) places_is ∙ get_or_append_left points.places.items (node_points p (n + 1)) none i lt

  new_point : (i k : ℕ) → i ≡ count points + k → k < n + 1 → point_at points' i ≡ record { node = p; op = k }
  new_point i k e lt = ap (λ z. get_or z i none) places_is ∙ append_right points.places.items (node_points p (n + 1)) i k none e ∙ node_points_at p (n + 1) k none lt

  abbrev IsThere : ℕ → ℕ → Type 0
  IsThere q k = (front points' q + k < count points') × (point_at points' (front points' q + k) ≡ record { node = q; op = k })

  each_old : (q k : ℕ) → q < p → k ≤ length (ops_at g q) → IsThere q k
  each_old q k lt le =
      let h = are.each q k lt le in
      let below = h.0 in
      let m = more in
      subst (λ f. (f + k < count points') × (point_at points' (f + k) ≡ record { node = q; op = k })) (sym (old_front q lt))
      (omega (arith, below, m), old_point (front points q + k) below ∙ h.1)

  each_new : (k : ℕ) → k ≤ length (ops_at g p) → IsThere p k
  each_new k le =
      let m = more in
      let e = ops in
      subst (λ f. (f + k < count points') × (point_at points' (f + k) ≡ record { node = p; op = k })) (sym new_front)
      (omega (arith, m, le, e), new_point (count points + k) k refl (omega (arith, le, e)))

  each : (q k : ℕ) → k ≤ length (ops_at g q) → (q < p) ⊎ (p ≡ q) → IsThere q k
  each q k le (inl lt) = each_old q k lt le
  each q k le (inr e) = subst (λ q. IsThere q k) e (each_new k (subst (λ q. k ≤ length (ops_at g q)) (sym e) le))

  abbrev IsRight : ℕ → Point → Type 0
  IsRight i pt = (pt.node < p + 1) × (pt.op ≤ length (ops_at g pt.node)) × (front points' pt.node + pt.op ≡ i)

  only_old : (i : ℕ) → i < count points → IsRight i (point_at points' i)
  only_old i lt =
      let h = are.only i lt in
      let below = h.0 in
      subst (IsRight i) (sym (old_point i lt)) (omega (arith, below), h.1, ap (λ f. f + (point_at points i).op) (old_front (point_at points i).node below) ∙ h.2)

  only_new : (i k : ℕ) → i ≡ count points + k → k < n + 1 → IsRight i (point_at points' i)
  only_new i k e lt = subst (IsRight i) (sym (new_point i k e lt)) (omega arith, (let l = ops in omega (arith, l, lt)), ap (λ f. f + k) new_front ∙ sym e)

  only : (i : ℕ) → i < count points' → (i < count points) ⊎ (count points ≤ i) → IsRight i (point_at points' i)
  only i lt (inl below) = only_old i below
  only i lt (inr past) = let m = more in only_new i (i - count points) (omega (arith, past)) (omega (arith, past, m, lt))

  pub points_more : ArePoints g (p + 1) points'
  points_more = record {
    long = ap length fronts_is ∙ length-append points.fronts.items (count points ∷ []) ∙ ap (λ k. k + 1) are.long;
    each = λ q k lt le. each q k le (below_suc q p lt);
    only = λ i lt. only i lt (low_or_past i (count points));
  }
