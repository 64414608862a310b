-- The pairs of nodes, one after the other.
use Rattle.std.proofs.Common.{◌≡◌, ℕ, zero, suc, ◌+◌, ◌<◌, ◌≤◌, ◌⊎◌, inl, inr, List, [], ◌∷◌, ◌++◌, length, map, get_or, Bool, true, false, Some, slice_get, refl, sym, ap, ◌∙◌, subst, arith}
use Rattle.std.proofs.lemmas.List.{get_or_past, get_or_read, length-map}
use Rattle.std.proofs.lemmas.Option.{slice_get_read}
use Rattle.cerco_traces.specs.LabelledGraphs.{In}
use Rattle.rtl.specs.declared.locations.Vreg.{Vreg}
use Rattle.rtl.specs.Programs.{Node}
use Rattle.rtl.specs.declared.graphs.Node.{Node as WrittenNode}
use Rattle.rtl.specs.Code.Views.{node_of}
use Rattle.rtl.specs.declared.live_sets.LivePoint.{LivePoint}
use Rattle.rtl.specs.declared.live_sets.LiveSets.{LiveSets}
use Rattle.rtl.specs.LiveSets.{points_of, nothing_live, vregs_before}
use Rattle.colouring.specs.declared.greedy.Row.{Row}
use Rattle.colouring.specs.Code.Rows.{near_of, mark_at}
use Rattle.colouring.specs.Code.Neighbours.{HasAdded, Between, ArgumentsBetween, WithArgument, AfterCall, AtStart, AtOperations, AtNode, AtNodes, IsEmpty, AreRowsBy, numbers, live_at}
use Rattle.colouring.proofs.Members.{in_front, in_back, in_either}
use Rattle.colouring.proofs.Adding.{none_adds, adds_as, adds_both, viewed}

-- ---- the start of a node

pub covered_adds : (covered : Bool) (live : List ℕ) (rows : List Row) → covered ≡ true → HasAdded (AtStart covered live) rows rows
covered_adds covered live rows is = none_adds (AtStart covered live) rows (λ x y h. absurd (differ is h.0))
  where
    differ : covered ≡ true → covered ≡ false → ⊥
    differ e f = cc

pub start_adds : (covered : Bool) (live : List ℕ) (old new : List Row) → covered ≡ false → HasAdded (Between live live) old new → HasAdded (AtStart covered live) old new
start_adds covered live old new is a = adds_as (Between live live) (AtStart covered live) old new (λ v w. (λ h. (is, h), λ h. h.1)) a

-- ---- argument places

pub argument_adds : (v : ℕ) (ys : List ℕ) (old new : List Row) → v < 12 → HasAdded (Between (v ∷ []) ys) old new → HasAdded (ArgumentsBetween (v ∷ []) ys) old new
argument_adds v ys old new low a = adds_as (Between (v ∷ []) ys) (ArgumentsBetween (v ∷ []) ys) old new (λ x w. (λ h. (this x h.0, h), λ h. h.1)) a
  where
    this : (x : ℕ) → In x (v ∷ []) → x < 12
    this x (inl e) = subst (λ n. n < 12) e low
    this x (inr i) = absurd i

pub no_argument : (v : ℕ) (ys : List ℕ) (rows : List Row) → 12 ≤ v → HasAdded (ArgumentsBetween (v ∷ []) ys) rows rows
no_argument v ys rows high = none_adds (ArgumentsBetween (v ∷ []) ys) rows (λ x y h. absurd (this x h.0 h.1.0))
  where
    this : (x : ℕ) → x < 12 → In x (v ∷ []) → ⊥
    this x low (inl e) = omega (arith, low, high, e)
    this x low (inr i) = i

pub no_arguments_yet : (ys : List ℕ) (rows : List Row) → HasAdded (ArgumentsBetween [] ys) rows rows
no_arguments_yet ys rows = none_adds (ArgumentsBetween [] ys) rows (λ x y h. absurd h.1.0)

pub arguments_more : (xs xs' zs ys : List ℕ) (old mid new : List Row) → zs ≡ xs ++ xs' → HasAdded (ArgumentsBetween xs ys) old mid → HasAdded (ArgumentsBetween xs' ys) mid new → HasAdded (ArgumentsBetween zs ys) old new
arguments_more xs xs' zs ys old mid new e a b =
    subst (λ z. HasAdded (ArgumentsBetween z ys) old new) (sym e)
    (adds_as (λ v w. ArgumentsBetween xs ys v w ⊎ ArgumentsBetween xs' ys v w) (ArgumentsBetween (xs ++ xs') ys) old new (λ v w. (join v w, λ h. split v w h (in_either v xs xs' h.1.0))) (adds_both (ArgumentsBetween xs ys) (ArgumentsBetween xs' ys) old mid new a b))
  where
    join : (v w : ℕ) → ArgumentsBetween xs ys v w ⊎ ArgumentsBetween xs' ys v w → ArgumentsBetween (xs ++ xs') ys v w
    join v w (inl h) = (h.0, (in_front v xs xs' h.1.0, h.1.1))
    join v w (inr h) = (h.0, (in_back v xs xs' h.1.0, h.1.1))

    split : (v w : ℕ) → ArgumentsBetween (xs ++ xs') ys v w → In v xs ⊎ In v xs' → ArgumentsBetween xs ys v w ⊎ ArgumentsBetween xs' ys v w
    split v w h (inl i) = inl (h.0, (i, h.1.1))
    split v w h (inr i) = inr (h.0, (i, h.1.1))

-- nothing is live at a node that isn't there
pub nothing_there : (sets : LiveSets) (q : ℕ) → length sets.nodes ≤ q → numbers (vregs_before sets q 0) ≡ []
nothing_there sets q past = ap (λ points. live_at points 0) (get_or_past sets.nodes q [] past)

pub no_return : (sets : LiveSets) (q : ℕ) (rows : List Row) → length sets.nodes ≤ q → HasAdded (WithArgument (numbers (vregs_before sets q 0))) rows rows
no_return sets q rows past = none_adds (WithArgument (numbers (vregs_before sets q 0))) rows (λ x y h. absurd (subst (In x) (nothing_there sets q past) h.1.0))

-- ---- points that are read

pub first_read : (points : List LivePoint) (point : LivePoint) (vs : List Vreg) → 0 < length points → point ≡ get_or points 0 point → vs ≡ (get_or points 0 point).vregs → vs ≡ (get_or points 0 nothing_live).vregs
first_read points point vs some is shown = shown ∙ ap (λ (z : LivePoint). z.vregs) (sym is ∙ get_or_read points 0 point some is nothing_live)

pub node_read : (nodes : List (WrittenNode Vreg)) (p : ℕ) (node : WrittenNode Vreg) → p < length nodes → node ≡ get_or nodes p node → slice_get (map node_of nodes) p ≡ Some (node_of node)
node_read nodes p node lt is = viewed node_of nodes p node (slice_get_read nodes (length nodes) p node refl lt is)

pub points_of_node :
    (nodes : List (WrittenNode Vreg)) (sets : LiveSets) (p : ℕ) (lists : List (List LivePoint)) (item points : List LivePoint) → length sets.nodes ≡ length (map node_of nodes) → p < length nodes → lists ≡ sets.nodes → item ≡ get_or lists p item
    → points ≡ item → points ≡ points_of sets p
points_of_node nodes sets p lists item points many lt same is shown = shown ∙ is ∙ get_or_default lists p item [] within ∙ ap (λ ns. get_or ns p []) same
  where
    within : p < length lists
    within = let as_many = length-map nodes node_of in let like = ap length same in omega (arith, many, as_many, lt, like)

    get_or_default : (xs : List (List LivePoint)) (k : ℕ) (d e : List LivePoint) → k < length xs → get_or xs k d ≡ get_or xs k e
    get_or_default [] k d e below = absurd (omega (arith, below))
    get_or_default (x ∷ xs) zero d e below = refl
    get_or_default (x ∷ xs) (suc k) d e below = get_or_default xs k d e (omega (arith, below))

-- ---- nodes

pub node_adds :
    (covered : Bool) (node : Node Vreg) (points : List LivePoint) (sets : LiveSets) (live : List ℕ) (k : ℕ) (a b c d : List Row) → live ≡ live_at points 0 → k ≡ length node.ops → HasAdded (AtStart covered live) a b → HasAdded (AtOperations node.ops points k) b c
    → HasAdded (AfterCall node.exit sets) c d → HasAdded (AtNode covered node points sets) a d
node_adds covered node points sets live k a b c d e e' first second third =
    adds_both (AtStart covered (live_at points 0)) (λ v w. AtOperations node.ops points (length node.ops) v w ⊎ AfterCall node.exit sets v w) a b d (subst (λ z. HasAdded (AtStart covered z) a b) e first)
    (adds_both (AtOperations node.ops points (length node.ops)) (AfterCall node.exit sets) b c d (subst (λ n. HasAdded (AtOperations node.ops points n) b c) e' second) third)

pub node_more :
    (marks : List Bool) (nodes : List (Node Vreg)) (sets : LiveSets) (p : ℕ) (node : Node Vreg) (old mid new : List Row) → slice_get nodes p ≡ Some node → HasAdded (AtNodes marks nodes sets p) old mid → HasAdded (AtNode (mark_at marks p) node (points_of sets p) sets) mid new
    → HasAdded (AtNodes marks nodes sets (p + 1)) old new
node_more marks nodes sets p node old mid new found a b =
    adds_as (λ v w. AtNodes marks nodes sets p v w ⊎ AtNode (mark_at marks p) node (points_of sets p) sets v w) (AtNodes marks nodes sets (p + 1)) old new (λ v w. (join v w, λ h. split v w h (before_or_at h.0 h.2)))
    (adds_both (AtNodes marks nodes sets p) (AtNode (mark_at marks p) node (points_of sets p) sets) old mid new a b)
  where
    before_or_at : (j : ℕ) → j < p + 1 → (j < p) ⊎ (j ≡ p)
    before_or_at j lt = grind arith

    join : (v w : ℕ) → AtNodes marks nodes sets p v w ⊎ AtNode (mark_at marks p) node (points_of sets p) sets v w → AtNodes marks nodes sets (p + 1) v w
    join v w (inl h) = let lt = h.2 in (h.0, h.1, omega (arith, lt), h.3, h.4)
    join v w (inr h) = (p, node, omega arith, found, h)

    same : (x y : Node Vreg) → Some x ≡ Some y → x ≡ y
    same x y e = cc

    split : (v w : ℕ) (h : AtNodes marks nodes sets (p + 1) v w) → (h.0 < p) ⊎ (h.0 ≡ p) → AtNodes marks nodes sets p v w ⊎ AtNode (mark_at marks p) node (points_of sets p) sets v w
    split v w h (inl lt) = inl (h.0, h.1, lt, h.3, h.4)
    split v w h (inr e) =
        let this : h.1 ≡ node = same h.1 node (sym h.3 ∙ ap (slice_get nodes) e ∙ found) in
        inr (subst (λ n. AtNode (mark_at marks p) n (points_of sets p) sets v w) this (subst (λ j. AtNode (mark_at marks j) h.1 (points_of sets j) sets v w) e h.4))

pub no_nodes : (marks : List Bool) (nodes : List (Node Vreg)) (sets : LiveSets) (rows : List Row) → HasAdded (AtNodes marks nodes sets 0) rows rows
no_nodes marks nodes sets rows = none_adds (AtNodes marks nodes sets 0) rows (λ a b h. (let none = h.2 in absurd (omega (arith, none))))

-- from nothing
pub rows_by : (P : ℕ → ℕ → Type 0) (old new : List Row) → IsEmpty old → HasAdded P old new → AreRowsBy P new
rows_by P old new empty a = record { only = λ v w i. only v w (a.only v w i); every = a.every }
  where
    only : (v w : ℕ) → In w (near_of old v) ⊎ ((w < v) × (P v w ⊎ P w v)) → (w < v) × (P v w ⊎ P w v)
    only v w (inl i) = absurd (subst (In w) (empty v) i)
    only v w (inr h) = h
