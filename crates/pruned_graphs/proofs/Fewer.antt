-- Graphs that have some of the operations of other graphs, with the same exits: what is gathered from exits stays, what is summed over
-- operations is no more, and what they name was named.
use Rattle.std.proofs.Common.{◌≡◌, ℕ, zero, suc, ◌≤◌, ◌⊎◌, List, [], ◌∷◌, ◌++◌, length, slice_get, inl, inr, refl, sym, ap, ap₂, subst, arith}
use Rattle.std.specs.List.{AllByRecursion}
use Rattle.cerco_traces.specs.LabelledGraphs.{In}
use Rattle.rtl.specs.declared.graphs.Exit.{Exit}
use Rattle.rtl.specs.Operations.{ByteOp}
use Rattle.rtl.specs.Programs.{Node, Graph}
use Rattle.rtl.specs.Graphs.{node_or}
use Rattle.rtl.specs.WellFormed.{gathered, exit_nodes, exit_functions, exit_labels, functions_in, labels_in, op_locations, exit_locations, node_locations, locations_in}
use Rattle.rtl.specs.Lengths.{total, op_length, exit_length, node_length, graph_length}
use Rattle.pruned_graphs.specs.Pruning.{Pruned, nothing, keep, drop, IsPruned}

-- the second list has some of the operations of the first one, in their order
pub data Fewer : List (ByteOp ℕ) → List (ByteOp ℕ) → Type 0 where
  none : Fewer [] []
  one : (op : ByteOp ℕ) (ops rest : List (ByteOp ℕ)) → Fewer ops rest → Fewer (op ∷ ops) (op ∷ rest)
  without : (op : ByteOp ℕ) (ops rest : List (ByteOp ℕ)) → Fewer ops rest → Fewer (op ∷ ops) rest

pruned_fewer : (first : ℕ) (g : Graph ℕ) (p : ℕ) (ops rest : List (ByteOp ℕ)) → Pruned first g p ops rest → Fewer ops rest
pruned_fewer first g p ops rest nothing = none
pruned_fewer first g p ops rest (keep op ops' rest' need left) = one op ops' rest' (pruned_fewer first g p ops' rest' left)
pruned_fewer first g p ops rest (drop op ops' rest' vain left) = without op ops' rest (pruned_fewer first g p ops' rest left)

-- the second node has some of the operations of the first one, and its exit
pub record IsLess (n m : Node ℕ) : Type 0 where
  pub exit : m.exit ≡ n.exit
  pub ops : Fewer n.ops m.ops

abbrev pub AreLess : List (Node ℕ) → List (Node ℕ) → Type 0
AreLess [] [] = Unit {0}
AreLess [] (m ∷ ms) = ⊥
AreLess (n ∷ ns) [] = ⊥
AreLess (n ∷ ns) (m ∷ ms) = IsLess n m × AreLess ns ms

-- The entry stays, and each node is less.
pub record IsLessGraph (g h : Graph ℕ) : Type 0 where
  pub entry : h.entry ≡ g.entry
  pub nodes : AreLess g.nodes h.nodes

by_node : (outside : ℕ → ℕ) (ns ms : List (Node ℕ)) → length ms ≡ length ns → ((k : ℕ) → IsLess (node_or (outside k) (slice_get ns k)) (node_or (outside k) (slice_get ms k))) → AreLess ns ms
by_node outside [] [] count each = tt
by_node outside [] (m ∷ ms) count each = absurd (omega (arith, count))
by_node outside (n ∷ ns) [] count each = absurd (omega (arith, count))
by_node outside (n ∷ ns) (m ∷ ms) count each = (each zero, by_node (λ k. outside (suc k)) ns ms (omega (arith, count)) (λ k. each (suc k)))

pub pruned_is_less : (first : ℕ) (g h : Graph ℕ) → IsPruned first g h → IsLessGraph g h
pruned_is_less first g h pruned = record {
  entry = pruned.entry;
  nodes = by_node (λ k. k) g.nodes h.nodes pruned.nodes (λ k. record { exit = pruned.exits k; ops = pruned_fewer first g k _ _ (pruned.ops k) });
}

-- ---- exits

pub count_same : (ns ms : List (Node ℕ)) → AreLess ns ms → length ms ≡ length ns
count_same [] [] all = refl
count_same [] (m ∷ ms) all = absurd all
count_same (n ∷ ns) [] all = absurd all
count_same (n ∷ ns) (m ∷ ms) all = ap suc (count_same ns ms all.1)

gathered_same : (from : Exit ℕ → List ℕ) (ns ms : List (Node ℕ)) → AreLess ns ms → gathered (λ n. from n.exit) ms ≡ gathered (λ n. from n.exit) ns
gathered_same from [] [] all = refl
gathered_same from [] (m ∷ ms) all = absurd all
gathered_same from (n ∷ ns) [] all = absurd all
gathered_same from (n ∷ ns) (m ∷ ms) all = ap₂ (λ xs ys. xs ++ ys) (ap from all.0.exit) (gathered_same from ns ms all.1)

pub functions_same : (g h : Graph ℕ) → IsLessGraph g h → functions_in h ≡ functions_in g
functions_same g h less = gathered_same exit_functions g.nodes h.nodes less.nodes

pub labels_same : (g h : Graph ℕ) → IsLessGraph g h → labels_in h ≡ labels_in g
labels_same g h less = gathered_same exit_labels g.nodes h.nodes less.nodes

pub exits_so : (P : ℕ → Type 0) (ns ms : List (Node ℕ)) → AreLess ns ms → AllByRecursion (λ n. AllByRecursion P (exit_nodes n.exit)) ns → AllByRecursion (λ n. AllByRecursion P (exit_nodes n.exit)) ms
exits_so P [] [] all so = tt
exits_so P [] (m ∷ ms) all so = absurd all
exits_so P (n ∷ ns) [] all so = absurd all
exits_so P (n ∷ ns) (m ∷ ms) all so = (subst (λ e. AllByRecursion P (exit_nodes e)) (sym all.0.exit) so.0, exits_so P ns ms all.1 so.1)

-- ---- sums

sum_less : (weight : ByteOp ℕ → ℕ) (ops rest : List (ByteOp ℕ)) → Fewer ops rest → total weight rest ≤ total weight ops
sum_less weight ops rest none = omega arith
sum_less weight ops rest (one op ops' rest' fewer) = let less = sum_less weight ops' rest' fewer in omega (arith, less)
sum_less weight ops rest (without op ops' rest' fewer) = let less = sum_less weight ops' rest fewer in omega (arith, less)

length_less : (ns ms : List (Node ℕ)) → AreLess ns ms → total node_length ms ≤ total node_length ns
length_less [] [] all = omega arith
length_less [] (m ∷ ms) all = absurd all
length_less (n ∷ ns) [] all = absurd all
length_less (n ∷ ns) (m ∷ ms) all =
    let ops = sum_less op_length n.ops m.ops all.0.ops in
    let exit : exit_length m.exit ≡ exit_length n.exit = ap exit_length all.0.exit in
    let more = length_less ns ms all.1 in
    omega (arith, ops, exit, more)

pub graph_less : (g h : Graph ℕ) → IsLessGraph g h → graph_length h ≤ graph_length g
graph_less g h less = length_less g.nodes h.nodes less.nodes

-- ---- what is named

in_one : (v : ℕ) (xs ys : List ℕ) → In v (xs ++ ys) → In v xs ⊎ In v ys
in_one v [] ys i = inr i
in_one v (x ∷ xs) ys (inl e) = inl (inl e)
in_one v (x ∷ xs) ys (inr i) = on (in_one v xs ys i)
  where
    on : In v xs ⊎ In v ys → In v (x ∷ xs) ⊎ In v ys
    on (inl i) = inl (inr i)
    on (inr i) = inr i

in_first : (v : ℕ) (xs ys : List ℕ) → In v xs → In v (xs ++ ys)
in_first v [] ys i = absurd i
in_first v (x ∷ xs) ys (inl e) = inl e
in_first v (x ∷ xs) ys (inr i) = inr (in_first v xs ys i)

in_second : (v : ℕ) (xs ys : List ℕ) → In v ys → In v (xs ++ ys)
in_second v [] ys i = i
in_second v (x ∷ xs) ys i = inr (in_second v xs ys i)

-- what is in either part is in the larger parts
in_both : (v : ℕ) (xs ys xs' ys' : List ℕ) → (In v xs → In v xs') → (In v ys → In v ys') → In v (xs ++ ys) → In v (xs' ++ ys')
in_both v xs ys xs' ys' left right i = by_part (in_one v xs ys i)
  where
    by_part : In v xs ⊎ In v ys → In v (xs' ++ ys')
    by_part (inl j) = in_first v xs' ys' (left j)
    by_part (inr j) = in_second v xs' ys' (right j)

ops_named : (v : ℕ) (ops rest : List (ByteOp ℕ)) → Fewer ops rest → In v (gathered op_locations rest) → In v (gathered op_locations ops)
ops_named v ops rest none i = i
ops_named v ops rest (one op ops' rest' fewer) i = in_both v (op_locations op) (gathered op_locations rest') (op_locations op) (gathered op_locations ops') (λ j. j) (ops_named v ops' rest' fewer) i
ops_named v ops rest (without op ops' rest' fewer) i = in_second v (op_locations op) (gathered op_locations ops') (ops_named v ops' rest fewer i)

node_named : (v : ℕ) (n m : Node ℕ) → IsLess n m → In v (node_locations m) → In v (node_locations n)
node_named v n m less =
    in_both v (gathered op_locations m.ops) (exit_locations m.exit) (gathered op_locations n.ops) (exit_locations n.exit) (ops_named v n.ops m.ops less.ops) (subst (λ e. In v (exit_locations e)) less.exit)

nodes_named : (v : ℕ) (ns ms : List (Node ℕ)) → AreLess ns ms → In v (gathered node_locations ms) → In v (gathered node_locations ns)
nodes_named v [] [] all i = i
nodes_named v [] (m ∷ ms) all i = absurd all
nodes_named v (n ∷ ns) [] all i = absurd all
nodes_named v (n ∷ ns) (m ∷ ms) all i =
    in_both v (node_locations m) (gathered node_locations ms) (node_locations n) (gathered node_locations ns) (node_named v n m all.0) (nodes_named v ns ms all.1) i

-- it names nothing new
pub named_less : (g h : Graph ℕ) → IsLessGraph g h → (v : ℕ) → In v (locations_in h) → In v (locations_in g)
named_less g h less v i = nodes_named v g.nodes h.nodes less.nodes i
