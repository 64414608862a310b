-- An ordering has at most the length of its graph.
use Rattle.std.proofs.Common.{◌≡◌, ℕ, ◌+◌, ◌≤◌, List, [], ◌∷◌, ◌++◌, map, Bool, true, false, Option, Some, None, refl, ap, arith}
use Rattle.std.specs.Prelude.{nat_eq, if◌then◌else◌}
use Rattle.rtl.specs.declared.locations.Place.{Place}
use Rattle.rtl.specs.declared.graphs.Exit.{Exit}
use Rattle.rtl.specs.declared.graphs.Exit.TheVariants as Out
use Rattle.rtl.specs.Operations.{ByteOp}
use Rattle.rtl.specs.Programs.{Node, Graph}
use Rattle.rtl.specs.Items.{LinItem}
use Rattle.rtl.specs.Items as Item
use Rattle.rtl.specs.Locations.{place_number}
use Rattle.rtl.specs.Graphs.{node_at, ops_at, exit_at, renamed_op, renamed_exit, renamed_node, renamed_graph}
use Rattle.rtl.specs.Lengths.{total, op_length, exit_length, node_length, graph_length, start_length, items_length}
use Rattle.lin_gen.specs.Ordering.{head_of, way_to, exit_items, laid, IsOrdering}
use Rattle.lin_gen.specs.Kept.{place_length}
use Rattle.lin_gen.specs.Linearised.{AreOrderings, LinearisedIsShort}
use Rattle.lin_gen.proofs.Sums.{sum_ordered}

way_length : (q : ℕ) (next : Option ℕ) (more : List LinItem) → items_length (way_to q next more) ≤ 3 + items_length more
way_length q None more = omega arith
way_length q (Some p) more = by (nat_eq q p)
  where
    by : (b : Bool) → items_length (if b then more else Item.Jump q ∷ more) ≤ 3 + items_length more
    by true = omega arith
    by false = omega arith

exit_fits : (e : Exit Place) (next : Option ℕ) (more : List LinItem) → items_length (exit_items e next more) ≤ exit_length (renamed_exit place_number e) + items_length more
exit_fits (Out.Next q) next more = way_length q next more
exit_fits (Out.Test v true_arm false_arm) next more = omega arith
exit_fits (Out.Call f q) next more = omega arith
exit_fits (Out.Label l q) next more = let k = way_length q next more in omega arith
exit_fits Out.Return next more = omega arith

abbrev ops_length : List (ByteOp Place) → ℕ
ops_length ops = total op_length (map (renamed_op place_number) ops)

ops_fit : (ops : List (ByteOp Place)) (more : List LinItem) → items_length (map Item.Op ops ++ more) ≡ ops_length ops + items_length more
ops_fit [] more = omega arith
ops_fit (op ∷ ops) more = let k = ops_fit ops more in omega arith

abbrev length_of : Node Place → ℕ
length_of n = node_length (renamed_node place_number n)

laid_fits : (g : Graph Place) (order : List ℕ) → items_length (laid g order) ≤ total (λ p. length_of (node_at g p)) order
laid_fits g [] = omega arith
laid_fits g (p ∷ ps) =
    let k = laid_fits g ps in
    let a = ops_fit (ops_at g p) (exit_items (exit_at g p) (head_of ps) (laid g ps)) in
    let b = exit_fits (exit_at g p) (head_of ps) (laid g ps) in
    omega arith

nodes_length : (ns : List (Node Place)) → total node_length (map (renamed_node place_number) ns) ≡ total length_of ns
nodes_length [] = refl
nodes_length (n ∷ ns) = ap (λ k. length_of n + k) (nodes_length ns)

pub ordering_length : (g : Graph Place) (items : List LinItem) → IsOrdering g items → items_length items ≤ place_length g
ordering_length g items o =
    let a = laid_fits g o.order in
    let b = sum_ordered length_of g o.order o.ordered in
    let c = nodes_length g.nodes in
    let e = ap items_length o.are in
    omega arith

orderings_length : (gs : List (Graph Place)) (ls : List (List LinItem)) → AreOrderings gs ls → total items_length ls ≤ total graph_length (map (renamed_graph place_number) gs)
orderings_length [] [] h = omega arith
orderings_length [] (l ∷ ls) h = absurd h
orderings_length (g ∷ gs) [] h = absurd h
orderings_length (g ∷ gs) (l ∷ ls) h =
    let a = ordering_length g l h.1 in
    let b = orderings_length gs ls h.2 in
    omega arith

pub linearised_is_short : LinearisedIsShort
linearised_is_short graphs program is =
    let a = orderings_length graphs.graphs program.lins is.lins in
    let b = ap start_length is.start in
    omega arith
