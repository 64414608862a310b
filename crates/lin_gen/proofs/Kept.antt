-- The labels, calls, places and nodes of an ordering are those of its graph.
use Rattle.std.proofs.Common.{◌≡◌, ℕ, zero, suc, ◌<◌, List, [], ◌∷◌, ◌++◌, length, map, Bool, true, false, Option, Some, None, inl, inr, refl, sym, ap, ◌∙◌, subst}
use Rattle.std.specs.Prelude.{nat_eq, if◌then◌else◌, slice_get}
use Rattle.std.specs.List.{AllByRecursion}
use Rattle.cerco_traces.specs.LabelledGraphs.{In}
use Rattle.rtl.specs.declared.locations.Place.{Place}
use Rattle.rtl.specs.declared.graphs.Exit.{Exit}
use Rattle.rtl.specs.declared.graphs.Exit.TheVariants as Out
use Rattle.rtl.specs.Operations.{ByteOp}
use Rattle.rtl.specs.Programs.{Node, Graph}
use Rattle.rtl.specs.Items.{LinItem}
use Rattle.rtl.specs.Items as Item
use Rattle.rtl.specs.Graphs.{node_or, node_at, ops_at, exit_at}
use Rattle.rtl.specs.Lengths.{total}
use Rattle.rtl.specs.WellFormed.{gathered, exit_nodes, exit_functions, exit_labels, functions_in, labels_in, op_locations, exit_locations, node_locations, NamesNodes, NamesPlaces, IsPlace, IsGraph, here_nodes, item_nodes, item_functions, item_labels, item_locations, IsLin, NoneTwice}
use Rattle.lin_gen.specs.Ordering.{head_of, way_to, exit_items, laid, IsOrdering}
use Rattle.lin_gen.specs.Kept.{KeepsLabels, KeepsCalls}
use Rattle.lin_gen.proofs.Named.{AreBelow, nodes_named}
use Rattle.lin_gen.proofs.Numbers.{all_in, all_of, total_same, HaveOneSum, still_once}
use Rattle.lin_gen.proofs.Sums.{sum_ordered, total_gathered, gathered_none, Gathers, laid_gathered}

-- ---- labels and calls

abbrev no_op : {A : Type 0} → ByteOp Place → List A
no_op op = []

labels_gather : Gathers item_labels no_op exit_labels
labels_gather = record { jumps = λ q. refl; ops = λ op. refl; exits = by }
  where
    by : (e : Exit Place) (more : List LinItem) → gathered item_labels (exit_items e None more) ≡ exit_labels e ++ gathered item_labels more
    by (Out.Next q) more = refl
    by (Out.Test v true_arm false_arm) more = refl
    by (Out.Call f q) more = refl
    by (Out.Label l q) more = refl
    by Out.Return more = refl

calls_gather : Gathers item_functions no_op exit_functions
calls_gather = record { jumps = λ q. refl; ops = λ op. refl; exits = by }
  where
    by : (e : Exit Place) (more : List LinItem) → gathered item_functions (exit_items e None more) ≡ exit_functions e ++ gathered item_functions more
    by (Out.Next q) more = refl
    by (Out.Test v true_arm false_arm) more = refl
    by (Out.Call f q) more = refl
    by (Out.Label l q) more = refl
    by Out.Return more = refl

-- what is gathered from exits alone, from the items and from the graph, has one sum
exits_summed : (h : LinItem → List ℕ) (k : Exit Place → List ℕ) → Gathers h no_op k → ((p : ℕ) → h (Item.Here p) ≡ []) → (g : Graph Place) (items : List LinItem) → IsOrdering g items → HaveOneSum (gathered (λ n. k n.exit) g.nodes) (gathered h items)
exits_summed h k is none g items o f =
    let weight : Node Place → ℕ = λ n. total f (k n.exit) in
    let exits = total_gathered f (λ n. k n.exit) g.nodes in
    let ordered = sum_ordered weight g o.order o.ordered in
    let each : (p : ℕ) → total f (h (Item.Here p) ++ (gathered no_op (ops_at g p) ++ k (exit_at g p))) ≡ weight (node_at g p) =
    λ p. ap (λ z. total f (z ++ (gathered no_op (ops_at g p) ++ k (exit_at g p)))) (none p) ∙ ap (λ z. total f (z ++ k (exit_at g p))) (gathered_none (ops_at g p)) in
    let all = total_same (λ p. total f (h (Item.Here p) ++ (gathered no_op (ops_at g p) ++ k (exit_at g p)))) (λ p. weight (node_at g p)) o.order each in
    let items_are = ap (λ z. total f (gathered h z)) o.are ∙ ap (total f) (laid_gathered h no_op k is g o.order) ∙ total_gathered f (λ p. h (Item.Here p) ++ (gathered no_op (ops_at g p) ++ k (exit_at g p))) o.order in
    exits ∙ sym (items_are ∙ all ∙ ordered)

pub labels_summed : (g : Graph Place) (items : List LinItem) → IsOrdering g items → HaveOneSum (labels_in g) (gathered item_labels items)
labels_summed g items o = exits_summed item_labels exit_labels labels_gather (λ p. refl) g items o

pub calls_summed : (g : Graph Place) (items : List LinItem) → IsOrdering g items → HaveOneSum (functions_in g) (gathered item_functions items)
calls_summed g items o = exits_summed item_functions exit_functions calls_gather (λ p. refl) g items o

pub keeps_labels : (g : Graph Place) (items : List LinItem) → IsOrdering g items → KeepsLabels g items
keeps_labels g items o n = labels_summed g items o (λ m. if nat_eq m n then 1 else 0)

pub keeps_calls : (g : Graph Place) (items : List LinItem) → IsOrdering g items → KeepsCalls g items
keeps_calls g items o n = calls_summed g items o (λ m. if nat_eq m n then 1 else 0)

-- ---- nodes

abbrev no_exit : {A : Type 0} → Exit Place → List A
no_exit e = []

nodes_gather : Gathers here_nodes no_op no_exit
nodes_gather = record { jumps = λ q. refl; ops = λ op. refl; exits = by }
  where
    by : (e : Exit Place) (more : List LinItem) → gathered here_nodes (exit_items e None more) ≡ gathered here_nodes more
    by (Out.Next q) more = refl
    by (Out.Test v true_arm false_arm) more = refl
    by (Out.Call f q) more = refl
    by (Out.Label l q) more = refl
    by Out.Return more = refl

-- the places stand in the order of the nodes
pub nodes_laid : (g : Graph Place) (order : List ℕ) → gathered here_nodes (laid g order) ≡ order
nodes_laid g order = laid_gathered here_nodes no_op no_exit nodes_gather g order ∙ each order
  where
    each : (ps : List ℕ) → gathered (λ p. (p ∷ []) ++ (gathered no_op (ops_at g p) ++ [])) ps ≡ ps
    each [] = refl
    each (p ∷ ps) = ap (λ z. p ∷ ((z ++ []) ++ gathered (λ p. (p ∷ []) ++ (gathered no_op (ops_at g p) ++ [])) ps)) (gathered_none (ops_at g p)) ∙ ap (λ z. p ∷ z) (each ps)

-- the nodes gone to are nodes of the graph
module _ (bound : ℕ) where
  way_below : (q : ℕ) (next : Option ℕ) (more : List LinItem) → q < bound → AreBelow bound (gathered item_nodes more) → AreBelow bound (gathered item_nodes (way_to q next more))
  way_below q None more lt all = (lt, all)
  way_below q (Some p) more lt all = by (nat_eq q p)
    where
      by : (b : Bool) → AreBelow bound (gathered item_nodes (if b then more else Item.Jump q ∷ more))
      by true = all
      by false = (lt, all)

  exit_below : (e : Exit Place) (next : Option ℕ) (more : List LinItem) → AreBelow bound (exit_nodes e) → AreBelow bound (gathered item_nodes more) → AreBelow bound (gathered item_nodes (exit_items e next more))
  exit_below (Out.Next q) next more named all = way_below q next more named.0 all
  exit_below (Out.Test v true_arm false_arm) next more named all = (named.0, all)
  exit_below (Out.Call f q) next more named all = all
  exit_below (Out.Label l q) next more named all = way_below q next more named.0 all
  exit_below Out.Return next more named all = all

  ops_below : (ops : List (ByteOp Place)) (more : List LinItem) → AreBelow bound (gathered item_nodes more) → AreBelow bound (gathered item_nodes (map Item.Op ops ++ more))
  ops_below [] more all = all
  ops_below (op ∷ ops) more all = ops_below ops more all

nodes_below : (g : Graph Place) → NamesNodes g → (order : List ℕ) → ((p : ℕ) → In p order → p < length g.nodes) → AreBelow (length g.nodes) (gathered item_nodes (laid g order))
nodes_below g named [] within = tt
nodes_below g named (p ∷ ps) within =
    ops_below (length g.nodes) (ops_at g p) (exit_items (exit_at g p) (head_of ps) (laid g ps))
    (exit_below (length g.nodes) (exit_at g p) (head_of ps) (laid g ps) (nodes_named g named p (within p (inl refl)))
    (nodes_below g named ps (λ q i. within q (inr i))))

-- ---- places of the processor

places_gather : Gathers item_locations op_locations exit_locations
places_gather = record { jumps = λ q. refl; ops = λ op. refl; exits = by }
  where
    by : (e : Exit Place) (more : List LinItem) → gathered item_locations (exit_items e None more) ≡ exit_locations e ++ gathered item_locations more
    by (Out.Next q) more = refl
    by (Out.Test v true_arm false_arm) more = refl
    by (Out.Call f q) more = refl
    by (Out.Label l q) more = refl
    by Out.Return more = refl

all_append : {A : Type 0} (P : A → Type 0) (xs ys : List A) → AllByRecursion P xs → AllByRecursion P ys → AllByRecursion P (xs ++ ys)
all_append P [] ys h k = k
all_append P (x ∷ xs) ys h k = (h.0, all_append P xs ys h.1 k)

all_front : {A : Type 0} (P : A → Type 0) (xs ys : List A) → AllByRecursion P (xs ++ ys) → AllByRecursion P xs
all_front P [] ys h = tt
all_front P (x ∷ xs) ys h = (h.0, all_front P xs ys h.1)

all_back : {A : Type 0} (P : A → Type 0) (xs ys : List A) → AllByRecursion P (xs ++ ys) → AllByRecursion P ys
all_back P [] ys h = h
all_back P (x ∷ xs) ys h = all_back P xs ys h.1

places_at : (other : ℕ) (ns : List (Node Place)) (p : ℕ) → AllByRecursion IsPlace (gathered node_locations ns) → AllByRecursion IsPlace (node_locations (node_or other (slice_get ns p)))
places_at other [] p all = tt
places_at other (n ∷ ns) zero all = all_front IsPlace (node_locations n) (gathered node_locations ns) all
places_at other (n ∷ ns) (suc p) all = places_at other ns p (all_back IsPlace (node_locations n) (gathered node_locations ns) all)

places_laid : (g : Graph Place) → NamesPlaces g → (order : List ℕ) → AllByRecursion IsPlace (gathered item_locations (laid g order))
places_laid g places order = subst (λ z. AllByRecursion IsPlace z) (sym (laid_gathered item_locations op_locations exit_locations places_gather g order)) (each order)
  where
    each : (ps : List ℕ) → AllByRecursion IsPlace (gathered (λ p. [] ++ (gathered op_locations (ops_at g p) ++ exit_locations (exit_at g p))) ps)
    each [] = tt
    each (p ∷ ps) = all_append IsPlace (node_locations (node_at g p)) (gathered (λ p. [] ++ (gathered op_locations (ops_at g p) ++ exit_locations (exit_at g p))) ps) (places_at p g.nodes p places) (each ps)

-- ---- all of it

pub ordering_is_lin : (g : Graph Place) (items : List LinItem) → IsGraph g → NamesPlaces g → IsOrdering g items → IsLin items
ordering_is_lin g items graph places o =
    let here : gathered here_nodes items ≡ o.order = ap (gathered here_nodes) o.are ∙ nodes_laid g o.order in
    let below : AreBelow (length g.nodes) (gathered item_nodes items) = subst (λ z. AreBelow (length g.nodes) (gathered item_nodes z)) (sym o.are) (nodes_below g graph.nodes o.order o.ordered.only) in
    record {
      nodes_once = subst NoneTwice (sym here) o.ordered.once;
      nodes = all_of (λ n. In n (gathered here_nodes items)) (gathered item_nodes items)
          (λ n i. subst (In n) (sym here) (o.ordered.every n (all_in (λ q. q < length g.nodes) (gathered item_nodes items) below n i)));
      labels = still_once (labels_in g) (gathered item_labels items) (labels_summed g items o) graph.labels;
      places = subst (λ z. AllByRecursion IsPlace (gathered item_locations z)) (sym o.are) (places_laid g places o.order);
    }
