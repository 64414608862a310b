-- The operations that pass a test of the needed ones are those of the pruned graph; and selecting one after the other.
use Rattle.std.proofs.Common.{◌≡◌, ℕ, zero, suc, ◌↔◌, List, [], ◌∷◌, ◌++◌, length, map, slice_get, Bool, true, false, if◌then◌else◌, IsTrue, refl, sym, ap, ap₂, ◌∙◌, subst, append_assoc, append-nil}
use Rattle.rtl.specs.Operations.{ByteOp}
use Rattle.rtl.specs.Programs.{Node, Graph}
use Rattle.rtl.specs.Locations.{vreg_number}
use Rattle.rtl.specs.Graphs.{node_or, ops_at, renamed_op, renamed_node, renamed_graph}
use Rattle.rtl.specs.StrongLiveness.{IsNeeded}
use Rattle.pruned_graphs.specs.Pruning.{Pruned, nothing, keep, drop, IsPruned}
use Rattle.pruned_graphs.specs.Searches.{selected, selected_nodes, selected_graph, TellsNeeded, SelectedIsPruned}
use Rattle.pruned_graphs.proofs.Searching.{vain_otherwise}

-- ---- the operations of a node

module _ (first : ℕ) (g : Graph ℕ) (p : ℕ) where
  not_both : (b : Bool) → b ≡ true → b ≡ false → ⊥
  not_both b e e' = differ (sym e ∙ e')
    where
      differ : true ≡ false → ⊥
      differ e = cc

  -- with the first operations made
  selected_after :
      (test : ℕ → Bool) (made ops : List (ByteOp ℕ)) → made ++ ops ≡ ops_at g p
      → ((later : List (ByteOp ℕ)) (op : ByteOp ℕ) (ops' : List (ByteOp ℕ)) → (made ++ later) ++ op ∷ ops' ≡ ops_at g p → IsTrue (test (length later)) ↔ IsNeeded first g p op ops')
      → Pruned first g p ops (selected test ops)
  selected_after test made [] e exact = nothing
  selected_after test made (op ∷ ops) e exact =
      by_test (test 0) refl
      (selected_after (λ k. test (suc k)) (made ++ op ∷ []) ops (append_assoc made (op ∷ []) ops ∙ e)
      (λ later op' ops' e'. exact (op ∷ later) op' ops' (ap (λ z. z ++ op' ∷ ops') (sym (append_assoc made (op ∷ []) later)) ∙ e')))
    where
      here : IsTrue (test 0) ↔ IsNeeded first g p op ops
      here = exact [] op ops (ap (λ z. z ++ op ∷ ops) (append-nil made) ∙ e)

      by_test :
          (b : Bool) → test 0 ≡ b → Pruned first g p ops (selected (λ k. test (suc k)) ops)
          → Pruned first g p (op ∷ ops) (if b then op ∷ selected (λ k. test (suc k)) ops else selected (λ k. test (suc k)) ops)
      by_test true e' rest = keep op ops (selected (λ k. test (suc k)) ops) (here.0 e') rest
      by_test false e' rest = drop op ops (selected (λ k. test (suc k)) ops) (vain_otherwise first g p op ops (λ need. not_both (test 0) (here.1 need) e')) rest

  pub selected_ops : (test : ℕ → Bool) → ((made : List (ByteOp ℕ)) (op : ByteOp ℕ) (ops : List (ByteOp ℕ)) → made ++ op ∷ ops ≡ ops_at g p → IsTrue (test (length made)) ↔ IsNeeded first g p op ops) → Pruned first g p (ops_at g p) (selected test (ops_at g p))
  selected_ops test exact = selected_after test [] (ops_at g p) refl exact

-- ---- selecting under other names

selected_mapped : {A B : Type 0} (f : A → B) (test : ℕ → Bool) (xs : List A) → map f (selected test xs) ≡ selected test (map f xs)
selected_mapped f test [] = refl
selected_mapped f test (x ∷ xs) = by_test (test 0) (selected_mapped f (λ k. test (suc k)) xs)
  where
    by_test :
        (b : Bool) → map f (selected (λ k. test (suc k)) xs) ≡ selected (λ k. test (suc k)) (map f xs)
        → map f (if b then x ∷ selected (λ k. test (suc k)) xs else selected (λ k. test (suc k)) xs) ≡ (if b then f x ∷ selected (λ k. test (suc k)) (map f xs) else selected (λ k. test (suc k)) (map f xs))
    by_test true e = ap (λ zs. f x ∷ zs) e
    by_test false e = e

nodes_renamed : {L M : Type 0} (f : L → M) (test : ℕ → ℕ → Bool) (ns : List (Node L)) → map (renamed_node f) (selected_nodes test ns) ≡ selected_nodes test (map (renamed_node f) ns)
nodes_renamed f test [] = refl
nodes_renamed f test (n ∷ ns) =
    ap₂ (λ x xs. x ∷ xs) (ap (λ ops. record { ops = ops; exit = (renamed_node f n).exit }) (selected_mapped (renamed_op f) (test 0) n.ops)) (nodes_renamed f (λ p. test (suc p)) ns)

pub graph_renamed : {L M : Type 0} (f : L → M) (test : ℕ → ℕ → Bool) (g : Graph L) → renamed_graph f (selected_graph test g) ≡ selected_graph test (renamed_graph f g)
graph_renamed f test g = ap (λ nodes. record { entry = g.entry; nodes = nodes }) (nodes_renamed f test g.nodes)

-- ---- the nodes of a graph

count_kept : {L : Type 0} (test : ℕ → ℕ → Bool) (ns : List (Node L)) → length (selected_nodes test ns) ≡ length ns
count_kept test [] = refl
count_kept test (n ∷ ns) = ap suc (count_kept (λ p. test (suc p)) ns)

exit_kept : (test : ℕ → ℕ → Bool) (ns : List (Node ℕ)) (p k : ℕ) → (node_or p (slice_get (selected_nodes test ns) k)).exit ≡ (node_or p (slice_get ns k)).exit
exit_kept test [] p k = refl
exit_kept test (n ∷ ns) p zero = refl
exit_kept test (n ∷ ns) p (suc k) = exit_kept (λ q. test (suc q)) ns p k

ops_selected : (test : ℕ → ℕ → Bool) (ns : List (Node ℕ)) (p k : ℕ) → (node_or p (slice_get (selected_nodes test ns) k)).ops ≡ selected (test k) (node_or p (slice_get ns k)).ops
ops_selected test [] p k = refl
ops_selected test (n ∷ ns) p zero = refl
ops_selected test (n ∷ ns) p (suc k) = ops_selected (λ q. test (suc q)) ns p k

selected_numbers : (first : ℕ) (g : Graph ℕ) (test : ℕ → ℕ → Bool) → TellsNeeded first g test → IsPruned first g (selected_graph test g)
selected_numbers first g test exact = record {
  entry = refl;
  nodes = count_kept test g.nodes;
  exits = λ p. exit_kept test g.nodes p p;
  ops = λ p. subst (Pruned first g p (ops_at g p)) (sym (ops_selected test g.nodes p p)) (selected_ops first g p (test p) (exact p));
}

pub selected_is_pruned : SelectedIsPruned
selected_is_pruned g test exact =
    subst (IsPruned 0 (renamed_graph vreg_number g)) (sym (graph_renamed vreg_number test g)) (selected_numbers 0 (renamed_graph vreg_number g) test exact)

-- ---- selecting one after the other

-- with one more item at the end
pub one_selected : {A : Type 0} (test : ℕ → Bool) (xs : List A) (x : A) → selected test (xs ++ x ∷ []) ≡ selected test xs ++ (if test (length xs) then x ∷ [] else [])
one_selected test [] x = refl
one_selected test (y ∷ ys) x = by_test (test 0) (one_selected (λ k. test (suc k)) ys x)
  where
    by_test :
        (b : Bool) → selected (λ k. test (suc k)) (ys ++ x ∷ []) ≡ selected (λ k. test (suc k)) ys ++ (if test (suc (length ys)) then x ∷ [] else [])
        → (if b then y ∷ selected (λ k. test (suc k)) (ys ++ x ∷ []) else selected (λ k. test (suc k)) (ys ++ x ∷ []))
        ≡ (if b then y ∷ selected (λ k. test (suc k)) ys else selected (λ k. test (suc k)) ys) ++ (if test (suc (length ys)) then x ∷ [] else [])
    by_test true e = ap (λ zs. y ∷ zs) e
    by_test false e = e

-- with one more node at the end
pub one_more_node : {L : Type 0} (test : ℕ → ℕ → Bool) (ns : List (Node L)) (n : Node L) → selected_nodes test (ns ++ n ∷ []) ≡ selected_nodes test ns ++ (record { ops = selected (test (length ns)) n.ops; exit = n.exit }) ∷ []
one_more_node test [] n = refl
one_more_node test (m ∷ ms) n = ap (λ xs. (record { ops = selected (test 0) m.ops; exit = m.exit }) ∷ xs) (one_more_node (λ p. test (suc p)) ms n)
