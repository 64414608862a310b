-- What stands in the graph of a translated function.
use Rattle.std.proofs.Common.{◌≡◌, ◌≢◌, ℕ, zero, suc, ◌+◌, List, [], ◌∷◌, ◌++◌, length, Option, Some, None, if◌then◌else◌, refl, sym, ap, ap₂, ◌∙◌, arith, eq-eqb, ne_eqb}
use Rattle.std.specs.Prelude.{slice_get}
use Rattle.std.proofs.lemmas.Option.{none-some, same_Some}
use Rattle.cerco_middle.specs.declared.rtlabs.RtOp.{RtOp}
use Rattle.cerco_middle.specs.declared.rtlabs.RtNode.{RtNode}
use Rattle.cerco_middle.specs.RtLabs.Graphs.{RtFunction}
use Rattle.cerco_middle.specs.RtLabs.WellFormed.{IsAt}
use Rattle.rtl.specs.Graphs.{node_or, node_at}
use Rattle.byte_sequences.specs.Operations.{operation_node}
use Rattle.byte_sequences.proofs.OperationLaws.{number}
use Rattle.rtl_gen.specs.Translation.{next_or, next_of, next_in, entry_next, entry_node, nodes_from, all_nodes, translated_function}

append_first : {A : Type 0} (xs ys : List A) (i : ℕ) (x : A) → slice_get xs i ≡ Some x → slice_get (xs ++ ys) i ≡ Some x
append_first [] ys i x is = absurd (none-some x is)
append_first (y ∷ xs) ys zero x is = is
append_first (y ∷ xs) ys (suc i) x is = append_first xs ys i x is

append_last : {A : Type 0} (xs : List A) (y : A) → slice_get (xs ++ y ∷ []) (length xs) ≡ Some y
append_last [] y = refl
append_last (x ∷ xs) y = append_last xs y

module _ {L : Type 0} (at : ℕ → L) (f : RtFunction) where
  node_from : (new p : ℕ) (nodes : List RtNode) (i : ℕ) (node : RtNode) → slice_get nodes i ≡ Some node
      → slice_get (nodes_from at f new p nodes) i ≡ Some (operation_node at f.held f.result node.op (next_of f.entry new (p + i) node.next))
  node_from new p [] i node is = absurd (none-some node is)
  node_from new p (n ∷ nodes) zero node is =
      let e : p ≡ p + 0 = omega arith in
      ap₂ (λ (m : RtNode) q. Some (operation_node at f.held f.result m.op (next_of f.entry new q m.next))) (same_Some n node is) e
  node_from new p (n ∷ nodes) (suc i) node is =
      let e : p + 1 + i ≡ p + suc i = omega arith in
      node_from new (p + 1) nodes i node is ∙ ap (λ q. Some (operation_node at f.held f.result node.op (next_of f.entry new q node.next))) e

  pub length_nodes_from : (new p : ℕ) (nodes : List RtNode) → length (nodes_from at f new p nodes) ≡ length nodes
  length_nodes_from new p [] = refl
  length_nodes_from new p (n ∷ nodes) = ap suc (length_nodes_from new (p + 1) nodes)

  -- an old node
  pub old_node : (p : ℕ) (node : RtNode) → IsAt f p node → slice_get (all_nodes at f) p ≡ Some (operation_node at f.held f.result node.op (next_of f.entry (length f.nodes) p node.next))
  old_node p node is = append_first (nodes_from at f (length f.nodes) 0 f.nodes) _ p _ (node_from (length f.nodes) 0 f.nodes p node is ∙ ap (λ q. Some (operation_node at f.held f.result node.op (next_of f.entry (length f.nodes) q node.next))) same)
    where
      same : 0 + p ≡ p
      same = omega arith

  -- the new node
  pub new_node : slice_get (all_nodes at f) (length f.nodes) ≡ Some (entry_node at f.held f.params (entry_next f))
  new_node = ap (slice_get (all_nodes at f)) (sym (length_nodes_from (length f.nodes) 0 f.nodes)) ∙ append_last (nodes_from at f (length f.nodes) 0 f.nodes) (entry_node at f.held f.params (entry_next f))

-- where nodes go on
pub next_other : (entry new p : ℕ) (next : Option ℕ) → p ≢ entry → next_of entry new p next ≡ next_or p next
next_other entry new p next other = ap (λ b. if b then new else next_or p next) (ne_eqb p entry other)

pub next_entry : (entry new p : ℕ) (next : Option ℕ) → p ≡ entry → next_of entry new p next ≡ new
next_entry entry new p next same = ap (λ b. if b then new else next_or p next) (eq-eqb p entry same)

-- the node of an operation that goes on at q, but the entry
module _ (f : RtFunction) (p : ℕ) (o : RtOp) (q : ℕ) (is : IsAt f p (record { op = o; next = Some q })) where
  pub node_is : p ≢ f.entry → node_at (translated_function number f) p ≡ operation_node number f.held f.result o q
  node_is other = ap (node_or p) (old_node number f p (record { op = o; next = Some q }) is ∙ ap (λ r. Some (operation_node number f.held f.result o r)) (next_other f.entry (length f.nodes) p (Some q) other))

  pub entry_is : p ≡ f.entry → node_at (translated_function number f) p ≡ operation_node number f.held f.result o (length f.nodes)
  entry_is same = ap (node_or p) (old_node number f p (record { op = o; next = Some q }) is ∙ ap (λ r. Some (operation_node number f.held f.result o r)) (next_entry f.entry (length f.nodes) p (Some q) same))

  -- the new node goes on where the entry did
  pub new_is : p ≡ f.entry → node_at (translated_function number f) (length f.nodes) ≡ entry_node number f.held f.params q
  new_is same = ap (node_or (length f.nodes)) (new_node number f) ∙ ap (λ r. entry_node number f.held f.params r) goes_on
    where
      use_entry : slice_get f.nodes f.entry ≡ Some (record { op = o; next = Some q })
      use_entry = ap (slice_get f.nodes) (sym same) ∙ is

      goes_on : entry_next f ≡ q
      goes_on = ap (λ n. next_or f.entry (next_in n)) use_entry

-- the node of an operation without a next one
pub last_node_is : (f : RtFunction) (p : ℕ) (o : RtOp) → IsAt f p (record { op = o; next = None }) → (r : ℕ) × (node_at (translated_function number f) p ≡ operation_node number f.held f.result o r)
last_node_is f p o is = (next_of f.entry (length f.nodes) p None, ap (node_or p) (old_node number f p (record { op = o; next = None }) is))
