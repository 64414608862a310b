-- What the translation keeps of a program.
use Rattle.std.proofs.Common.{◌≡◌, ℕ, suc, ◌+◌, List, [], ◌∷◌, ◌++◌, map, length, Some, refl, sym, ap, ◌∙◌, subst, append-nil, append_assoc, length-append}
use Rattle.std.specs.Prelude.{slice_get, option_map}
use Rattle.std.proofs.lemmas.Option.{same_Some, slice_get-map}
use Rattle.cerco_middle.specs.declared.rtlabs.RtOp.{RtOp}
use Rattle.cerco_middle.specs.declared.rtlabs.RtOp.TheVariants as op
use Rattle.cerco_middle.specs.declared.rtlabs.RtNode.{RtNode}
use Rattle.cerco_middle.specs.RtLabs.Graphs.{RtFunction, RtLabs, label_at, labels_of_nodes, callee_at, callees_of}
use Rattle.rtl.specs.declared.locations.Vreg.{Vreg}
use Rattle.rtl.specs.Programs.{Node, Graph}
use Rattle.rtl.specs.WellFormed.{gathered, exit_labels, exit_functions}
use Rattle.byte_sequences.specs.Words.{vreg}
use Rattle.byte_sequences.specs.Operations.{operation_exit}
use Rattle.rtl_gen.specs.Translation.{next_of, entry_next, entry_node, nodes_from, translated_function, translated}
use Rattle.rtl_gen.specs.Promises.{KeepsFunction, KeepsProgram}
use Rattle.rtl_gen.proofs.Nodes.{length_nodes_from}

pub gathered_append : {A B : Type 0} (f : A → List B) (xs ys : List A) → gathered f (xs ++ ys) ≡ gathered f xs ++ gathered f ys
gathered_append f [] ys = refl
gathered_append f (x ∷ xs) ys = ap (λ more. f x ++ more) (gathered_append f xs ys) ∙ sym (append_assoc (f x) (gathered f xs) (gathered f ys))

pub exit_label : (o : RtOp) (r : ℕ) (more : List ℕ) → exit_labels (operation_exit vreg o r) ++ more ≡ label_at o more
exit_label (op.Const t n) r more = refl
exit_label (op.Get t x) r more = refl
exit_label (op.Put x t) r more = refl
exit_label (op.Neg t) r more = refl
exit_label (op.Not t) r more = refl
exit_label (op.Narrow h t) r more = refl
exit_label (op.Bin o t u) r more = refl
exit_label (op.Shl n t) r more = refl
exit_label (op.Shr n keeps_sign t) r more = refl
exit_label (op.Load h t) r more = refl
exit_label (op.Store h t u) r more = refl
exit_label (op.ReadPort t) r more = refl
exit_label (op.WritePort t) r more = refl
exit_label (op.Arg h first t) r more = refl
exit_label (op.Call g) r more = refl
exit_label (op.Result h t) r more = refl
exit_label (op.Label l) r more = refl
exit_label (op.Test t on_true on_false) r more = refl
exit_label op.Return r more = refl
exit_label (op.ReturnValue t) r more = refl

pub exit_callee : (o : RtOp) (r : ℕ) (more : List ℕ) → exit_functions (operation_exit vreg o r) ++ more ≡ callee_at o more
exit_callee (op.Const t n) r more = refl
exit_callee (op.Get t x) r more = refl
exit_callee (op.Put x t) r more = refl
exit_callee (op.Neg t) r more = refl
exit_callee (op.Not t) r more = refl
exit_callee (op.Narrow h t) r more = refl
exit_callee (op.Bin o t u) r more = refl
exit_callee (op.Shl n t) r more = refl
exit_callee (op.Shr n keeps_sign t) r more = refl
exit_callee (op.Load h t) r more = refl
exit_callee (op.Store h t u) r more = refl
exit_callee (op.ReadPort t) r more = refl
exit_callee (op.WritePort t) r more = refl
exit_callee (op.Arg h first t) r more = refl
exit_callee (op.Call g) r more = refl
exit_callee (op.Result h t) r more = refl
exit_callee (op.Label l) r more = refl
exit_callee (op.Test t on_true on_false) r more = refl
exit_callee op.Return r more = refl
exit_callee (op.ReturnValue t) r more = refl

abbrev node_labels : Node Vreg → List ℕ
node_labels n = exit_labels n.exit

abbrev node_callees : Node Vreg → List ℕ
node_callees n = exit_functions n.exit

module _ (f : RtFunction) where
  nodes_labels : (new p : ℕ) (nodes : List RtNode) → gathered node_labels (nodes_from vreg f new p nodes) ≡ labels_of_nodes nodes []
  nodes_labels new p [] = refl
  nodes_labels new p (node ∷ nodes) = ap (λ more. exit_labels (operation_exit vreg node.op (next_of f.entry new p node.next)) ++ more) (nodes_labels new (p + 1) nodes) ∙ exit_label node.op _ (labels_of_nodes nodes [])

  nodes_callees : (new p : ℕ) (nodes : List RtNode) → gathered node_callees (nodes_from vreg f new p nodes) ≡ callees_of nodes
  nodes_callees new p [] = refl
  nodes_callees new p (node ∷ nodes) = ap (λ more. exit_functions (operation_exit vreg node.op (next_of f.entry new p node.next)) ++ more) (nodes_callees new (p + 1) nodes) ∙ exit_callee node.op _ (callees_of nodes)

  abbrev last : Node Vreg
  last = entry_node vreg f.held f.params (entry_next f)

  pub function_kept : KeepsFunction f (translated_function vreg f)
  function_kept =
      let new = length f.nodes in
      let old = nodes_from vreg f new 0 f.nodes in
      record {
        entry = refl;
        nodes = length-append old (last ∷ []) ∙ ap (λ n. n + 1) (length_nodes_from vreg f new 0 f.nodes);
        labels = gathered_append node_labels old (last ∷ []) ∙ append-nil (gathered node_labels old) ∙ nodes_labels new 0 f.nodes;
        calls = gathered_append node_callees old (last ∷ []) ∙ append-nil (gathered node_callees old) ∙ nodes_callees new 0 f.nodes;
      }

length_mapped : {A B : Type 0} (f : A → B) (xs : List A) → length (map f xs) ≡ length xs
length_mapped f [] = refl
length_mapped f (x ∷ xs) = ap suc (length_mapped f xs)

-- the graph with a function's number is its translation
pub graph_of_function : (p : RtLabs) (i : ℕ) (f : RtFunction) (g : Graph Vreg) → slice_get p.functions i ≡ Some f → slice_get (translated p).graphs i ≡ Some g → translated_function vreg f ≡ g
graph_of_function p i f g is is' = same_Some (translated_function vreg f) g (sym (slice_get-map (translated_function vreg) p.functions i ∙ ap (option_map (translated_function vreg)) is) ∙ is')

-- the clause on what is kept
pub translation_keeps : (p : RtLabs) → KeepsProgram p (translated p)
translation_keeps p = record {
  count = length_mapped (translated_function vreg) p.functions;
  functions = λ i f g is is'. subst (KeepsFunction f) (graph_of_function p i f g is is') (function_kept f);
  calls = refl;
  main = refl;
  start = refl;
}
