-- The graph of a translated function is that of the function, with the new node after the entry, and so it stays soundly labelled.
use Rattle.std.proofs.Common.{◌≡◌, ◌≢◌, ℕ, suc, ◌+◌, ◌<◌, ⊎_elim, List, [], ◌∷◌, map, length, Option, Some, None, Bool, nat_eq, if◌then◌else◌, refl, sym, ap, ap₂, ◌∙◌, subst, arith, length-append}
use Rattle.std.specs.Prelude.{slice_get, option_map}
use Rattle.std.proofs.Math.Path.{fun_ext}
use Rattle.std.proofs.lemmas.Bool.{cases_lt}
use Rattle.std.proofs.lemmas.Bool.Decides.{eqb_tells}
use Rattle.std.proofs.lemmas.Option.{slice_get-get_or, slice_get_past}
use Rattle.cerco_traces.specs.LabelledGraphs.{NodeKind, LabelNode, CallNode, PlainNode, LeadsTo, IsLabelNode, SoundlyLabelled, inserted}
use Rattle.cerco_traces.proofs.Inserted.{inserted_labelled}
use Rattle.cerco_middle.specs.declared.operators.Held.{Held}
use Rattle.cerco_middle.specs.declared.rtlabs.RtOp.{RtOp}
use Rattle.cerco_middle.specs.declared.rtlabs.RtOp.TheVariants as op
use Rattle.cerco_middle.specs.declared.rtlabs.RtNode.{RtNode}
use Rattle.cerco_middle.specs.RtLabs.Graphs.{RtFunction, RtLabs, flow_graph, node_kind}
use Rattle.cerco_middle.specs.RtLabs.WellFormed.{IsWellFormed, IsAt, GoesOn, NodesExist, PathsGoOn}
use Rattle.rtl.specs.declared.locations.Vreg.{Vreg}
use Rattle.rtl.specs.Programs.{Graph}
use Rattle.rtl.specs.Graphs.{kind_of, kind_or_none, flow_of, AreSoundlyLabelled}
use Rattle.byte_sequences.specs.Words.{vreg}
use Rattle.byte_sequences.specs.Operations.{operation_code, operation_exit}
use Rattle.rtl_gen.specs.Translation.{next_or, next_in, entry_next, entry_node, nodes_from, all_nodes, translated_function, translated}
use Rattle.rtl_gen.specs.Promises.{GraphsAreLabelled}
use Rattle.rtl_gen.proofs.Nodes.{old_node, new_node, length_nodes_from, next_other, next_entry}

-- ---- kinds of nodes

goes_to : (next : Option ℕ) (p r : ℕ) → ((q : ℕ) × (next ≡ Some q)) → r ≡ next_or p next → Some r ≡ next
goes_to next p r g e = ap Some (e ∙ ap (next_or p) g.1) ∙ sym g.1

-- a node that isn't the entry
kind_same : (held : List Held) (result : Option Held) (o : RtOp) (next : Option ℕ) (p r : ℕ) → GoesOn o next → r ≡ next_or p next
    → kind_of (operation_code vreg held result o) (operation_exit vreg o r) ≡ node_kind (record { op = o; next = next })
kind_same held result (op.Const t n) next p r g e = ap PlainNode (goes_to next p r g e)
kind_same held result (op.Get t x) next p r g e = ap PlainNode (goes_to next p r g e)
kind_same held result (op.Put x t) next p r g e = ap PlainNode (goes_to next p r g e)
kind_same held result (op.Neg t) next p r g e = ap PlainNode (goes_to next p r g e)
kind_same held result (op.Not t) next p r g e = ap PlainNode (goes_to next p r g e)
kind_same held result (op.Narrow h t) next p r g e = ap PlainNode (goes_to next p r g e)
kind_same held result (op.Bin o t u) next p r g e = ap PlainNode (goes_to next p r g e)
kind_same held result (op.Shl n t) next p r g e = ap PlainNode (goes_to next p r g e)
kind_same held result (op.Shr n keeps_sign t) next p r g e = ap PlainNode (goes_to next p r g e)
kind_same held result (op.Load h t) next p r g e = ap PlainNode (goes_to next p r g e)
kind_same held result (op.Store h t u) next p r g e = ap PlainNode (goes_to next p r g e)
kind_same held result (op.ReadPort t) next p r g e = ap PlainNode (goes_to next p r g e)
kind_same held result (op.WritePort t) next p r g e = ap PlainNode (goes_to next p r g e)
kind_same held result (op.Arg h first t) next p r g e = ap PlainNode (goes_to next p r g e)
kind_same held result (op.Call c) next p r g e = ap CallNode (goes_to next p r g e)
kind_same held result (op.Result h t) next p r g e = ap PlainNode (goes_to next p r g e)
kind_same held result (op.Label l) next p r g e = ap LabelNode (goes_to next p r g e)
kind_same held result (op.Test t on_true on_false) next p r g e = refl
kind_same held result op.Return next p r g e = ap PlainNode (sym g)
kind_same held result (op.ReturnValue t) next p r g e = ap PlainNode (sym g)

-- the entry, a label
entry_kind : (held : List Held) (result : Option Held) (o : RtOp) (next : Option ℕ) (r : ℕ) → IsLabelNode (Some (node_kind (record { op = o; next = next }))) → GoesOn o next
    → (kind_of (operation_code vreg held result o) (operation_exit vreg o r) ≡ LabelNode (Some r)) × ((q : ℕ) × (next ≡ Some q)) × (node_kind (record { op = o; next = next }) ≡ LabelNode next)
entry_kind held result (op.Label l) next r is g = (refl, g, refl)
entry_kind held result (op.Const t n) next r is g = absurd is
entry_kind held result (op.Get t x) next r is g = absurd is
entry_kind held result (op.Put x t) next r is g = absurd is
entry_kind held result (op.Neg t) next r is g = absurd is
entry_kind held result (op.Not t) next r is g = absurd is
entry_kind held result (op.Narrow h t) next r is g = absurd is
entry_kind held result (op.Bin o t u) next r is g = absurd is
entry_kind held result (op.Shl n t) next r is g = absurd is
entry_kind held result (op.Shr n keeps_sign t) next r is g = absurd is
entry_kind held result (op.Load h t) next r is g = absurd is
entry_kind held result (op.Store h t u) next r is g = absurd is
entry_kind held result (op.ReadPort t) next r is g = absurd is
entry_kind held result (op.WritePort t) next r is g = absurd is
entry_kind held result (op.Arg h first t) next r is g = absurd is
entry_kind held result (op.Call c) next r is g = absurd is
entry_kind held result (op.Result h t) next r is g = absurd is
entry_kind held result (op.Test t on_true on_false) next r is g = absurd is
entry_kind held result op.Return next r is g = absurd is
entry_kind held result (op.ReturnValue t) next r is g = absurd is

-- ---- a function

module _ (f : RtFunction) (exist : NodesExist f) (goes : PathsGoOn f) (labelled : SoundlyLabelled (flow_graph f) f.entry) where
  abbrev none : RtNode
  none = record { op = op.Return; next = None }

  abbrev new : ℕ
  new = length f.nodes

  abbrev g : Graph Vreg
  g = translated_function vreg f

  entry_at : (node : RtNode) → IsAt f f.entry node → (q : ℕ) × (flow_graph f f.entry ≡ Some (LabelNode (Some q))) × (entry_next f ≡ q) × (flow_of g f.entry ≡ Some (LabelNode (Some new)))
  entry_at node is =
      let flow : flow_graph f f.entry ≡ Some (node_kind node) = ap (λ (n : Option RtNode). option_map node_kind n) is in
      let k = entry_kind f.held f.result node.op node.next new (subst IsLabelNode flow labelled.entry_marked) (goes f.entry node is) in
      let q = k.1.0 in
      let next_is = k.1.1 in (
        q,
        flow ∙ ap Some k.2 ∙ ap (λ n. Some (LabelNode n)) next_is,
        ap (λ n. next_or f.entry (next_in n)) is ∙ ap (next_or f.entry) next_is,
        ap kind_or_none (old_node vreg f f.entry node is) ∙ ap (λ r. Some (kind_of (operation_code vreg f.held f.result node.op) (operation_exit vreg node.op r))) (next_entry f.entry new f.entry node.next refl) ∙ ap Some k.0,
      )

  old_flow : (q : ℕ) (node : RtNode) → IsAt f q node → q ≢ f.entry → flow_of g q ≡ flow_graph f q
  old_flow q node is other =
      ap kind_or_none (old_node vreg f q node is)
      ∙ ap Some (kind_same f.held f.result node.op node.next q _ (goes q node is) (next_other f.entry new q node.next other))
      ∙ sym (ap (λ (n : Option RtNode). option_map node_kind n) is)

  length_all : length (all_nodes vreg f) ≡ new + 1
  length_all = length-append (nodes_from vreg f new 0 f.nodes) (entry_node vreg f.held f.params (entry_next f) ∷ []) ∙ ap (λ n. n + 1) (length_nodes_from vreg f new 0 f.nodes)

  past_flow : (q : ℕ) → new < q → flow_of g q ≡ flow_graph f q
  past_flow q far =
      let all = length_all in
      ap kind_or_none (slice_get_past (all_nodes vreg f) q (omega (arith, all, far))) ∙ sym (ap (λ (n : Option RtNode). option_map node_kind n) (slice_get_past f.nodes q (omega (arith, far))))

  entry_fact : (q : ℕ) × (flow_graph f f.entry ≡ Some (LabelNode (Some q))) × (entry_next f ≡ q) × (flow_of g f.entry ≡ Some (LabelNode (Some new)))
  entry_fact = entry_at _ (slice_get-get_or f.nodes f.entry none exist.0)

  -- the new graph
  pub flow_is : (q : ℕ) → flow_of g q ≡ inserted (flow_graph f) f.entry new (entry_next f) q
  unfolding inserted
  flow_is q = ⊎_elim
      (λ e. ap (flow_of g) e.1 ∙ entry_fact.3 ∙ sym (ap (λ b. node b (nat_eq q new)) e.0))
      (λ e. ⊎_elim
      (λ e'. ap (flow_of g) e'.1 ∙ ap kind_or_none (new_node vreg f) ∙ sym (ap₂ node e.0 e'.0))
      (λ e'. elsewhere e.1 e'.1 ∙ sym (ap₂ node e.0 e'.0))
      (eqb_tells q new))
      (eqb_tells q f.entry)
    where
      node : Bool → Bool → Option NodeKind
      node at_entry at_new = if at_entry then Some (LabelNode (Some new)) else (if at_new then Some (PlainNode (Some (entry_next f))) else flow_graph f q)

      elsewhere : q ≢ f.entry → q ≢ new → flow_of g q ≡ flow_graph f q
      elsewhere other other' = ⊎_elim
          (λ below. old_flow q _ (slice_get-get_or f.nodes q none below) other)
          (λ above. past_flow q (omega (arith, above, other')))
          (cases_lt q new)

  unreached : (q : ℕ) → LeadsTo (flow_graph f q) new → ⊥
  unreached q to = by (slice_get f.nodes q) refl
    where
      by : (n : Option RtNode) → slice_get f.nodes q ≡ n → ⊥
      by None is = subst (λ n. LeadsTo (option_map node_kind n) new) is to
      by (Some node) is = let below = exist.1 q node is new (subst (λ n. LeadsTo (option_map node_kind n) new) is to) in omega (arith, below)

  pub function_labelled : SoundlyLabelled (flow_of g) f.entry
  function_labelled =
      let e = entry_fact in
      let entry_is' : flow_graph f f.entry ≡ Some (LabelNode (Some (entry_next f))) = e.1 ∙ ap (λ q. Some (LabelNode (Some q))) (sym e.2) in
      let below = exist.0 in
      let apart : new ≢ f.entry = λ e'. omega (arith, e', below) in
      let none_there : flow_graph f new ≡ None = ap (λ (n : Option RtNode). option_map node_kind n) (slice_get_past f.nodes new (omega arith)) in
      subst (λ flow. SoundlyLabelled flow f.entry) (sym (fun_ext flow_is)) (inserted_labelled (flow_graph f) f.entry new (entry_next f) labelled entry_is' apart unreached none_there)

-- ---- the program

functions_labelled : (fs : List RtFunction) → ((i : ℕ) (f : RtFunction) → slice_get fs i ≡ Some f → SoundlyLabelled (flow_of (translated_function vreg f)) f.entry) → AreSoundlyLabelled (map (translated_function vreg) fs)
functions_labelled [] each = tt
functions_labelled (f ∷ fs) each = (each 0 f refl, functions_labelled fs (λ i f is. each (suc i) f is))

-- the clause on labels
pub translation_labelled : (p : RtLabs) → IsWellFormed p → GraphsAreLabelled p → AreSoundlyLabelled (translated p).graphs
translation_labelled p wf labelled = functions_labelled p.functions (λ i f is. let formed = wf.functions i f is in function_labelled f formed.nodes_exist formed.paths_go_on (labelled i f is))
