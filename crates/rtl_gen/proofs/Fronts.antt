-- What is live in a translated function, seen from the nodes of the function: an invariant of its nodes shows that a location is live
-- in front of none of them, nor at the entry.
use Rattle.std.proofs.Common.{◌≡◌, ◌≢◌, ℕ, ◌<◌, ◌⊎◌, inl, inr, ⊎_elim, List, [], ◌∷◌, length, Option, Some, None, refl, sym, ap, ◌∙◌, subst}
use Rattle.std.specs.Prelude.{slice_get, option_map}
use Rattle.std.proofs.lemmas.Option.{slice_get-get_or}
use Rattle.cerco_traces.specs.LabelledGraphs.{In, only, IsLabelNode, LeadsTo, SoundlyLabelled}
use Rattle.cerco_middle.specs.declared.rtlabs.RtOp.{RtOp}
use Rattle.cerco_middle.specs.declared.rtlabs.RtOp.TheVariants as op
use Rattle.cerco_middle.specs.declared.rtlabs.RtNode.{RtNode}
use Rattle.cerco_middle.specs.RtLabs.Graphs.{RtFunction, flow_graph, node_kind, next_nodes}
use Rattle.cerco_middle.specs.RtLabs.WellFormed.{IsAt, GoesOn, NodesExist, PathsGoOn}
use Rattle.rtl.specs.Operations.{ByteOp}
use Rattle.rtl.specs.Programs.{Node, Graph}
use Rattle.rtl.specs.Effects.{Storage, Loc}
use Rattle.rtl.specs.Graphs.{node_or, node_at, ops_at}
use Rattle.rtl.specs.Liveness.{Uses, Overwrites, GoesTo, LiveAt}
use Rattle.byte_sequences.specs.Operations.{operation_code, operation_exit, operation_node}
use Rattle.byte_sequences.proofs.OperationLaws.{number}
use Rattle.rtl_gen.specs.Translation.{next_or, next_of, entry_code, translated_function}
use Rattle.rtl_gen.proofs.Nodes.{old_node, entry_is, new_is, next_other}
use Rattle.rtl_gen.proofs.LivePaths.{Guarded, Ends, never_live}

-- ---- where an operation goes on

only_is : (next : Option ℕ) (p r q : ℕ) → ((s : ℕ) × (next ≡ Some s)) → r ≡ next_or p next → r ≡ q → In q (only next)
only_is next p r q g e same = subst (λ n. In q (only n)) (sym g.1) (inl (sym (e ∙ ap (next_or p) g.1) ∙ same))

pub goes_named : (o : RtOp) (next : Option ℕ) (p r q : ℕ) → GoesOn o next → r ≡ next_or p next → GoesTo (operation_exit number o r) q → In q (next_nodes (record { op = o; next = next }))
goes_named (op.Test t on_true on_false) next p r q g e (inl same) = inl same
goes_named (op.Test t on_true on_false) next p r q g e (inr same) = inr (inl same)
goes_named op.Return next p r q g e goes = absurd goes
goes_named (op.ReturnValue t) next p r q g e goes = absurd goes
goes_named (op.Const t n) next p r q g e goes = only_is next p r q g e goes
goes_named (op.Get t x) next p r q g e goes = only_is next p r q g e goes
goes_named (op.Put x t) next p r q g e goes = only_is next p r q g e goes
goes_named (op.Neg t) next p r q g e goes = only_is next p r q g e goes
goes_named (op.Not t) next p r q g e goes = only_is next p r q g e goes
goes_named (op.Narrow h t) next p r q g e goes = only_is next p r q g e goes
goes_named (op.Bin o t u) next p r q g e goes = only_is next p r q g e goes
goes_named (op.Shl n t) next p r q g e goes = only_is next p r q g e goes
goes_named (op.Shr n keeps_sign t) next p r q g e goes = only_is next p r q g e goes
goes_named (op.Load h t) next p r q g e goes = only_is next p r q g e goes
goes_named (op.Store h t u) next p r q g e goes = only_is next p r q g e goes
goes_named (op.ReadPort t) next p r q g e goes = only_is next p r q g e goes
goes_named (op.WritePort t) next p r q g e goes = only_is next p r q g e goes
goes_named (op.Arg h first t) next p r q g e goes = only_is next p r q g e goes
goes_named (op.Call c) next p r q g e goes = only_is next p r q g e goes
goes_named (op.Result h t) next p r q g e goes = only_is next p r q g e goes
goes_named (op.Label l) next p r q g e goes = only_is next p r q g e goes

-- ---- the entry, a label

pub label_of : (o : RtOp) (next : Option ℕ) → IsLabelNode (Some (node_kind (record { op = o; next = next }))) → (l : _) × (o ≡ op.Label l)
label_of (op.Label l) next is = (l, refl)
label_of (op.Const t n) next is = absurd is
label_of (op.Get t x) next is = absurd is
label_of (op.Put x t) next is = absurd is
label_of (op.Neg t) next is = absurd is
label_of (op.Not t) next is = absurd is
label_of (op.Narrow h t) next is = absurd is
label_of (op.Bin o t u) next is = absurd is
label_of (op.Shl n t) next is = absurd is
label_of (op.Shr n keeps_sign t) next is = absurd is
label_of (op.Load h t) next is = absurd is
label_of (op.Store h t u) next is = absurd is
label_of (op.ReadPort t) next is = absurd is
label_of (op.WritePort t) next is = absurd is
label_of (op.Arg h first t) next is = absurd is
label_of (op.Call c) next is = absurd is
label_of (op.Result h t) next is = absurd is
label_of (op.Test t on_true on_false) next is = absurd is
label_of op.Return next is = absurd is
label_of (op.ReturnValue t) next is = absurd is

-- a node that is a label
pub record IsLabelAt (f : RtFunction) (at : ℕ) : Type 0 where
  pub label : _
  pub next : ℕ
  pub is : IsAt f at (record { op = op.Label label; next = Some next })

pub label_at_node : (f : RtFunction) (at : ℕ) → PathsGoOn f → IsLabelNode (flow_graph f at) → IsLabelAt f at
label_at_node f at goes labelled = by (slice_get f.nodes at) refl
  where
    of_label : (l : _) (next : Option ℕ) → IsAt f at (record { op = op.Label l; next = next }) → GoesOn (op.Label l) next → IsLabelAt f at
    of_label l next is g = record { label = l; next = g.0; is = is ∙ ap (λ n. Some (record { op = op.Label l; next = n })) g.1 }

    by : (n : Option RtNode) → slice_get f.nodes at ≡ n → IsLabelAt f at
    by None is = absurd (subst (λ m. IsLabelNode (option_map node_kind m)) is labelled)
    by (Some node) is =
        let l = label_of node.op node.next (subst (λ m. IsLabelNode (option_map node_kind m)) is labelled) in
        of_label l.0 node.next (is ∙ ap (λ o. Some (record { op = o; next = node.next })) l.1) (subst (λ o. GoesOn o node.next) l.1 (goes at node is))

-- ---- an invariant of the nodes

pub guarded_map : (s : Storage) (ops : List (ByteOp ℕ)) (E F : Type 0) → (E → F) → Guarded s ops E → Guarded s ops F
guarded_map s [] E F f e = f e
guarded_map s (op ∷ ops) E F f guard = (guard.0, ⊎_elim (λ among. inl among) (λ later. inr (guarded_map s ops E F f later)) guard.1)

pub node_here : (f : RtFunction) (at : ℕ) (node : RtNode) → IsAt f at node → node_at (translated_function number f) at ≡ operation_node number f.held f.result node.op (next_of f.entry (length f.nodes) at node.next)
node_here f at node is = ap (node_or at) (old_node number f at node is)

module _ (f : RtFunction) (exist : NodesExist f) (goes : PathsGoOn f) (labelled : SoundlyLabelled (flow_graph f) f.entry) where
  abbrev pub graph : Graph ℕ
  graph = translated_function number f

  pub entry_label : IsLabelAt f f.entry
  entry_label = label_at_node f f.entry goes labelled.entry_marked

  module _ (v : ℕ) (Rest : ℕ → Type 0) where
    -- no use at the exit of a node, and the same at the nodes that come after it
    pub record RestEnds (p : ℕ) (node : RtNode) (r : ℕ) : Type 0 where
      pub unused : Uses 12 (operation_exit number node.op r) graph p (Loc v) → ⊥
      pub next : (q : ℕ) → (Overwrites 12 (operation_exit number node.op r) (Loc v) → ⊥) → In q (next_nodes node) → Rest q

    -- the node after the entry
    abbrev pub First : Type 0
    First = (l : _) (q : ℕ) → IsAt f f.entry (record { op = op.Label l; next = Some q }) → Rest q

    -- a node that another one leads to is an old one, and not the entry
    led_to : (p : ℕ) (node : RtNode) (q : ℕ) → IsAt f p node → In q (next_nodes node) → (q ≢ f.entry) × (q < length f.nodes)
    led_to p node q is next =
        (λ e. labelled.entry_alone p (subst (λ o. LeadsTo o f.entry) (sym (ap (λ (n : Option RtNode). option_map node_kind n) is)) (subst (λ z. In z (next_nodes node)) e next)), exist.1 p node is q next)

    module _ (rest : (p : ℕ) → p ≢ f.entry → (node : RtNode) → IsAt f p node → (r : ℕ) → Rest p → Guarded (Loc v) (operation_code number f.held f.result node.op) (RestEnds p node r)) where
      -- at an old node, for what follows from the invariant
      at_rest : (J : ℕ → Type 0) → ((q : ℕ) → (q ≢ f.entry) × (q < length f.nodes) × Rest q → J q) → (p : ℕ) → (p ≢ f.entry) × (p < length f.nodes) × Rest p → Guarded (Loc v) (ops_at graph p) (Ends graph (Loc v) J p)
      at_rest J inject p h = by _ (slice_get-get_or f.nodes p (record { op = op.Return; next = None }) h.1)
        where
          by : (node : RtNode) → IsAt f p node → Guarded (Loc v) (ops_at graph p) (Ends graph (Loc v) J p)
          by node is =
              let r = next_of f.entry (length f.nodes) p node.next in
              let here = node_here f p node is in
              let exit = ap (λ (n : Node ℕ). n.exit) here in
              subst (λ (n : Node ℕ). Guarded (Loc v) n.ops (Ends graph (Loc v) J p)) (sym here)
              (guarded_map (Loc v) (operation_code number f.held f.result node.op) (RestEnds p node r) (Ends graph (Loc v) J p)
              (λ ends. record {
                unused = λ uses. ends.unused (subst (λ x. Uses 12 x graph p (Loc v)) exit uses);
                next = λ q not_over goes'.
                    let named = goes_named node.op node.next p r q (goes p node is) (next_other f.entry (length f.nodes) p node.next h.0) (subst (λ x. GoesTo x q) exit goes') in
                    let there = led_to p node q is named in
                    inject q (there.0, there.1, ends.next q (λ over. not_over (subst (λ x. Overwrites 12 x (Loc v)) (sym exit) over)) named);
              })
              (rest p h.0 node is r h.2))

      abbrev Old : ℕ → Type 0
      Old p = (p ≢ f.entry) × (p < length f.nodes) × Rest p

      pub rest_dead : (p : ℕ) → p ≢ f.entry → p < length f.nodes → Rest p → LiveAt 12 graph (Loc v) p → ⊥
      rest_dead p other below holds live = never_live graph (Loc v) Old (at_rest Old (λ q h. h)) p (other, below, holds) live

      module _ (enter : Guarded (Loc v) (entry_code number f.held f.params) First) where
        abbrev Inv : ℕ → Type 0
        Inv p = (p ≡ f.entry) ⊎ ((p ≡ length f.nodes) ⊎ Old p)

        at_entry : Guarded (Loc v) (ops_at graph f.entry) (Ends graph (Loc v) Inv f.entry)
        at_entry =
            let e = entry_label in
            let is = entry_is f f.entry (op.Label e.label) e.next e.is refl in
            let exit = ap (λ (n : Node ℕ). n.exit) is in
            subst (λ (n : Node ℕ). Guarded (Loc v) n.ops (Ends graph (Loc v) Inv f.entry)) (sym is) (record {
              unused = λ uses. subst (λ x. Uses 12 x graph f.entry (Loc v)) exit uses;
              next = λ q not_over goes'. inr (inl (sym (subst (λ x. GoesTo x q) exit goes')));
            })

        at_new : Guarded (Loc v) (ops_at graph (length f.nodes)) (Ends graph (Loc v) Inv (length f.nodes))
        at_new =
            let e = entry_label in
            let is = new_is f f.entry (op.Label e.label) e.next e.is refl in
            let exit = ap (λ (n : Node ℕ). n.exit) is in
            let there = led_to f.entry (record { op = op.Label e.label; next = Some e.next }) e.next e.is (inl refl) in
            subst (λ (n : Node ℕ). Guarded (Loc v) n.ops (Ends graph (Loc v) Inv (length f.nodes))) (sym is) (guarded_map (Loc v) (entry_code number f.held f.params) First (Ends graph (Loc v) Inv (length f.nodes)) (λ first. record {
              unused = λ uses. subst (λ x. Uses 12 x graph (length f.nodes) (Loc v)) exit uses;
              next = λ q not_over goes'.
                  let same : e.next ≡ q = subst (λ x. GoesTo x q) exit goes' in
                  inr (inr (subst Old same (there.0, there.1, first e.label e.next e.is)));
            }) enter)

        each : (p : ℕ) → Inv p → Guarded (Loc v) (ops_at graph p) (Ends graph (Loc v) Inv p)
        each p (inl e) = subst (λ z. Guarded (Loc v) (ops_at graph z) (Ends graph (Loc v) Inv z)) (sym e) at_entry
        each p (inr (inl e)) = subst (λ z. Guarded (Loc v) (ops_at graph z) (Ends graph (Loc v) Inv z)) (sym e) at_new
        each p (inr (inr h)) = at_rest Inv (λ q h'. inr (inr h')) p h

        pub entry_dead : LiveAt 12 graph (Loc v) f.entry → ⊥
        entry_dead live = never_live graph (Loc v) Inv each f.entry (inl refl) live
