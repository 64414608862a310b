-- A graph with a certificate is soundly labelled.
use Rattle.std.proofs.Common.{◌≡◌, ℕ, suc, ◌<◌, List, [], ◌∷◌, length, true, Option, Some, None, inl, inr, refl, sym, ap, ◌∙◌, subst, arith}
use Rattle.std.specs.Prelude.{slice_get, option_map}
use Rattle.cerco_traces.specs.LabelledGraphs.{NodeKind, BranchNode, CallNode, FlowGraph, In, LeadsTo, IsLabelNode, UnlabelledPath, edge, longer, SoundlyLabelled}
use Rattle.cerco_middle.specs.declared.operators.Held.{Held}
use Rattle.cerco_middle.specs.declared.rtlabs.RtOp.{RtOp}
use Rattle.cerco_middle.specs.declared.rtlabs.RtOp.TheVariants as o
use Rattle.cerco_middle.specs.declared.rtlabs.RtNode.{RtNode}
use Rattle.cerco_middle.specs.Calls.{Argument}
use Rattle.cerco_middle.specs.RtLabs.Graphs.{RtFunction, kind_of, node_kind, flow_graph, next_nodes}
use Rattle.rtlabs_gen.proofs.Lists.{get_within, node_below}
use Rattle.rtlabs_gen.proofs.Certificate.{Facts, IsLabelOp, Falls, Arms, Tied, IsCertified}

-- ---- which node has a kind

no_kind : {k : NodeKind} → None ≡ Some k → ⊥
no_kind e = cc

some_kind : {j k : NodeKind} → Some j ≡ Some k → j ≡ k
some_kind e = cc

branch_op : (op : RtOp) (next : Option ℕ) (a b : ℕ) → kind_of op next ≡ BranchNode a b → (t : ℕ) × (op ≡ o.Test t a b)
branch_op (o.Test t one other) next a b e = (t, cc)
branch_op _ next a b e = let none : ⊥ = cc in absurd none

branch_is : (n : Option RtNode) (a b : ℕ) → option_map node_kind n ≡ Some (BranchNode a b) → (m : RtNode) × (t : ℕ) × (n ≡ Some m) × (m.op ≡ o.Test t a b)
branch_is None a b e = absurd (no_kind e)
branch_is (Some m) a b e = let x = branch_op m.op m.next a b (some_kind e) in (m, x.0, refl, x.1)

call_op : (op : RtOp) (next : Option ℕ) (q : ℕ) → kind_of op next ≡ CallNode (Some q) → (g : ℕ) × (op ≡ o.Call g) × (next ≡ Some q)
call_op (o.Call g) next q e = (g, refl, cc)
call_op _ next q e = let none : ⊥ = cc in absurd none

call_is : (n : Option RtNode) (q : ℕ) → option_map node_kind n ≡ Some (CallNode (Some q)) → (m : RtNode) × (g : ℕ) × (n ≡ Some m) × (m.op ≡ o.Call g) × (m.next ≡ Some q)
call_is None q e = absurd (no_kind e)
call_is (Some m) q e = let x = call_op m.op m.next q (some_kind e) in (m, x.0, refl, x.1, x.2)

leads_is : (n : Option RtNode) (q : ℕ) → LeadsTo (option_map node_kind n) q → (m : RtNode) × (n ≡ Some m) × In q (next_nodes m)
leads_is None q leads = absurd leads
leads_is (Some m) q leads = (m, refl, leads)

label_kind : (op : RtOp) (next : Option ℕ) → IsLabelOp op → IsLabelNode (Some (kind_of op next))
label_kind (o.Label l) next is = tt
label_kind _ next is = absurd is

falls_down : (op : RtOp) (next : Option ℕ) (p q : ℕ) → (IsLabelNode (Some (kind_of op next)) → ⊥) → Falls op p q → q < p
falls_down (o.Label l) next p q none falls = absurd (none tt)
falls_down _ next p q none falls = falls

tied_test : (facts : Facts) (p : ℕ) (op : RtOp) (next : Option ℕ) (t a b : ℕ) → op ≡ o.Test t a b → Tied facts p op next → ((facts a).label ≡ true) × ((facts b).label ≡ true) × Arms a b p
tied_test facts p op next t a b is tied = let P : RtOp → Type 0 = λ x. Tied facts p x next in subst P is tied

tied_call : (facts : Facts) (p : ℕ) (op : RtOp) (next : Option ℕ) (g q : ℕ) → op ≡ o.Call g → next ≡ Some q → Tied facts p op next → ((facts q).label ≡ true) × ((facts q).owned ≡ true)
tied_call facts p op next g q is goes tied = let P : RtOp → Option ℕ → Type 0 = λ x y. Tied facts p x y in subst (λ y. P (o.Call g) y) goes (subst (λ x. P x next) is tied)

next_of_call : (n : RtNode) (g q : ℕ) → n.op ≡ o.Call g → n.next ≡ Some q → In q (next_nodes n)
next_of_call n g q is goes = let P : RtOp → Option ℕ → Type 0 = λ x y. In q (next_nodes (record { op = x; next = y })) in subst (λ y. P n.op y) (sym goes) (subst (λ x. P x (Some q)) (sym is) (inl refl))

not_label : (op : RtOp) (t a b : ℕ) → op ≡ o.Test t a b → IsLabelOp op → ⊥
not_label op t a b is label = subst IsLabelOp is label

module _ (Meets : ℕ → List Argument → Type 0) (ResultOf : ℕ → Held → Type 0) (f : RtFunction) (c : IsCertified Meets ResultOf f.nodes f.entry) where
  G : FlowGraph
  G = flow_graph f

  labelled_at : (y : ℕ) → y < length f.nodes → (c.facts y).label ≡ true → IsLabelNode (flow_graph f y)
  labelled_at y below label =
      let n = node_below f.nodes y below in
      let good = c.sure.each y n.0 n.1 in
      subst (λ m. IsLabelNode (option_map node_kind m)) (sym n.1) (label_kind n.0.op n.0.next (good.marked label))

  -- where an edge leads
  below_next : (p : ℕ) (n : RtNode) → slice_get f.nodes p ≡ Some n → (q : ℕ) → In q (next_nodes n) → q < length f.nodes
  below_next p n e q i = ((c.sure.each p n e).edges q i).below

  only_way : (p q : ℕ) → (c.facts q).owned ≡ true → LeadsTo (flow_graph f p) q → p ≡ suc q
  only_way p q owned leads =
      let n = leads_is (slice_get f.nodes p) q leads in
      ((c.sure.each p n.0 n.1).edges q n.2).owned owned

  -- the arms of a test at p
  record Tests (p a b : ℕ) : Type 0 where
    not_labelled : (c.facts p).label ≡ true → ⊥
    true_label : (c.facts a).label ≡ true
    false_label : (c.facts b).label ≡ true
    true_below : a < length f.nodes
    false_below : b < length f.nodes
    arms : Arms a b p

  tests : (p a b : ℕ) → flow_graph f p ≡ Some (BranchNode a b) → Tests p a b
  tests p a b e =
      let n = branch_is (slice_get f.nodes p) a b e in
      let good = c.sure.each p n.0 n.2 in
      let tied = tied_test c.facts p n.0.op n.0.next n.1 a b n.3 good.tied in
      let leads = λ (q : ℕ) (i : In q (a ∷ b ∷ [])). (good.edges q (subst (λ x. In q (next_nodes (record { op = x; next = n.0.next }))) (sym n.3) i)).below in
      record {
        not_labelled = λ label. not_label n.0.op n.1 a b n.3 (good.marked label);
        true_label = tied.0;
        false_label = tied.1;
        true_below = leads a (inl refl);
        false_below = leads b (inr (inl refl));
        arms = tied.2;
      }

  -- two tests with one false arm
  same_test : (p q a a' b : ℕ) → Tests p a b → Tests q a' b → Arms a b p → Arms a' b q → p ≡ q
  same_test p q a a' b x y (inl s) (inl t) = omega arith
  same_test p q a a' b x y (inr s) (inr t) = omega arith
  same_test p q a a' b x y (inl s) (inr t) =
      let same : a ≡ q = omega arith in
      absurd (y.not_labelled (ap (λ k. (c.facts k).label) (sym same) ∙ x.true_label))
  same_test p q a a' b x y (inr s) (inl t) =
      let same : a' ≡ p = omega arith in
      absurd (x.not_labelled (ap (λ k. (c.facts k).label) (sym same) ∙ y.true_label))

  down : (p q : ℕ) → (IsLabelNode (flow_graph f p) → ⊥) → LeadsTo (flow_graph f p) q → q < p
  down p q none leads =
      let n = leads_is (slice_get f.nodes p) q leads in
      let none' = subst (λ m. IsLabelNode (option_map node_kind m) → ⊥) n.1 none in
      falls_down n.0.op n.0.next p q none' ((c.sure.each p n.0 n.1).edges q n.2).falls

  all_down : (p q : ℕ) → UnlabelledPath (flow_graph f) p q → q < p
  all_down p q (edge _ _ none leads) = down p q none leads
  all_down p r (longer _ q _ none leads path) = let a = down p q none leads in let b = all_down q r path in omega arith

  pub certified_labelled : SoundlyLabelled (flow_graph f) f.entry
  certified_labelled = record {
    arms = λ p a b e. let t = tests p a b e in (labelled_at a t.true_below t.true_label, labelled_at b t.false_below t.false_label);
    one_false = λ p q a a' b e e'. let x = tests p a b e in let y = tests q a' b e' in same_test p q a a' b x y x.arms y.arms;
    after_call = λ p next e.
        let n = call_is (slice_get f.nodes p) next e in
        let good = c.sure.each p n.0 n.2 in
        let tied = tied_call c.facts p n.0.op n.0.next n.1 next n.3 n.4 good.tied in
        let this = good.edges next (next_of_call n.0 n.1 next n.3 n.4) in
        (labelled_at next this.below tied.0, λ q leads. only_way q next tied.1 leads ∙ sym (this.owned tied.1));
    entry_marked = labelled_at f.entry c.below c.labelled;
    entry_alone = λ q leads.
        let n = leads_is (slice_get f.nodes q) f.entry leads in
        let within = get_within f.nodes q n.0 n.1 in
        let after = only_way q f.entry c.alone leads in
        let last = c.last in
        absurd (omega arith);
    cycles = λ p path. let lower = all_down p p path in absurd (omega arith);
  }
