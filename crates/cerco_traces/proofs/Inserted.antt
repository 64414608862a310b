-- A soundly labelled graph stays so where a new node comes after its entry.
use Rattle.std.proofs.Common.{◌≡◌, ◌≢◌, ℕ, Option, Some, None, ◌⊎◌, inl, inr, refl, sym, ap, ◌∙◌, subst, ⊎_elim}
use Rattle.std.specs.Prelude.{Bool, false, nat_eq, if◌then◌else◌}
use Rattle.std.proofs.lemmas.Bool.Decides.{eqb_tells}
use Rattle.cerco_traces.specs.LabelledGraphs.{NodeKind, LabelNode, BranchNode, CallNode, PlainNode, FlowGraph, LeadsTo, IsLabelNode, UnlabelledPath, edge, longer, SoundlyLabelled, inserted}

module _ (G : FlowGraph) (entry new next : ℕ) (labelled : SoundlyLabelled G entry) (entry_is : G entry ≡ Some (LabelNode (Some next))) (apart : new ≢ entry) (unreached : (q : ℕ) → LeadsTo (G q) new → ⊥) (none : G new ≡ None) where
  H : FlowGraph
  H = inserted G entry new next

  -- each place of the new graph is of one of three kinds
  data Place (p : ℕ) : Type 0 where
    first : p ≡ entry → H p ≡ Some (LabelNode (Some new)) → Place p
    second : p ≡ new → H p ≡ Some (PlainNode (Some next)) → Place p
    old : p ≢ entry → p ≢ new → H p ≡ G p → Place p

  abbrev node : Bool → Bool → Option NodeKind → Option NodeKind
  node at_entry at_new was = if at_entry then Some (LabelNode (Some new)) else (if at_new then Some (PlainNode (Some next)) else was)

  place : (p : ℕ) → Place p
  unfolding H inserted
  place p =
      ⊎_elim
      (λ a. first a.1 (ap (λ b. node b (nat_eq p new) (G p)) a.0))
      (λ a. ⊎_elim
      (λ b. second b.1 (ap (λ c. node c (nat_eq p new) (G p)) a.0 ∙ ap (λ c. node false c (G p)) b.0))
      (λ b. old a.1 b.1 (ap (λ c. node c (nat_eq p new) (G p)) a.0 ∙ ap (λ c. node false c (G p)) b.0))
      (eqb_tells p new))
      (eqb_tells p entry)

  marked_branch : {n : Option ℕ} {true_arm false_arm : ℕ} → Some (LabelNode n) ≡ Some (BranchNode true_arm false_arm) → ⊥
  marked_branch e = cc

  marked_calling : {n m : Option ℕ} → Some (LabelNode n) ≡ Some (CallNode m) → ⊥
  marked_calling e = cc

  plain_branch : {n : Option ℕ} {true_arm false_arm : ℕ} → Some (PlainNode n) ≡ Some (BranchNode true_arm false_arm) → ⊥
  plain_branch e = cc

  plain_calling : {n m : Option ℕ} → Some (PlainNode n) ≡ Some (CallNode m) → ⊥
  plain_calling e = cc

  was_branch : (p true_arm false_arm : ℕ) → H p ≡ Some (BranchNode true_arm false_arm) → G p ≡ Some (BranchNode true_arm false_arm)
  was_branch p true_arm false_arm e = by (place p)
    where
      by : Place p → G p ≡ Some (BranchNode true_arm false_arm)
      by (first at is) = absurd (marked_branch (sym is ∙ e))
      by (second at is) = absurd (plain_branch (sym is ∙ e))
      by (old ne ne' is) = sym is ∙ e

  was_calling : (p n : ℕ) → H p ≡ Some (CallNode (Some n)) → G p ≡ Some (CallNode (Some n))
  was_calling p n e = by (place p)
    where
      by : Place p → G p ≡ Some (CallNode (Some n))
      by (first at is) = absurd (marked_calling (sym is ∙ e))
      by (second at is) = absurd (plain_calling (sym is ∙ e))
      by (old ne ne' is) = sym is ∙ e

  marked_on : (p : ℕ) → IsLabelNode (G p) → IsLabelNode (H p)
  marked_on p m = by (place p)
    where
      by : Place p → IsLabelNode (H p)
      by (first at is) = subst IsLabelNode (sym is) tt
      by (second at is) = absurd (subst IsLabelNode (ap G at ∙ none) m)
      by (old ne ne' is) = subst IsLabelNode (sym is) m

  -- what leads to an old place did true_arm before, or the entry did
  led : (q x : ℕ) → x ≢ new → LeadsTo (H q) x → ((q ≡ new) × (next ≡ x)) ⊎ LeadsTo (G q) x
  led q x ne h = by (place q)
    where
      by : Place q → ((q ≡ new) × (next ≡ x)) ⊎ LeadsTo (G q) x
      by (first at is) = ⊎_elim (λ (e : new ≡ x). absurd (ne (sym e))) (λ (n : ⊥). absurd n) (subst (λ o. LeadsTo o x) is h)
      by (second at is) = ⊎_elim (λ (e : next ≡ x). inl (at, e)) (λ (n : ⊥). absurd n) (subst (λ o. LeadsTo o x) is h)
      by (old ne1 ne2 is) = inr (subst (λ o. LeadsTo o x) is h)

  to_next : LeadsTo (G entry) next
  to_next = subst (λ o. LeadsTo o next) (sym entry_is) (inl refl)

  -- only the entry leads to the new node
  to_new : (q : ℕ) → LeadsTo (H q) new → IsLabelNode (H q)
  to_new q h = by (place q)
    where
      by : Place q → IsLabelNode (H q)
      by (first at is) = subst IsLabelNode (sym is) tt
      by (second at is) = ⊎_elim (λ (e : next ≡ new). absurd (unreached entry (subst (λ z. LeadsTo (G entry) z) e to_next))) (λ (n : ⊥). absurd n) (subst (λ o. LeadsTo o new) is h)
      by (old ne ne' is) = absurd (unreached q (subst (λ o. LeadsTo o new) is h))

  -- a path without labels keeps off the new node, from its second place on
  was_edge : (p q : ℕ) → p ≢ new → (IsLabelNode (H p) → ⊥) → LeadsTo (H p) q → (q ≢ new) × (IsLabelNode (G p) → ⊥) × LeadsTo (G p) q
  was_edge p q ne nm h =
      let ne' : q ≢ new = λ e. nm (to_new p (subst (λ z. LeadsTo (H p) z) e h)) in
      (ne', λ m. nm (marked_on p m), ⊎_elim (λ a. absurd (ne a.0)) (λ a. a) (led p q ne' h))

  was_path : (p q : ℕ) → p ≢ new → UnlabelledPath H p q → (q ≢ new) × UnlabelledPath G p q
  was_path p q ne (edge p' q' nm h) = let a = was_edge _ _ ne nm h in (a.0, edge _ _ a.1 a.2)
  was_path p r ne (longer p' q r' nm h w) = let a = was_edge _ q ne nm h in let b = was_path q _ a.0 w in (b.0, longer _ q _ a.1 a.2 b.1)

  ends_off : (p q : ℕ) → UnlabelledPath H p q → q ≢ new
  ends_off p q (edge p' q' nm h) = λ e. nm (to_new _ (subst (λ z. LeadsTo (H p) z) e h))
  ends_off p r (longer p' q r' nm h w) = ends_off q r w

  pub inserted_labelled : SoundlyLabelled (inserted G entry new next) entry
  unfolding H
  inserted_labelled = record {
    arms = λ p true_arm false_arm e. let a = labelled.arms p true_arm false_arm (was_branch p true_arm false_arm e) in (marked_on true_arm a.0, marked_on false_arm a.1);
    one_false = λ p q true_arm true_arm' false_arm e e'. labelled.one_false p q true_arm true_arm' false_arm (was_branch p true_arm false_arm e) (was_branch q true_arm' false_arm e');
    after_call = λ p n e.
        let c = was_calling p n e in
        let a = labelled.after_call p n c in
        let off : n ≢ new = λ h. unreached p (subst (λ o. LeadsTo o new) (sym c) (inl h)) in (
          marked_on n a.0,
          λ q h. ⊎_elim
              (λ b. absurd (marked_calling (sym entry_is ∙ ap G (a.1 entry (subst (λ z. LeadsTo (G entry) z) b.1 to_next)) ∙ c)))
              (λ b. a.1 q b)
              (led q n off h),
        );
    entry_marked = marked_on entry labelled.entry_marked;
    entry_alone = λ q h. ⊎_elim
        (λ b. labelled.entry_alone entry (subst (λ z. LeadsTo (G entry) z) b.1 to_next))
        (λ b. labelled.entry_alone q b)
        (led q entry (λ e. apart (sym e)) h);
    cycles = λ p w. labelled.cycles p (was_path p p (ends_off p p w) w).1;
  }
