-- One more mark keeps what is said of marks.
use Rattle.std.proofs.Common.{◌≡◌, ◌≢◌, ℕ, ◌+◌, ◌<◌, ◌≤◌, ◌⊎◌, ◌↔◌, inl, inr, List, [], ◌∷◌, ◌++◌, length, Bool, true, Some, slice_get, slice_set, sym, ap, ◌∙◌, subst, arith}
use Rattle.cerco_traces.specs.LabelledGraphs.{In}
use Rattle.rtl.specs.declared.locations.Vreg.{Vreg}
use Rattle.rtl.specs.Programs.{Node}
use Rattle.rtl.specs.declared.live_sets.LiveSets.{LiveSets}
use Rattle.rtl.specs.Locations.{vreg_number}
use Rattle.rtl.specs.Graphs.{renamed_exit}
use Rattle.rtl.specs.LiveSets.{vregs_before}
use Rattle.rtl.specs.Liveness.{GoesTo}
use Rattle.colouring.specs.Code.Rows.{mark_at}
use Rattle.colouring.specs.Code.Neighbours.{numbers, IsGoneTo, IsAfterCall, IsAfterCallOf}
use Rattle.colouring.proofs.Members.{in_front, in_back, in_either, same_or_not, mark_here, mark_elsewhere}
use Rattle.colouring.proofs.NodePairs.{nothing_there}

pub one_marked : (marks : List Bool) (q p x : ℕ) → q < p → mark_at (slice_set marks q true) x ≡ true → (mark_at marks x ≡ true) ⊎ ((q ≡ x) × (x < p))
one_marked marks q p x lt is = by_case (same_or_not x q)
  where
    by_case : (x ≡ q) ⊎ (x ≢ q) → (mark_at marks x ≡ true) ⊎ ((q ≡ x) × (x < p))
    by_case (inl e) = inr (sym e, omega (arith, e, lt))
    by_case (inr ne) = inl (sym (mark_elsewhere marks q x ne) ∙ is)

-- two turns
pub then_marked : (A B C D : Type 0) → (B → A ⊎ C) → (A → D ⊎ C) → B → D ⊎ C
then_marked A B C D f h b = by_case (f b)
  where
    by_case : A ⊎ C → D ⊎ C
    by_case (inl a) = h a
    by_case (inr c) = inr c

pub gone_more :
    (nodes : List (Node Vreg)) (p : ℕ) (node : Node Vreg) (q : ℕ) (old : Bool) → slice_get nodes p ≡ Some node → (old ≡ true → IsGoneTo nodes p q) → (old ≡ true) ⊎ (GoesTo (renamed_exit vreg_number node.exit) q × (q < p)) → IsGoneTo nodes (p + 1) q
gone_more nodes p node q old found before (inl is) = let h = before is in let lt = h.2 in (h.0, h.1, omega (arith, lt), h.3, h.4, h.5)
gone_more nodes p node q old found before (inr h) = (p, node, omega arith, found, h.0, h.1)

-- each one of these and one more
pub each_marked :
    (P : ℕ → Type 0) (marks : List Bool) (k : ℕ) (xs zs : List ℕ) → k < length marks → zs ≡ xs ++ k ∷ [] → ((x : ℕ) → (mark_at marks x ≡ true) ↔ (P x ⊎ In x xs)) → (x : ℕ) → (mark_at (slice_set marks k true) x ≡ true) ↔ (P x ⊎ In x zs)
each_marked P marks k xs zs lt e so_far x = (λ is. subst (λ z. P x ⊎ In x z) (sym e) (forth (same_or_not x k) is), λ h. back (same_or_not x k) (subst (λ z. P x ⊎ In x z) e h))
  where
    longer : P x ⊎ In x xs → P x ⊎ In x (xs ++ k ∷ [])
    longer (inl p) = inl p
    longer (inr i) = inr (in_front x xs (k ∷ []) i)

    forth : (x ≡ k) ⊎ (x ≢ k) → mark_at (slice_set marks k true) x ≡ true → P x ⊎ In x (xs ++ k ∷ [])
    forth (inl same) is = inr (in_back x xs (k ∷ []) (inl (sym same)))
    forth (inr ne) is = longer ((so_far x).0 (sym (mark_elsewhere marks k x ne) ∙ is))

    shorter : x ≢ k → In x xs ⊎ In x (k ∷ []) → P x ⊎ In x xs
    shorter ne (inl i) = inr i
    shorter ne (inr (inl same)) = absurd (ne (sym same))
    shorter ne (inr (inr none)) = absurd none

    old : x ≢ k → P x ⊎ In x (xs ++ k ∷ []) → P x ⊎ In x xs
    old ne (inl p) = inl p
    old ne (inr i) = shorter ne (in_either x xs (k ∷ []) i)

    back : (x ≡ k) ⊎ (x ≢ k) → P x ⊎ In x (xs ++ k ∷ []) → mark_at (slice_set marks k true) x ≡ true
    back (inl same) h = subst (λ j. mark_at (slice_set marks k true) j ≡ true) (sym same) (mark_here marks k lt)
    back (inr ne) h = mark_elsewhere marks k x ne ∙ (so_far x).1 (old ne h)

pub nothing_marked : (P A : Type 0) → (A → ⊥) → P ↔ (P ⊎ A)
nothing_marked P A none = (λ p. inl p, back)
  where
    back : P ⊎ A → P
    back (inl p) = p
    back (inr a) = absurd (none a)

pub none_returned : (sets : LiveSets) (q x : ℕ) → length sets.nodes ≤ q → In x (numbers (vregs_before sets q 0)) → ⊥
none_returned sets q x past i = subst (In x) (nothing_there sets q past) i

pub after_more :
    (nodes : List (Node Vreg)) (sets : LiveSets) (p : ℕ) (node : Node Vreg) (v : ℕ) (old new : Bool) → slice_get nodes p ≡ Some node → (old ≡ true) ↔ IsAfterCallOf nodes sets p v → (new ≡ true) ↔ ((old ≡ true) ⊎ IsAfterCall node.exit sets v)
    → (new ≡ true) ↔ IsAfterCallOf nodes sets (p + 1) v
after_more nodes sets p node v old new found before turn = (λ is. forth (turn.0 is), λ h. turn.1 (back h (before_or_at h.0 h.2)))
  where
    before_or_at : (j : ℕ) → j < p + 1 → (j < p) ⊎ (j ≡ p)
    before_or_at j lt = grind arith

    forth : (old ≡ true) ⊎ IsAfterCall node.exit sets v → IsAfterCallOf nodes sets (p + 1) v
    forth (inl is) = let h = before.0 is in let lt = h.2 in (h.0, h.1, omega (arith, lt), h.3, h.4)
    forth (inr i) = (p, node, omega arith, found, i)

    same : (x y : Node Vreg) → Some x ≡ Some y → x ≡ y
    same x y e = cc

    back : (h : IsAfterCallOf nodes sets (p + 1) v) → (h.0 < p) ⊎ (h.0 ≡ p) → (old ≡ true) ⊎ IsAfterCall node.exit sets v
    back h (inl lt) = inl (before.1 (h.0, h.1, lt, h.3, h.4))
    back h (inr e) =
        let this : h.1 ≡ node = same h.1 node (sym h.3 ∙ ap (slice_get nodes) e ∙ found) in
        inr (subst (λ (n : Node Vreg). IsAfterCall n.exit sets v) this h.4)

pub none_after : (nodes : List (Node Vreg)) (sets : LiveSets) (v : ℕ) → IsAfterCallOf nodes sets 0 v → ⊥
none_after nodes sets v h = let lt = h.2 in omega (arith, lt)
