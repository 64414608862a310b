-- Where no cycle is without a label, each path comes to a label or to an end.
use Rattle.std.proofs.Common.{◌≡◌, ℕ, zero, suc, ◌+◌, ◌<◌, ◌≤◌, List, [], ◌∷◌, Bool, true, false, inl, inr, refl, arith, subst}
use Rattle.cerco_traces.specs.LabelledGraphs.{FlowGraph, LeadsTo, In, IsLabelNode, UnlabelledPath, edge, longer, IsBounded, bounded}
use Rattle.cerco_traces.proofs.UnseenWeights.{mem, rest, mem_in, taken_off}

module _ (G : FlowGraph) where
  -- a path goes on
  pub extended : (p q r : ℕ) → UnlabelledPath G p q → (IsLabelNode (G q) → ⊥) → LeadsTo (G q) r → UnlabelledPath G p r
  extended p q r (edge p' q' nm lead) nm2 lead2 = longer p q r nm lead (edge q r nm2 lead2)
  extended p q r (longer p' s q' nm lead w) nm2 lead2 = longer p s r nm lead (extended s q r w nm2 lead2)

  -- no cycle begins where each path ends
  pub no_cycle : (p : ℕ) → IsBounded G p → UnlabelledPath G p p → ⊥
  no_cycle p (bounded p' next) (edge a b nm lead) = no_cycle p (next p nm lead) (edge p p nm lead)
  no_cycle p (bounded p' next) (longer a s c nm lead w) = no_cycle s (next s nm lead) (extended s p s w nm lead)

  -- each number seen leads to the node
  abbrev pub AllLead : List ℕ → ℕ → Type 0
  AllLead seen p = (s : ℕ) → In s seen → UnlabelledPath G s p

  pub lead_on : (seen : List ℕ) (p q : ℕ) → (IsLabelNode (G p) → ⊥) → LeadsTo (G p) q → AllLead seen p → AllLead (p ∷ seen) q
  lead_on seen p q nm lead all s (inl e) = subst (λ x. UnlabelledPath G x q) e (edge p q nm lead)
  lead_on seen p q nm lead all s (inr i) = extended s p q (all s i) nm lead

  pub unseen : (seen : List ℕ) (p : ℕ) → (UnlabelledPath G p p → ⊥) → AllLead seen p → mem p seen ≡ false
  unseen seen p none all = by (mem p seen) refl
    where
      by : (b : Bool) → mem p seen ≡ b → b ≡ false
      by true e = absurd (none (all p (mem_in p seen e)))
      by false e = refl

  module _ (count : ℕ) (finite : (p q : ℕ) → LeadsTo (G p) q → p < count) (acyclic : (p : ℕ) → UnlabelledPath G p p → ⊥) where
    bounded_by : (left : ℕ) (seen : List ℕ) (p : ℕ) → rest (λ x. 1) count seen ≤ left → AllLead seen p → IsBounded G p
    bounded_by zero seen p few all = bounded p (λ q nm lead. absurd (none (taken_off (λ x. 1) p seen count (finite p q lead) (unseen seen p (acyclic p) all))))
      where
        none : 1 + rest (λ x. 1) count (p ∷ seen) ≤ rest (λ x. 1) count seen → ⊥
        none h = omega arith
    bounded_by (suc left) seen p few all = bounded p (λ q nm lead.
        bounded_by left (p ∷ seen) q (fewer (taken_off (λ x. 1) p seen count (finite p q lead) (unseen seen p (acyclic p) all))) (lead_on seen p q nm lead all))
      where
        fewer : 1 + rest (λ x. 1) count (p ∷ seen) ≤ rest (λ x. 1) count seen → rest (λ x. 1) count (p ∷ seen) ≤ left
        fewer h = omega arith

    pub all_bounded : (p : ℕ) → IsBounded G p
    all_bounded p = bounded_by (rest (λ x. 1) count []) [] p (omega arith) (λ s i. absurd i)
