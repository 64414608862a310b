-- The costs of an object's labels, one after the other.
use Rattle.std.proofs.Common.{◌≡◌, ◌⊎◌, inl, inr, ℕ, ◌+◌, ◌<◌, ◌≤◌, List, [], ◌∷◌, ◌++◌, length, Bool, Result, Ok, sym, ap, subst, ◌∙◌, arith, length-append}
use Rattle.std.specs.Prelude.{slice_index}
use Rattle.std.proofs.lemmas.List.{get_or_append_left}
use Rattle.std.proofs.Math.Seq.{get_or-append_seam}
use Rattle.clight_syntax.specs.Annotations.{Costs}
use Rattle.block_costs.specs.declared.faults.CostFault.{CostFault}
use Rattle.block_costs.specs.Ways.{AreMarks, cost, start_cost}
use Rattle.cerco_pipeline.specs.Built.{AreCostsOf}
use Rattle.cerco_pipeline.specs.Compiled.{HasCosts}
use Rattle.cerco_pipeline.proofs.MarksAlike.{marks_alike, cost_alike, start_alike}

-- these are the costs of the first n labels
pub record AreCostsOfFirst (n : ℕ) (code addresses : List ℕ) (marks : List Bool) (costs : List ℕ) : Type 0 where
  pub count : length costs ≡ n
  pub each : (l : ℕ) → l < n → cost code marks (slice_index addresses l) ≡ Ok (slice_index costs l)

-- an address by the lists that the program holds
pub label_cost :
    (code addresses shown listed marked : List ℕ) (marks : List Bool) (k : ℕ) → HasCosts code addresses → shown ≡ code → listed ≡ addresses → marked ≡ addresses → AreMarks marked marks
    → k < length listed → (cycles : ℕ) × (cost shown marks (slice_index listed k) ≡ Ok cycles)
label_cost code addresses shown listed marked marks k has same items also are within =
    let one = has.each marks (subst (λ l. AreMarks l marks) also are) k (subst (λ l. k < length l) items within) in
    (one.0, ap (λ c. cost c marks (slice_index listed k)) same ∙ (ap (λ l. cost code marks (slice_index l k)) items ∙ one.1))

pub start_has_one :
    (code addresses shown marked : List ℕ) (marks : List Bool) → HasCosts code addresses → shown ≡ code → marked ≡ addresses → AreMarks marked marks
    → (cycles : ℕ) × (start_cost shown marks ≡ Ok cycles)
start_has_one code addresses shown marked marks has same also are =
    let one = has.start marks (subst (λ l. AreMarks l marks) also are) in
    (one.0, ap (λ c. start_cost c marks) same ∙ one.1)

pub moved_cost :
    (code addresses shown listed : List ℕ) (marks view : List Bool) (k x : ℕ) → shown ≡ code → listed ≡ addresses → view ≡ marks
    → cost shown view (slice_index listed k) ≡ Ok x → cost code marks (slice_index addresses k) ≡ Ok x
moved_cost code addresses shown listed marks view k x same items seen is =
    ap (λ c. cost c marks (slice_index addresses k)) (sym same)
    ∙ (ap (λ l. cost shown marks (slice_index l k)) (sym items) ∙ (ap (λ m. cost shown m (slice_index listed k)) (sym seen) ∙ is))

below_or_last : (l n : ℕ) → l < n + 1 → (l < n) ⊎ (l ≡ n)
below_or_last l n within = grind arith

pub one_more :
    (n : ℕ) (code addresses : List ℕ) (marks : List Bool) (costs all : List ℕ) (c : ℕ) → AreCostsOfFirst n code addresses marks costs
    → cost code marks (slice_index addresses n) ≡ Ok c → all ≡ costs ++ c ∷ [] → AreCostsOfFirst (n + 1) code addresses marks all
one_more n code addresses marks costs all c before is longer = record {
  count = omega (arith, before.count, ap length longer, length-append costs (c ∷ []));
  each = λ l within.
      elim (below_or_last l n within) [
        | inl below ↦ before.each l below ∙ ap Ok (sym (ap (λ xs. slice_index xs l) longer ∙ get_or_append_left costs (c ∷ []) 0 l (subst (λ k. l < k) (sym before.count) below)))
        | inr last ↦
            ap (λ k. cost code marks (slice_index addresses k)) last
            ∙ (is ∙ ap Ok (sym (ap (slice_index all) (last ∙ sym before.count) ∙ (ap (λ xs. slice_index xs (length costs)) longer ∙ get_or-append_seam costs c [] 0))))
      ];
}

same_value : (x : Result ℕ CostFault) (m n : ℕ) → x ≡ Ok m → x ≡ Ok n → 1 ≤ m → 1 ≤ n
same_value x m n is also some = let same : m ≡ n = cc in subst (λ k. 1 ≤ k) same some

pub are_costs :
    (code addresses : List ℕ) (marks : List Bool) (costs : Costs) → HasCosts code addresses → AreMarks addresses marks
    → start_cost code marks ≡ Ok costs.start → AreCostsOfFirst (length addresses) code addresses marks costs.labels → AreCostsOf code addresses costs
are_costs code addresses marks costs has are start labels = record {
  count = labels.count;
  start = λ m also. start_alike code m marks (marks_alike addresses m marks also are) ∙ start;
  each = λ m also l within. cost_alike code m marks (marks_alike addresses m marks also are) (slice_index addresses l) ∙ labels.each l within;
  positive = λ l within.
      let one = has.each marks are l within in
      same_value (cost code marks (slice_index addresses l)) one.0 (slice_index costs.labels l) one.1 (labels.each l within) one.2;
}
