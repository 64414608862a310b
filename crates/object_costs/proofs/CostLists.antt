-- The costs of an object are numbers.
use Rattle.std.proofs.Common.{◌≡◌, ℕ, zero, suc, ◌+◌, ◌<◌, List, [], ◌∷◌, Bool, Option, Ok, length, get_or, slice_index, refl, sym, ap, ◌∙◌, subst, inl, inr, arith}
use Rattle.std.proofs.lemmas.Bool.{cases_lt}
use Rattle.asm51.specs.declared.items.AsmItem.{AsmItem}
use Rattle.asm51.specs.declared.layouts.Form.{Form}
use Rattle.asm51.specs.Emission.{code_of, labels_of}
use Rattle.block_costs.specs.Ways.{cost}
use Rattle.object_costs.specs.Costs.{HaveCosts}
use Rattle.object_costs.specs.CostLists.{IsLabelCost, HasCostList, CostsOfObject}
use Rattle.object_costs.proofs.HaveCosts.{objects_have_costs}
use Rattle.object_costs.proofs.CostBounds.{cost_small, start_small, fits}

-- ---- the numbers that a function has below a number, as a list

abbrev listed : (ℕ → ℕ) → ℕ → ℕ → List ℕ
listed f from zero = []
listed f from (suc n) = f from ∷ listed f (suc from) n

length-listed : (f : ℕ → ℕ) (from n : ℕ) → length (listed f from n) ≡ n
length-listed f from zero = refl
length-listed f from (suc n) = ap suc (length-listed f (suc from) n)

get_or-listed : (f : ℕ → ℕ) (from n k d : ℕ) → k < n → get_or (listed f from n) k d ≡ f (from + k)
get_or-listed f from zero k d within = absurd (omega arith)
get_or-listed f from (suc n) zero d within = let same : from ≡ from + 0 = omega arith in ap f same
get_or-listed f from (suc n) (suc k) d within = let same : suc from + k ≡ from + suc k = omega arith in get_or-listed f (suc from) n k d (omega arith) ∙ ap f same

-- ---- the costs that an object has

module _ (items : List AsmItem) (forms : List (Option Form)) (marks : List Bool) (have : HaveCosts items forms marks) where
  abbrev code : List ℕ
  code = code_of items forms

  abbrev labels : List ℕ
  labels = labels_of items forms

  -- what is known of the cost of a label
  record HasCost (l : ℕ) : Type 0 where
    cycles : ℕ
    is : l < length labels → cost code marks (slice_index labels l) ≡ Ok cycles
    right : l < length labels → IsLabelCost cycles

  has_cost : (l : ℕ) → HasCost l
  has_cost l = elim (cases_lt l (length labels)) [
    | inl within ↦
        let h = have.labels l within in
        record { cycles = h.0; is = λ _. h.1; right = λ _. (h.2, fits code marks _ h.0 (cost_small code marks (slice_index labels l)) h.1) }
    | inr past ↦ record { cycles = 0; is = λ within. absurd (omega arith); right = λ within. absurd (omega arith) }
  ]

  abbrev costs : List ℕ
  costs = listed (λ l. (has_cost l).cycles) 0 (length labels)

  cost_at : (l d : ℕ) → l < length labels → get_or costs l d ≡ (has_cost l).cycles
  cost_at l d within =
      let same : 0 + l ≡ l = omega arith in
      get_or-listed (λ l. (has_cost l).cycles) 0 (length labels) l d within ∙ ap (λ k. (has_cost k).cycles) same

  pub has_cost_list : HasCostList items forms marks
  has_cost_list = record {
    start = have.start.0;
    costs = costs;
    are = record {
      start_is = have.start.1;
      labels_are = λ l within. (has_cost l).is within ∙ ap Ok (sym (cost_at l 0 within));
    };
    all = length-listed (λ l. (has_cost l).cycles) 0 (length labels);
    start_fits = fits code marks _ have.start.0 (start_small code marks) have.start.1;
    fit = λ l d within.
        let size : length costs ≡ length labels = length-listed (λ l. (has_cost l).cycles) 0 (length labels) in
        let there : l < length labels = omega arith in
        subst IsLabelCost (sym (cost_at l d there)) ((has_cost l).right there);
  }

pub costs_of_object : CostsOfObject
costs_of_object items layout marks sel ends is marked = has_cost_list items layout.forms marks (objects_have_costs items layout marks sel ends is marked)
