-- Costs along the text of a meaning.
use Rattle.std.proofs.Common.{◌≡◌, ℕ, ◌+◌, List, [], ◌∷◌, ◌++◌, slice_index, sym, ap, ◌∙◌, arith, append_assoc}
use Rattle.std.proofs.lemmas.List.Sums.{sum_by-cons}
use Rattle.cerco_base.specs.declared.events.Event.{Event}
use Rattle.block_costs.specs.Sums.{event_cost, cost_of_events}
use Rattle.clight_syntax.specs.Annotations.{Costs}
use Rattle.meaning_text.specs.Text.{event_line, lines_of}

module _ (costs : Costs) where
  pub behind_cons : (cost : ℕ) (e : Event) (es : List Event) → cost_of_events cost (slice_index costs.labels) (e ∷ es) ≡ cost_of_events (cost + event_cost (slice_index costs.labels) e) (slice_index costs.labels) es
  behind_cons cost e es = let first = sum_by-cons (event_cost (slice_index costs.labels)) e es in omega arith

  pub each_has_its_cost : (cost : ℕ) (es more : List Event) → lines_of costs cost (es ++ more) ≡ lines_of costs cost es ++ lines_of costs (cost_of_events cost (slice_index costs.labels) es) more
  each_has_its_cost cost [] more = ap (λ (c : ℕ). lines_of costs c more) (omega arith)
  each_has_its_cost cost (e ∷ es) more =
      ap (λ (l : List ℕ). event_line cost e ++ l)
      (each_has_its_cost (cost + event_cost (slice_index costs.labels) e) es more ∙ ap (λ (c : ℕ). lines_of costs (cost + event_cost (slice_index costs.labels) e) es ++ lines_of costs c more) (sym (behind_cons cost e es)))
      ∙ sym (append_assoc (event_line cost e) (lines_of costs (cost + event_cost (slice_index costs.labels) e) es) (lines_of costs (cost_of_events cost (slice_index costs.labels) (e ∷ es)) more))
