-- An annotated text says of a run what the start and its labels cost.
use Rattle.std.proofs.Common.{◌≡◌, ℕ, suc, ◌+◌, ◌^◌, List, [], ◌∷◌, unwrap_or, slice_get, slice_index, refl, ap, ap₂, ◌∙◌, arith}
use Rattle.std.specs.List.{sum_by}
use Rattle.std.proofs.lemmas.List.Sums.{sum_by-cons}
use Rattle.std.proofs.lemmas.Option.{unwrap_or-slice_get}
use Rattle.cerco_base.specs.declared.events.Event.{Event}
use Rattle.cerco_base.specs.declared.events.Event.TheVariants as Shown
use Rattle.clight_syntax.specs.Annotations.{Costs, annotated}
use Rattle.annotate.specs.Numbers.{numbers, start_cost_in, label_cost_in, event_cost, cost_at}
use Rattle.annotate.specs.Laws.{AreCostsBelow, CostsOfRuns, cost_of_event}
use Rattle.annotate.proofs.AnnotatedText.{numbers-planned}

module _ (text : List ℕ) (start : ℕ) (costs : List ℕ) (are : numbers text ≡ start ∷ costs) where
  start_costs : start_cost_in text ≡ start
  start_costs = ap (λ (ns : List ℕ). unwrap_or (slice_get ns 0) 0) are

  get-later : (l : ℕ) → slice_get (start ∷ costs) (l + 1) ≡ slice_get costs l
  get-later l = let one : l + 1 ≡ suc l = omega arith in ap (slice_get (start ∷ costs)) one

  label_costs : (l : ℕ) → label_cost_in text l ≡ slice_index costs l
  label_costs l =
      ap (λ (ns : List ℕ). unwrap_or (slice_get ns (l + 1)) 0) are
      ∙ ap (λ o. unwrap_or o 0) (get-later l)
      ∙ unwrap_or-slice_get costs l 0

  event_costs : (e : Event) → event_cost text e ≡ cost_of_event (slice_index costs) e
  event_costs (Shown.Label l) = label_costs l.0
  event_costs (Shown.Read port byte) = refl
  event_costs (Shown.Write port byte) = refl

  events_cost : (es : List Event) → sum_by (event_cost text) es ≡ sum_by (cost_of_event (slice_index costs)) es
  events_cost [] = refl
  events_cost (e ∷ es) =
      let first = sum_by-cons (event_cost text) e es in
      let same = event_costs e in
      let others = events_cost es in
      let last = sum_by-cons (cost_of_event (slice_index costs)) e es in
      omega arith

  run_costs : (es : List Event) → cost_at text es ≡ start + sum_by (cost_of_event (slice_index costs)) es
  run_costs es = ap₂ (λ (a b : ℕ). a + b) start_costs (events_cost es)

below_more : (costs : Costs) → AreCostsBelow (2 ^ 32) costs → AreCostsBelow (2 ^ 64) costs
below_more costs h = record {
  start = let small = h.start in omega arith;
  labels = λ k d within. (let small = h.labels k d within in omega arith);
}

pub costs_of_runs : CostsOfRuns
costs_of_runs text points costs plain are below events =
    run_costs (annotated text points costs) costs.start costs.labels (numbers-planned text points costs plain are.ordered (below_more costs below) are.begins are.numbered are.all) events
