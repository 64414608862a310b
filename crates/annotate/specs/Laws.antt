-- What an annotated text says of runs: the sums of the costs that were put into it. It is what the instrumented source of CerCo
-- (deliverable 2.1) computes.
use Rattle.std.specs.Prelude.{◌≡◌, ℕ, ◌+◌, ◌<◌, ◌^◌, List, length, All, slice_index, sum_by}
use Rattle.cerco_base.specs.declared.events.Event.{Event}
use Rattle.cerco_base.specs.declared.events.Event.TheVariants as Shown
use Rattle.clight_source.specs.Markers.{HasNoMarker}
use Rattle.clight_syntax.specs.declared.points.Point.{Point}
use Rattle.clight_syntax.specs.Annotations.{Costs, annotated, AreInOrder, labels_in, AreNumberedInOrder, BeginWithStart}
use Rattle.annotate.specs.Numbers.{cost_at}

-- The start and each label cost less than a number.
pub record AreCostsBelow (limit : ℕ) (costs : Costs) : Type 0 where
  pub start : costs.start < limit
  pub labels : All (λ cost. cost < limit) costs.labels

-- The annotations of a source: they stand in the order of the text, begin with that of the start, and name as many labels as
-- there are costs, by their numbers in order.
pub record AreAnnotations (text : List ℕ) (points : List Point) (costs : Costs) : Type 0 where
  pub ordered : AreInOrder (length text) points
  pub begins : BeginWithStart points
  pub numbered : AreNumberedInOrder (labels_in points)
  pub all : length (labels_in points) ≡ length costs.labels

-- what an event costs, by the costs of labels
abbrev pub cost_of_event : (ℕ → ℕ) → Event → ℕ
cost_of_event costs (Shown.Label l) = costs l.0
cost_of_event costs (Shown.Read port byte) = 0
cost_of_event costs (Shown.Write port byte) = 0

-- The annotated text of a source without markers says that a run costs what the start and the labels that it passes cost.
abbrev pub CostsOfRuns : Type 0
CostsOfRuns =
    (text : List ℕ) (points : List Point) (costs : Costs) → HasNoMarker text → AreAnnotations text points costs → AreCostsBelow (2 ^ 32) costs
    → (events : List Event) → cost_at (annotated text points costs) events ≡ costs.start + sum_by (cost_of_event (slice_index costs.labels)) events
