-- The cost at each event is the sum of those before it (CerCo, deliverable 2.1: a run costs what the labels cost that it passes).
use Rattle.std.specs.Prelude.{◌≡◌, ℕ, List, ◌++◌, slice_index}
use Rattle.cerco_base.specs.declared.events.Event.{Event}
use Rattle.block_costs.specs.Sums.{cost_of_events}
use Rattle.clight_syntax.specs.Annotations.{Costs}
use Rattle.meaning_text.specs.Text.{lines_of}

-- The lines of events are those of the first ones, and then those of the others, by the cost of the first ones.
abbrev pub EachHasItsCost : Type 0
EachHasItsCost =
    (costs : Costs) (cost : ℕ) (events more : List Event)
    → lines_of costs cost (events ++ more) ≡ lines_of costs cost events ++ lines_of costs (cost_of_events cost (slice_index costs.labels) events) more
