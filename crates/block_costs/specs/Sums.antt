-- The cycles of a run are the sum of costs: what the labelling approach of CerCo (deliverable 2.1) rests on, said of any object code.
use Rattle.std.specs.Prelude.{◌≡◌, ℕ, suc, ◌+◌, ◌<◌, List, Bool, true, Some, Ok, sum_by}
use Rattle.cerco_base.specs.declared.events.Label.{Label}
use Rattle.cerco_base.specs.declared.events.Event.{Event}
use Rattle.cerco_base.specs.declared.events.Event.TheVariants as Shown
use Rattle.cerco_base.specs.Events.{Stop}
use Rattle.cerco_traces.specs.Systems.{StopsAt}
use Rattle.cerco_traces.specs.Headline.{after}
use Rattle.sim51.specs.declared.events.Events.{Events}
use Rattle.sim51.specs.State.{State}
use Rattle.sim51.specs.Step.{Goes, instr_at, step}
use Rattle.sim51.specs.Runs.{Running, object}
use Rattle.block_costs.specs.Ways.{AreMarks, is_closed, cost, start_cost}
use Rattle.block_costs.specs.Sound.{IsReturn}

-- what an event costs, by the costs of labels
abbrev pub event_cost : (ℕ → ℕ) → Event → ℕ
event_cost costs (Shown.Label l) = costs l.0
event_cost costs (Shown.Read port byte) = 0
event_cost costs (Shown.Write port byte) = 0

-- the cost of the start and of the labels of these events
abbrev pub cost_of_events : ℕ → (ℕ → ℕ) → List Event → ℕ
cost_of_events start costs events = start + sum_by (event_cost costs) events

module _ (code labels : List ℕ) (marks : List Bool) where
  -- the place after so many steps of a run
  abbrev pub steps_on : ℕ → Running → Running
  steps_on k r = after (object code labels) k r

  -- Each return of its first k steps lands at a closed address.
  abbrev pub ReturnsLand : ℕ → Running → Type 0
  ReturnsLand k r = (j : ℕ) → j < k → IsReturn (instr_at code (steps_on j r).state.pc) → is_closed code marks (steps_on (suc j) r).state.pc ≡ true

  -- Each label that they pass has a cost.
  abbrev pub LabelsCost : (ℕ → ℕ) → ℕ → Running → Type 0
  LabelsCost costs k r =
      (j : ℕ) → j < k → (e : Events) (t : State) (l : Label) → step code labels (steps_on j r).state ≡ Goes e t → e.label ≡ Some l → cost code marks (steps_on j r).state.pc ≡ Ok (costs l.0)

-- A run that comes to a stop in k steps, of which each return lands and each label has a cost, has then taken as many cycles as the
-- start and the labels that it passed cost.
abbrev pub CyclesAddUp : Type 0
CyclesAddUp =
    (code labels : List ℕ) (marks : List Bool) → AreMarks labels marks → (start : ℕ) (costs : ℕ → ℕ) → start_cost code marks ≡ Ok start
    → (script : List ℕ) (k n : ℕ) (stop : Stop) → let r = (object code labels).start script in let end = after (object code labels) k r in
    ReturnsLand code labels marks k r → LabelsCost code labels marks costs k r → StopsAt (object code labels) n end stop → end.state.cycles ≡ cost_of_events start costs end.events
