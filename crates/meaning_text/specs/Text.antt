-- The text of a program's meaning, as CerCo's tools show the run of an annotated source (deliverable 2.1; the lines are the compiler's
-- own): a line for each event, with the cost so far at each label, and a last line for the stop, the end or the fault.
use Rattle.std.specs.Prelude.{ℕ, ◌+◌, List, [], ◌∷◌, ◌++◌, codes, slice_index}
use Rattle.cerco_base.specs.Events.{Stop, Stopped, Ended}
use Rattle.cerco_base.specs.Ports.{port_number}
use Rattle.cerco_base.specs.declared.events.Event.{Event}
use Rattle.cerco_base.specs.declared.events.Event.TheVariants.{Label, Read, Write}
use Rattle.cerco_base.specs.declared.events.FaultKind.{FaultKind}
use Rattle.cerco_base.specs.declared.events.FaultKind.TheVariants.{Unset, Outside, Dead, Zero, Compare}
use Rattle.cerco_traces.specs.Preservation.{Outcome, Stops, Faults}
use Rattle.block_costs.specs.Sums.{event_cost, cost_of_events}
use Rattle.clight_syntax.specs.Annotations.{Costs}
use Rattle.printed_lines.specs.Lines.{line_about, pair_line, end_line, stop_line}

-- an event: a label that is passed, with the cost of all before it; the reading of a port, the writing of one
abbrev pub event_line : ℕ → Event → List ℕ
event_line cost (Label label) = pair_line (codes "L") label.0 cost
event_line cost (Read port byte) = pair_line (codes "R") (port_number port) byte
event_line cost (Write port byte) = pair_line (codes "P") (port_number port) byte

abbrev pub fault_word : FaultKind → List ℕ
fault_word Unset = codes "unset"
fault_word Outside = codes "outside"
fault_word Dead = codes "dead"
fault_word Zero = codes "zero"
fault_word Compare = codes "compare"

abbrev pub fault_line : FaultKind → List ℕ
fault_line kind = line_about (codes "fault ") (fault_word kind)

-- the lines of events, by the cost before them
abbrev pub lines_of : Costs → ℕ → List Event → List ℕ
lines_of costs cost [] = []
lines_of costs cost (event ∷ events) = event_line cost event ++ lines_of costs (cost + event_cost (slice_index costs.labels) event) events

abbrev pub last_line : Stop → ℕ → List ℕ
last_line Stopped cost = stop_line cost
last_line Ended cost = end_line cost

-- what is told of a run from some moment on, by the cost at that moment
abbrev pub text_from : Costs → ℕ → Outcome FaultKind → List ℕ
text_from costs cost (Stops events stop) = lines_of costs cost events ++ last_line stop (cost_of_events cost (slice_index costs.labels) events)
text_from costs cost (Faults events kind) = lines_of costs cost events ++ fault_line kind

-- what is told of a whole run
abbrev pub meaning_text : Costs → Outcome FaultKind → List ℕ
meaning_text costs told = text_from costs costs.start told
