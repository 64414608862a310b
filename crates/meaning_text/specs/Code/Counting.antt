-- How the text of a meaning is told, turn by turn: the line of a turn, and how many labels are left and what the run has cost after it.
use Rattle.std.specs.Prelude.{ℕ, zero, suc, ◌+◌, List, Option, Some, None}
use Rattle.cerco_base.specs.declared.events.Event.TheVariants.{Label, Read, Write}
use Rattle.clight_syntax.specs.Annotations.{Costs, cost_of}
use Rattle.clight_meaning.specs.declared.turn.Turn.{Turn}
use Rattle.clight_meaning.specs.declared.turn.Turn.TheVariants as turn
use Rattle.printed_lines.specs.Lines.{end_line, stop_line}
use Rattle.meaning_text.specs.Text.{event_line, fault_line}
use Rattle.meaning_text.specs.declared.LabelCosts.{LabelCosts}
use Rattle.meaning_text.specs.declared.Count.{Count}

abbrev pub costs_held : LabelCosts → Costs
costs_held c = record { start = c.start; labels = c.labels.now }

-- the line of a label where so many labels are left: at none the run is stopped
abbrev pub label_line : ℕ → ℕ → ℕ → List ℕ
label_line label zero cost = stop_line cost
label_line label (suc left) cost = event_line cost (Label (record { 0 = label }))

abbrev pub turn_line : Turn → Count → List ℕ
turn_line (turn.Event (Label l)) c = label_line l.0 c.left c.cost
turn_line (turn.Event (Read port byte)) c = event_line c.cost (Read port byte)
turn_line (turn.Event (Write port byte)) c = event_line c.cost (Write port byte)
turn_line turn.Ended c = end_line c.cost
turn_line (turn.Fault kind) c = fault_line kind

abbrev pub passed : ℕ → ℕ → Option Count
passed zero cost = None
passed (suc left) cost = Some (record { left = left; cost = cost })

-- the count after a turn, none where the run stops with it
abbrev pub count_after : Costs → Turn → Count → Option Count
count_after costs (turn.Event (Label l)) c = passed c.left (c.cost + cost_of costs l)
count_after costs (turn.Event (Read port byte)) c = Some c
count_after costs (turn.Event (Write port byte)) c = Some c
count_after costs turn.Ended c = None
count_after costs (turn.Fault kind) c = None
