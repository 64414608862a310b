-- The runs of object code: the machine from reset, with the events that it has made so far.
use Rattle.std.specs.Prelude.{ℕ, zero, suc, List, [], ◌∷◌, ◌++◌, Option, Some, None, Bool, true, false, is_some, map}
use Rattle.cerco_base.specs.declared.events.Label.{Label}
use Rattle.cerco_base.specs.declared.events.Port.{Port}
use Rattle.cerco_base.specs.declared.events.Event.{Event}
use Rattle.cerco_base.specs.declared.events.Event.TheVariants.{Read, Write}
use Rattle.cerco_base.specs.Events.{label}
use Rattle.cerco_traces.specs.Systems.{System}
use Rattle.cerco_traces.specs.Headline.{after}
use Rattle.sim51.specs.declared.events.Events.{Events}
use Rattle.sim51.specs.State.{State, LoadedMachine, reset}
use Rattle.sim51.specs.Step.{Moved, Halts, Reserved, Goes, step}

-- the events of a step as a list: the label, then the port that is read, then the one that is written
abbrev pub label_events : Option Label → List Event
label_events None = []
label_events (Some l) = label l.0 ∷ []

abbrev pub read_events : Option (Port × ℕ) → List Event
read_events None = []
read_events (Some r) = Read r.0 r.1 ∷ []

abbrev pub write_events : Option (Port × ℕ) → List Event
write_events None = []
write_events (Some w) = Write w.0 w.1 ∷ []

abbrev pub events_of : Events → List Event
events_of e = label_events e.label ++ (read_events e.read ++ write_events e.write)

-- a state of a run: the events so far, oldest first, and the machine's state
pub record Running : Type 0 where
  pub events : List Event
  pub state : State

-- a halted or reserved state stays as it is
abbrev pub advanced : Running → Moved → Running
advanced r Halts = r
advanced r Reserved = r
advanced r (Goes e s) = record { events = r.events ++ events_of e; state = s }

-- whether a step makes a label event
abbrev pub passes_label : Moved → Bool
passes_label Halts = false
passes_label Reserved = false
passes_label (Goes e s) = is_some e.label

abbrev pub has_halted : Moved → Bool
has_halted Halts = true
has_halted Reserved = false
has_halted (Goes e s) = false

-- The runs of this code, whose labels stand at these addresses. A run stands before a label where its next step makes a label event.
abbrev pub object : List ℕ → List ℕ → System Running
object code labels =
    record {
      start = λ script. record { events = []; state = reset script };
      step = λ r. advanced r (step code labels r.state);
      events = λ r. r.events;
      due = λ r. passes_label (step code labels r.state);
      ended = λ r. has_halted (step code labels r.state);
      touched = λ r. [];
      opened = λ r. 0;
    }

abbrev pub cycles_of_run : Running → ℕ
cycles_of_run r = r.state.cycles

-- the events that a step makes
abbrev pub made_by : Moved → List Event
made_by Halts = []
made_by Reserved = []
made_by (Goes e s) = events_of e

-- a machine's code, the addresses of its labels, and the bytes that its ports' pins show
pub record Setup : Type 0 where
  pub code : List ℕ
  pub labels : List ℕ
  pub script : List ℕ

-- those of a machine, as it is now
abbrev pub setup_of : LoadedMachine → Setup
setup_of m = record { code = m.code; labels = m.labels; script = m.state.core.script }

-- the state after k steps from reset
unfoldable pub state_after : Setup → ℕ → State
state_after m k = (after (object m.code m.labels) k ((object m.code m.labels).start m.script)).state

-- the step from there
abbrev pub step_after : Setup → ℕ → Moved
step_after m k = step m.code m.labels (state_after m k)

-- an event and the cycles before the instruction that makes it
abbrev pub TimedEvent : Type 0
TimedEvent = ℕ × Event

-- the events of the first k steps, oldest first
unfoldable pub trace : Setup → ℕ → List TimedEvent
trace m zero = []
trace m (suc k) = trace m k ++ map (λ event. ((state_after m k).cycles, event)) (made_by (step_after m k))
