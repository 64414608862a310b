-- The runs of object code come to each stop in one way.
use Rattle.std.proofs.Common.{◌≡◌, ℕ, ◌+◌, ◌≤◌, IsTrue, true, false, is_some, List, [], ◌∷◌, ◌++◌, Option, Some, None, refl, ap, ◌∙◌, arith}
use Rattle.cerco_base.specs.declared.events.Port.{Port}
use Rattle.cerco_base.specs.declared.events.Label.{Label}
use Rattle.cerco_base.specs.declared.events.Event.{Event}
use Rattle.cerco_base.specs.declared.events.Event.TheVariants as Kind
use Rattle.cerco_base.specs.Events.{label_count}
use Rattle.cerco_traces.specs.Headline.{ArrivesOnce}
use Rattle.cerco_traces.proofs.HeadlineProofs.{StopsOnce, arrives_once}
use Rattle.sim51.specs.declared.events.Events.{Events}
use Rattle.mcs51_isa.specs.declared.instr.Instr.{Instr}
use Rattle.sim51.specs.Step.{Moved, Halts, Reserved, Goes, label_at, instr_at, halts, made, step}
use Rattle.sim51.proofs.Steps.{step_goes, step_halts}
use Rattle.sim51.specs.Runs.{Running, object, advanced, passes_label, has_halted, events_of, cycles_of_run}

pub label_count-append : (es fs : List Event) → label_count (es ++ fs) ≡ label_count es + label_count fs
label_count-append [] fs = omega arith
label_count-append (Kind.Label l ∷ es) fs = omega (arith, label_count-append es fs)
label_count-append (Kind.Read port byte ∷ es) fs = label_count-append es fs
label_count-append (Kind.Write port byte ∷ es) fs = label_count-append es fs

-- how many labels a step passes
abbrev count_of : Option Label → ℕ
count_of None = 0
count_of (Some l) = 1

label_count-events_of : (label : Option Label) (read write : Option (Port × ℕ)) → label_count (events_of (record { label = label; read = read; write = write })) ≡ count_of label
label_count-events_of None None None = refl
label_count-events_of None None (Some w) = refl
label_count-events_of None (Some r) None = refl
label_count-events_of None (Some r) (Some w) = refl
label_count-events_of (Some l) None None = refl
label_count-events_of (Some l) None (Some w) = refl
label_count-events_of (Some l) (Some r) None = refl
label_count-events_of (Some l) (Some r) (Some w) = refl

label_count-advanced : (r : Running) (e : Events) → label_count (r.events ++ events_of e) ≡ label_count r.events + count_of e.label
label_count-advanced r e = label_count-append r.events (events_of e) ∙ ap (λ n. label_count r.events + n) (label_count-events_of e.label e.read e.write)

label_passed : (r : Running) (m : Moved) → IsTrue (passes_label m) → label_count (advanced r m).events ≡ label_count r.events + 1
label_passed r Halts due = absurd cc
label_passed r Reserved due = absurd cc
label_passed r (Goes e s) due = label_count-advanced r e ∙ ap (λ n. label_count r.events + n) (one e.label due)
  where
    one : (label : Option Label) → IsTrue (is_some label) → count_of label ≡ 1
    one None none = absurd cc
    one (Some l) some = refl

no_fewer : (r : Running) (m : Moved) → label_count r.events ≤ label_count (advanced r m).events
no_fewer r Halts = omega arith
no_fewer r Reserved = omega arith
no_fewer r (Goes e s) = let more = label_count-advanced r e in omega arith

halt_stays : (r : Running) (m : Moved) → IsTrue (has_halted m) → advanced r m ≡ r
halt_stays r Halts over = refl
halt_stays r Reserved over = absurd cc
halt_stays r (Goes e s) over = absurd cc

not_both : (m : Moved) → IsTrue (passes_label m) → IsTrue (has_halted m) → ⊥
not_both Halts due over = cc
not_both Reserved due over = cc
not_both (Goes e s) due over = cc

pub object_stops_once : (code labels : List ℕ) → StopsOnce (object code labels)
object_stops_once code labels = record {
  label = λ r due. label_passed r (step code labels r.state) due;
  no_fewer = λ r. no_fewer r (step code labels r.state);
  ended_stays = λ r over. halt_stays r (step code labels r.state) over;
  not_both = λ r due over. not_both (step code labels r.state) due over;
}

pub object_arrives_once : (code labels : List ℕ) → ArrivesOnce (object code labels) cycles_of_run
object_arrives_once code labels = arrives_once (object code labels) (object_stops_once code labels) cycles_of_run

-- What the next step of a run is, by the instruction at its place.
module _ (code labels : List ℕ) (r : Running) (i : Instr) (there : instr_at code r.state.pc ≡ Some i) where
  pub running_goes : halts i r.state.pc ≡ false → (object code labels).step r ≡ advanced r (made code labels i r.state)
  running_goes goes = ap (advanced r) (step_goes code labels r.state i there goes)

  pub running_due : (l : Label) → halts i r.state.pc ≡ false → label_at labels r.state.pc ≡ Some l → IsTrue ((object code labels).due r)
  running_due l goes labelled =
      ap passes_label (step_goes code labels r.state i there goes) ∙ ap is_some labelled

  pub running_ended : halts i r.state.pc ≡ true → IsTrue ((object code labels).ended r)
  running_ended over = ap has_halted (step_halts code labels r.state i there over)
