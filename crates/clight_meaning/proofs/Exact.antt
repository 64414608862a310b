-- Of an evaluator's answers only one fits a rest.
use Rattle.std.proofs.Common.{◌≡◌, List, [], ◌∷◌, refl, sym, ap, subst, ◌∙◌}
use Rattle.cerco_base.specs.Events.{Stop, Ended}
use Rattle.cerco_traces.specs.Preservation.{Outcome, Stops, Faults, and_then}
use Rattle.cerco_base.specs.declared.events.Event.{Event}
use Rattle.cerco_base.specs.declared.events.Event.TheVariants as event
use Rattle.cerco_base.specs.declared.events.FaultKind.{FaultKind}
use Rattle.clight_meaning.specs.declared.turn.Turn.{Turn}
use Rattle.clight_meaning.specs.declared.turn.Turn.TheVariants as turn
use Rattle.clight_meaning.specs.Meaning.{Rest}
use Rattle.clight_meaning.specs.Code.Turns.{Tells, OnlyEnds, OnlyFaults}

abbrev events : Outcome FaultKind → List Event
events (Stops es s) = es
events (Faults es k) = es

-- the fault, or else this one
abbrev fault_or : FaultKind → Outcome FaultKind → FaultKind
fault_or k (Stops es s) = k
fault_or k (Faults es j) = j

abbrev Faulty : Outcome FaultKind → Type 0
Faulty (Stops es s) = ⊥
Faulty (Faults es k) = Unit {0}

-- an event comes before no outcome without events
no_event : (e : Event) (o : Outcome FaultKind) (none : Outcome FaultKind) → and_then (e ∷ []) o ≡ none → events none ≡ [] → ⊥
no_event e (Stops es s) none h nil = let q : e ∷ es ≡ [] = ap events h ∙ nil in cc
no_event e (Faults es k) none h nil = let q : e ∷ es ≡ [] = ap events h ∙ nil in cc

not_both : (es fs : List Event) (s : Stop) (k : FaultKind) → Stops es s ≡ Faults fs k → ⊥
not_both es fs s k h = let P : Outcome FaultKind → Type 0 = Faulty in subst P (sym h) tt

pub ends_only : (t : Turn) (before next : Rest) → Tells t before next → OnlyEnds before → t ≡ turn.Ended
ends_only (turn.Event (event.Label l)) before next h e = absurd (no_event (event.Label l) (next 0) (Stops [] Ended) (sym (h.1 0) ∙ e.at 1) refl)
ends_only (turn.Event (event.Read port byte)) before next h e = absurd (no_event (event.Read port byte) (next 0) (Stops [] Ended) (sym (h 0) ∙ e.at 0) refl)
ends_only (turn.Event (event.Write port byte)) before next h e = absurd (no_event (event.Write port byte) (next 0) (Stops [] Ended) (sym (h 0) ∙ e.at 0) refl)
ends_only turn.Ended before next h e = refl
ends_only (turn.Fault k) before next h e = absurd (not_both [] [] Ended k (sym (e.at 0) ∙ (h 0).0))

pub faults_only : (t : Turn) (before next : Rest) (kind : FaultKind) → Tells t before next → OnlyFaults kind before → t ≡ turn.Fault kind
faults_only (turn.Event (event.Label l)) before next kind h e = absurd (no_event (event.Label l) (next 0) (Faults [] kind) (sym (h.1 0) ∙ e.at 1) refl)
faults_only (turn.Event (event.Read port byte)) before next kind h e = absurd (no_event (event.Read port byte) (next 0) (Faults [] kind) (sym (h 0) ∙ e.at 0) refl)
faults_only (turn.Event (event.Write port byte)) before next kind h e = absurd (no_event (event.Write port byte) (next 0) (Faults [] kind) (sym (h 0) ∙ e.at 0) refl)
faults_only turn.Ended before next kind h e = absurd (not_both [] [] Ended kind (sym (h 0).0 ∙ e.at 0))
faults_only (turn.Fault j) before next kind h e = ap (λ o. turn.Fault (fault_or kind o)) (sym (h 0).0 ∙ e.at 0)

pub ruleset only_answers = (ends_only, faults_only)
