-- How a program is shown to preserve a source whose meaning is a function: from state to state.
use Rattle.std.proofs.Common.{◌≡◌, IsTrue, ℕ, ◌+◌, List, [], ◌∷◌, ◌++◌, refl, sym, ap, ◌∙◌, subst, append_assoc, append-nil, arith}
use Rattle.cerco_base.specs.declared.events.Event.{Event}
use Rattle.cerco_base.specs.declared.events.Event.TheVariants.{Label, Read, Write}
use Rattle.cerco_base.specs.Events.{label_count, IsPrefix, Stopped, Ended}
use Rattle.cerco_traces.specs.Systems.{System, Run, here, StopsAt}
use Rattle.cerco_traces.specs.Preservation.{Outcome, Stops, Faults, Meets, and_then, MeetsFrom}
use Rattle.cerco_traces.proofs.Simulation.{joined}

pub labels-append : (es fs : List Event) → label_count (es ++ fs) ≡ label_count es + label_count fs
labels-append [] fs = omega arith
labels-append (Label l ∷ es) fs = let h = labels-append es fs in omega arith
labels-append (Read port byte ∷ es) fs = labels-append es fs
labels-append (Write port byte ∷ es) fs = labels-append es fs

pub and_then-nil : {Fault : Type 0} (r : Outcome Fault) → and_then [] r ≡ r
and_then-nil (Stops es stop) = refl
and_then-nil (Faults es fault) = refl

pub and_then-append : {Fault : Type 0} (es fs : List Event) (r : Outcome Fault) → and_then (es ++ fs) r ≡ and_then es (and_then fs r)
and_then-append es fs (Stops gs stop) = ap (λ l. Stops l stop) (append_assoc es fs gs)
and_then-append es fs (Faults gs fault) = ap (λ l. Faults l fault) (append_assoc es fs gs)

module _ (Fault : Type 0) {T : Type 0} (Y : System T) (d : ℕ) where
  -- a label is due, and it is the stop that is asked for
  pub due_now : (y : T) → IsTrue (Y.due y) → MeetsFrom {Fault = Fault} Y d y 0 (Stops [] Stopped)
  due_now y due = (y, here y, (due, omega arith), sym (append-nil (Y.events y)))

  -- the end, whatever stop is asked for
  pub ended_now : (y : T) (n : ℕ) → IsTrue (Y.ended y) → MeetsFrom {Fault = Fault} Y d y n (Stops [] Ended)
  ended_now y n over = (y, here y, (over, omega arith), sym (append-nil (Y.events y)))

  -- a fault, whatever the program does then
  pub fault_now : (y : T) (n : ℕ) (fault : Fault) → MeetsFrom Y d y n (Faults [] fault)
  fault_now y n fault = (y, here y, record { rest = []; whole = sym (append-nil (Y.events y ++ []) ∙ append-nil (Y.events y)) })

  -- a run that makes the events es, and then what is told from there; each label among es is one stop fewer to go
  pub on_run : (y y' : T) (es : List Event) (n m : ℕ) (r : Outcome Fault) → Run Y d y y' → Y.events y' ≡ Y.events y ++ es → m ≡ label_count es + n → MeetsFrom Y d y' n r → MeetsFrom Y d y m (and_then es r)
  on_run y y' es n m (Stops fs stop) w made count h =
      let now : label_count (Y.events y') + n ≡ label_count (Y.events y) + m = (let a = ap label_count made in let b = labels-append (Y.events y) es in omega arith) in
      (h.0, joined w h.1, subst (λ k. StopsAt Y k h.0 stop) now h.2, h.3 ∙ ap (λ l. l ++ fs) made ∙ append_assoc (Y.events y) es fs)
  on_run y y' es n m (Faults fs fault) w made count h =
      (h.0, joined w h.1, subst (λ l. IsPrefix l (Y.events h.0)) (ap (λ l. l ++ fs) made ∙ append_assoc (Y.events y) es fs) h.2)

  -- a run that makes no events
  pub on_silent_run : (y y' : T) (n : ℕ) (r : Outcome Fault) → Run Y d y y' → Y.events y' ≡ Y.events y → MeetsFrom Y d y' n r → MeetsFrom Y d y n r
  on_silent_run y y' n r w same h =
      subst (MeetsFrom Y d y n) (and_then-nil r) (on_run y y' [] n n r w (same ∙ sym (append-nil (Y.events y))) (omega arith) h)

  -- from a start without events on
  pub meets : (script : List ℕ) (n : ℕ) (r : Outcome Fault) → Y.events (Y.start script) ≡ [] → MeetsFrom Y d (Y.start script) n r → Meets Y d script n r
  meets script n (Stops es stop) none h = record {
    state = h.0;
    run = h.1;
    stops = subst (λ k. StopsAt Y k h.0 stop) (let a = ap label_count none in let e : label_count (Y.events (Y.start script)) + n ≡ n = omega arith in e) h.2;
    made = h.3 ∙ ap (λ l. l ++ es) none;
  }
  meets script n (Faults es fault) none h = record {
    state = h.0;
    run = h.1;
    made = subst (λ l. IsPrefix (l ++ es) (Y.events h.0)) none h.2;
  }
