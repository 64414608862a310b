-- From trace preservation and the costs of stops to the promise of object code, and why there is one arrival at each stop.
use Rattle.std.proofs.Common.{◌≡◌, IsTrue, ℕ, zero, suc, ◌+◌, ◌≤◌, List, [], refl, sym, ap, ◌∙◌, subst, arith}
use Rattle.cerco_base.specs.declared.events.Event.{Event}
use Rattle.cerco_base.specs.Events.{label_count, IsPrefix, Stop, Stopped, Ended, IsScript}
use Rattle.cerco_traces.specs.Systems.{System, EachWithin, Run, here, onward, StopsAt, Arrives}
use Rattle.cerco_traces.specs.Preservation.{PreservesFor, Outcome, Stops, Faults, Source, Meets, PreservesSource}
use Rattle.cerco_traces.specs.Headline.{after, ArrivesWith, Arrival, ArrivesOnce, CostsOfStops, KeepsTo, Headline}
use Rattle.cerco_traces.proofs.Simulation.{preserves_source_trans}

-- a run is some number of steps
pub steps_of : {M : Type 0} (X : System M) {d : ℕ} {s t : M} → Run X d s t → (k : ℕ) × (after X k s ≡ t)
steps_of X (here s) = (0, refl)
steps_of X (onward s t within w) = let a = steps_of X w in (suc a.0, a.1)

module _ {M : Type 0} (X : System M) (cycles : M → ℕ) (cost_at : List Event → ℕ) (d : ℕ) (costs : CostsOfStops X cycles cost_at) where
  pub arrives_with : (script : List ℕ) → IsScript script → (n : ℕ) (es : List Event) (stop : Stop) → Arrives X d script n es stop → ArrivesWith X cycles script n es (cost_at es) stop
  arrives_with script ok n es stop a =
      let k = steps_of X a.run in
      let stops = subst (λ s. StopsAt X n s stop) (sym k.1) a.stops in
      let made = ap X.events k.1 ∙ a.made in
      record { steps = k.0; stops = stops; made = made; took = costs.by script ok k.0 n stop stops ∙ ap cost_at made }

  keeps_to : {Fault : Type 0} (script : List ℕ) → IsScript script → (n : ℕ) (r : Outcome Fault) → Meets X d script n r → KeepsTo X cycles cost_at script n r
  keeps_to script ok n (Stops es stop) m = arrives_with script ok n es stop m
  keeps_to script ok n (Faults es fault) m = let k = steps_of X m.run in (k.0, subst (λ s. IsPrefix es (X.events s)) (sym k.1) m.made)

  pub headline : {Fault : Type 0} (source : Source Fault) → PreservesSource source X d → Headline source X cycles cost_at
  headline source f script ok n = keeps_to script ok n (source script n) (f.meets script ok n)

-- the front end gives a program X that preserves the source, and the back end an object that preserves X
pub headline_of_chain : {Fault S M : Type 0} (source : Source Fault) (X : System S) (Z : System M) (cycles : M → ℕ) (cost_at : List Event → ℕ) (d e : ℕ) → PreservesSource source X d → PreservesFor X Z d e → CostsOfStops Z cycles cost_at → Headline source Z cycles cost_at
headline_of_chain source X Z cycles cost_at d e s f costs = headline Z cycles cost_at e costs source (preserves_source_trans s f)

-- Each run of a system that touches no XRAM and opens no calls, as the object does, keeps within every bound.
module _ {M : Type 0} (X : System M) (d : ℕ) (none : (s : M) → X.touched s ≡ []) (no_calls : (s : M) → X.opened s ≡ 0) where
  pub any_run : (k : ℕ) (s : M) → Run X d s (after X k s)
  any_run zero s = here s
  any_run (suc k) s =
      let calls = no_calls (X.step s) in
      onward s _ (record { bytes = subst (EachWithin d) (sym (none s)) tt; calls = omega arith }) (any_run k (X.step s))

  pub any_arrival : (cycles : M → ℕ) (script : List ℕ) (n : ℕ) (es : List Event) (c : ℕ) (stop : Stop) → ArrivesWith X cycles script n es c stop → Arrives X d script n es stop
  any_arrival cycles script n es c stop a = record { state = after X a.steps (X.start script); run = any_run a.steps (X.start script); stops = a.stops; made = a.made }

-- What makes each stop single: a step from before a label passes one label, no step undoes one, the end stays, and a program that
-- stands before a label hasn't ended.
pub record StopsOnce {M : Type 0} (X : System M) : Type 0 where
  pub label : (s : M) → IsTrue (X.due s) → label_count (X.events (X.step s)) ≡ label_count (X.events s) + 1
  pub no_fewer : (s : M) → label_count (X.events s) ≤ label_count (X.events (X.step s))
  pub ended_stays : (s : M) → IsTrue (X.ended s) → X.step s ≡ s
  pub not_both : (s : M) → IsTrue (X.due s) → IsTrue (X.ended s) → ⊥

module _ {M : Type 0} (X : System M) (once : StopsOnce X) where
  pub more_later : (k : ℕ) (s : M) → label_count (X.events s) ≤ label_count (X.events (after X k s))
  more_later zero s = omega arith
  more_later (suc k) s = let a = once.no_fewer s in let b = more_later k (X.step s) in omega arith

  pub past_label : (k : ℕ) (s : M) → IsTrue (X.due s) → label_count (X.events s) + 1 ≤ label_count (X.events (after X (suc k) s))
  past_label k s due = let a = once.label s due in let b = more_later k (X.step s) in omega arith

  pub stays : (k : ℕ) (s : M) → IsTrue (X.ended s) → after X k s ≡ s
  stays zero s over = refl
  stays (suc k) s over = ap (after X k) (once.ended_stays s over) ∙ stays k s over

  -- the n-th stop, and the n-th stop k steps later, are of one state and kind
  pub one_stop : (k n : ℕ) (s : M) (stop stop' : Stop) → StopsAt X n s stop → StopsAt X n (after X k s) stop' → (after X k s ≡ s) × (stop' ≡ stop)
  one_stop zero n s Stopped Stopped a b = (refl, refl)
  one_stop zero n s Stopped Ended a b = absurd (once.not_both s a.0 b.0)
  one_stop zero n s Ended Stopped a b = absurd (once.not_both s b.0 a.0)
  one_stop zero n s Ended Ended a b = (refl, refl)
  one_stop (suc k) n s Stopped Stopped a b = let h = past_label k s a.0 in let e = a.1 in let e' = b.1 in absurd (omega arith)
  one_stop (suc k) n s Stopped Ended a b = let h = past_label k s a.0 in let e = a.1 in let e' = b.1 in absurd (omega arith)
  one_stop (suc k) n s Ended Stopped a b = let e = stays (suc k) s a.0 in absurd (once.not_both s (subst (λ t. IsTrue (X.due t)) e b.0) a.0)
  one_stop (suc k) n s Ended Ended a b = (stays (suc k) s a.0, refl)

  -- two runs from one state to the n-th stop
  pub same_stop : (j k n : ℕ) (s : M) (stop stop' : Stop) → StopsAt X n (after X j s) stop → StopsAt X n (after X k s) stop' → (after X k s ≡ after X j s) × (stop' ≡ stop)
  same_stop zero k n s stop stop' a b = one_stop k n s stop stop' a b
  same_stop (suc j) zero n s stop stop' a b = let h = one_stop (suc j) n s stop' stop b a in (sym h.0, sym h.1)
  same_stop (suc j) (suc k) n s stop stop' a b = same_stop j k n (X.step s) stop stop' a b

  pub arrives_once : (cycles : M → ℕ) → ArrivesOnce X cycles
  arrives_once cycles script n a b f g =
      let h = same_stop f.steps g.steps n (X.start script) a.stop b.stop f.stops g.stops in
      let seen : List Event → ℕ → Stop → Arrival = λ es c stop. record { events = es; cycles = c; stop = stop } in
      ap (λ es. seen es a.cycles a.stop) (sym f.made ∙ ap X.events (sym h.0) ∙ g.made)
      ∙ ap (λ c. seen b.events c a.stop) (sym f.took ∙ ap cycles (sym h.0) ∙ g.took)
      ∙ ap (λ stop. seen b.events b.cycles stop) (sym h.1)
