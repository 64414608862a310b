-- A run has one stop.
use Rattle.std.proofs.Common.{◌≡◌, ℕ, zero, suc, ◌+◌, ◌-◌, ◌<◌, ◌≤◌, List, [], ◌++◌, refl, sym, ap, ap₂, subst, ◌∙◌, arith, inl, inr, ◌⊎◌}
use Rattle.std.proofs.lemmas.Bool.{cases_lt}
use Rattle.std.specs.List.{flat_map}
use Rattle.cerco_traces.specs.Headline.{after}
use Rattle.sim51.specs.State.{State}
use Rattle.sim51.specs.Step.{Moved, Halts, Reserved, Goes, step}
use Rattle.sim51.specs.Runs.{Running, object, advanced, Setup, TimedEvent, state_after, step_after, trace}
use Rattle.cerco_command.specs.Running.{GoesOn, Stops, RunsTo}
use Rattle.cerco_command.specs.Messages.{event_line}
use Rattle.cerco_command.specs.Once.{ReachesReserved, StopsOnce}
use Rattle.cerco_command.specs.declared.status.Status.{Status}
use Rattle.cerco_command.specs.declared.status.Status.TheVariants as Is
use Rattle.sim51.proofs.Leads.{step_cycles}
use Rattle.cerco_command.proofs.RunSteps.{after_last, begun_run, stops_somewhere}

-- a machine that goes on doesn't stop
not_both : (limit : ℕ) (s : State) (v : Moved) (status : Status) (line : List ℕ) → GoesOn limit s v → Stops limit s v status line → ⊥
not_both limit s (Goes e t) Is.Done line on stop = let full = stop.0 in omega arith
not_both limit s Halts status line on stop = on
not_both limit s Reserved status line on stop = on
not_both limit s (Goes e t) status line on stop = stop

-- one status and one last line
one_last : (limit : ℕ) (s : State) (v : Moved) (a b : Status) (x y : List ℕ) → Stops limit s v a x → Stops limit s v b y → (a ≡ b) × (x ≡ y)
one_last limit s Halts Is.Done Is.Done x y p q = (refl, p ∙ sym q)
one_last limit s Reserved Is.Done Is.Done x y p q = (refl, p.1 ∙ sym q.1)
one_last limit s Reserved Is.Reserved Is.Reserved x y p q = (refl, p.1 ∙ sym q.1)
one_last limit s Reserved Is.Done Is.Reserved x y p q = let full = p.0 in let below = q.0 in absurd (omega arith)
one_last limit s Reserved Is.Reserved Is.Done x y p q = let below = p.0 in let full = q.0 in absurd (omega arith)
one_last limit s (Goes e t) Is.Done Is.Done x y p q = (refl, p.1 ∙ sym q.1)
one_last limit s Halts Is.Done b x y p q = absurd q
one_last limit s Reserved Is.Done b x y p q = absurd q
one_last limit s Reserved Is.Reserved b x y p q = absurd q
one_last limit s (Goes e t) Is.Done b x y p q = absurd q
one_last limit s v a b x y p q = absurd p

module _ (m : Setup) (limit : ℕ) where
  same_steps : (a b : Status) (x y : List ℕ) → (p : RunsTo m limit a x) → (q : RunsTo m limit b y) → p.steps ≡ q.steps
  same_steps a b x y p q = by (cases_lt p.steps q.steps) (cases_lt q.steps p.steps)
    where
      by : (p.steps < q.steps) ⊎ (q.steps ≤ p.steps) → (q.steps < p.steps) ⊎ (p.steps ≤ q.steps) → p.steps ≡ q.steps
      by (inl before) other = absurd (not_both limit (state_after m p.steps) (step_after m p.steps) a p.last (q.goes_on p.steps before) p.stops)
      by (inr l) (inl before) = absurd (not_both limit (state_after m q.steps) (step_after m q.steps) b q.last (p.goes_on q.steps before) q.stops)
      by (inr l) (inr l') = omega arith

  pub one_stop : (a b : Status) (x y : List ℕ) → RunsTo m limit a x → RunsTo m limit b y → (a ≡ b) × (x ≡ y)
  one_stop a b x y p q =
      let same = same_steps a b x y p q in
      let P : ℕ → Type 0 = λ k. Stops limit (state_after m k) (step_after m k) b q.last in
      let last = one_last limit (state_after m p.steps) (step_after m p.steps) a b p.last q.last p.stops (subst P (sym same) q.stops) in
      (last.0, p.printed ∙ (ap₂ (λ (k : ℕ) (l : List ℕ). flat_map (λ (timed : TimedEvent). event_line timed.0 timed.1) (trace m k) ++ l) same last.1 ∙ sym q.printed))

  -- the state one step further
  abbrev next_of : State → Moved → State
  next_of s Halts = s
  next_of s Reserved = s
  next_of s (Goes e t) = t

  next_is : (r : Running) (v : Moved) → (advanced r v).state ≡ next_of r.state v
  next_is r Halts = refl
  next_is r Reserved = refl
  next_is r (Goes e t) = refl

  state_next : (k : ℕ) → state_after m (suc k) ≡ next_of (state_after m k) (step_after m k)
  unfolding state_after
  state_next k =
      let X = object m.code m.labels in
      let r = after X k (X.start m.script) in
      ap (λ (q : Running). q.state) (after_last X k (X.start m.script)) ∙ next_is r (step_after m k)

  -- the cycles never fall
  rises : (k : ℕ) → (state_after m k).cycles ≤ (state_after m (suc k)).cycles
  rises k = by (step_after m k) refl
    where
      by : (v : Moved) → step_after m k ≡ v → (state_after m k).cycles ≤ (state_after m (suc k)).cycles
      by Halts e = let same = ap (λ (s : State). s.cycles) (state_next k ∙ ap (next_of (state_after m k)) e) in omega arith
      by Reserved e = let same = ap (λ (s : State). s.cycles) (state_next k ∙ ap (next_of (state_after m k)) e) in omega arith
      by (Goes e t) is =
          let same = ap (λ (s : State). s.cycles) (state_next k ∙ ap (next_of (state_after m k)) is) in
          let longer = step_cycles m.code m.labels (state_after m k) e t is in omega arith

  later_cycles : (d k : ℕ) → (state_after m k).cycles ≤ (state_after m (d + k)).cycles
  later_cycles zero k = let same : 0 + k ≡ k = omega arith in let e = ap (λ (j : ℕ). (state_after m j).cycles) same in omega arith
  later_cycles (suc d) k =
      let more = later_cycles d k in
      let once = rises (d + k) in
      let same : suc d + k ≡ suc (d + k) = omega arith in
      let e = ap (λ (j : ℕ). (state_after m j).cycles) same in
      omega arith

  -- a halted machine stays so
  halted_stays : (d k : ℕ) → step_after m k ≡ Halts → step_after m (d + k) ≡ Halts
  halted_stays zero k h = let same : 0 + k ≡ k = omega arith in ap (step_after m) same ∙ h
  halted_stays (suc d) k h =
      let before = halted_stays d k h in
      let same : suc d + k ≡ suc (d + k) = omega arith in
      let stays : state_after m (suc (d + k)) ≡ state_after m (d + k) = state_next (d + k) ∙ ap (next_of (state_after m (d + k))) before in
      ap (step_after m) same ∙ (ap (λ (s : State). step_from s) stays ∙ before)
    where
      step_from : State → Moved
      step_from s = step m.code m.labels s

  -- where the machine reaches the reserved opcode below the limit, its run stops there
  stops_there : (r : ReachesReserved m limit) (status : Status) (text : List ℕ) → RunsTo m limit status text → status ≡ Is.Reserved
  stops_there r status text p = by (cases_lt r.steps p.steps)
    where
      P : Moved → Type 0
      P v = GoesOn limit (state_after m r.steps) v

      at : (v : Moved) (k : ℕ) → k ≤ r.steps → step_after m k ≡ v → Stops limit (state_after m k) v status p.last → status ≡ Is.Reserved
      at Halts k before is stops =
          let there : (r.steps - k) + k ≡ r.steps = omega arith in
          let same = sym (halted_stays (r.steps - k) k is) ∙ (ap (step_after m) there ∙ r.stands) in absurd cc
      at (Goes e t) k before is stops =
          let there : (r.steps - k) + k ≡ r.steps = omega arith in
          let later = later_cycles (r.steps - k) k in
          let e' = ap (λ (j : ℕ). (state_after m j).cycles) there in
          let below = r.below in
          full status stops (omega arith)
        where
          full : (a : Status) → Stops limit (state_after m k) (Goes e t) a p.last → (state_after m k).cycles < limit → a ≡ Is.Reserved
          full Is.Done s below = let over = s.0 in absurd (omega arith)
          full a s below = absurd s
      at Reserved k before is stops =
          let there : (r.steps - k) + k ≡ r.steps = omega arith in
          let later = later_cycles (r.steps - k) k in
          let e' = ap (λ (j : ℕ). (state_after m j).cycles) there in
          let below = r.below in
          full status stops (omega arith)
        where
          full : (a : Status) → Stops limit (state_after m k) Reserved a p.last → (state_after m k).cycles < limit → a ≡ Is.Reserved
          full Is.Reserved s below = refl
          full Is.Done s below = let over = s.0 in absurd (omega arith)
          full a s below = absurd s

      by : (r.steps < p.steps) ⊎ (p.steps ≤ r.steps) → status ≡ Is.Reserved
      by (inl before) = absurd (subst P r.stands (p.goes_on r.steps before))
      by (inr after') = at (step_after m p.steps) p.steps after' refl p.stops

  reached_there : (text : List ℕ) → RunsTo m limit Is.Reserved text → ReachesReserved m limit
  reached_there text p = by (step_after m p.steps) refl p.stops
    where
      by : (v : Moved) → step_after m p.steps ≡ v → Stops limit (state_after m p.steps) v Is.Reserved p.last → ReachesReserved m limit
      by Reserved is stops = record { steps = p.steps; stands = is; below = stops.0 }
      by Halts is stops = absurd stops
      by (Goes e t) is stops = absurd stops

  pub stops_once : StopsOnce m limit
  stops_once =
      let r = stops_somewhere m limit _ _ (begun_run m limit) in
      record {
        status = r.status;
        text = _;
        runs = r.runs;
        only = λ a x p. one_stop a r.status x _ p r.runs;
        reserved = λ there. stops_there there r.status _ r.runs;
        reached = λ is. reached_there _ (subst (λ (a : Status). RunsTo m limit a ([] ++ r.rest)) is r.runs);
      }
