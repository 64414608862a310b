-- How a run goes on, where it stops, and that it stops.
use Rattle.std.proofs.Common.{◌≡◌, ℕ, zero, suc, ◌+◌, ◌-◌, ◌<◌, ◌≤◌, List, [], ◌∷◌, ◌++◌, length, map, Some, None, Err, refl, sym, ap, subst, ◌∙◌, arith, inl, inr, ◌⊎◌, append_assoc, below_more, length-append, append-nil}
use Rattle.std.specs.List.{flat_map}
use Rattle.std.proofs.lemmas.Bool.{cases_lt}
use Rattle.std.proofs.lemmas.List.Concat.{flat_map-append}
use Rattle.cerco_base.specs.declared.events.Event.{Event}
use Rattle.cerco_base.specs.Outside.IoStates.{SinkState}
use Rattle.cerco_base.specs.Outside.IoCalls.{PutsText}
use Rattle.cerco_traces.specs.Headline.{after}
use Rattle.cerco_traces.specs.Systems.{System}
use Rattle.cerco_base.specs.declared.outside.faults.IoFault.{IoFault}
use Rattle.cerco_base.proofs.Putting.{SoFar, begun}
use Rattle.sim51.specs.declared.events.Events.{Events}
use Rattle.sim51.specs.State.{State, reset}
use Rattle.sim51.specs.Step.{Moved, Halts, Reserved, Goes, step}
use Rattle.sim51.specs.Runs.{Running, object, events_of, advanced, Setup, setup_of, TimedEvent, made_by, state_after, step_after, trace}
use Rattle.sim51.specs.State.{LoadedMachine}
use Rattle.sim51.proofs.Leads.{step_cycles}
use Rattle.sim51.specs.Skips.{no_events, LeadsBy, Skips}
use Rattle.cerco_command.specs.Answers.{Says, Answers}
use Rattle.cerco_command.specs.Messages.{event_line, event_lines, end_line, stop_line, reserved_line}
use Rattle.cerco_command.specs.Running.{GoesOn, Stops, RunsTo}
use Rattle.cerco_command.specs.Code.Stages.{PutsFront, StepPrinted}
use Rattle.cerco_command.specs.Status.{status_of}
use Rattle.cerco_command.specs.declared.status.Status.{Status}
use Rattle.cerco_command.specs.declared.status.Status.TheVariants as Is
use Rattle.cerco_command.proofs.Answering.{answered, says_rest, no_memory, pending_cut, front_put, so_far_more}

pub after_last : {M : Type 0} (X : System M) (k : ℕ) (s : M) → after X (suc k) s ≡ X.step (after X k s)
after_last X zero s = refl
after_last X (suc k) s = after_last X k (X.step s)

timed_lines : (cycles : ℕ) (es : List Event) → flat_map (λ (timed : TimedEvent). event_line timed.0 timed.1) (map (λ (event : Event). (cycles, event)) es) ≡ event_lines cycles es
timed_lines cycles [] = refl
timed_lines cycles (e ∷ es) = ap (λ (l : List ℕ). event_line cycles e ++ l) (timed_lines cycles es)

module _ (m : Setup) (limit : ℕ) where
  abbrev pub lines_of : ℕ → List ℕ
  lines_of k = flat_map (λ (timed : TimedEvent). event_line timed.0 timed.1) (trace m k)

  abbrev step_from : State → Moved
  step_from s = step m.code m.labels s

  -- the machine has gone on for some steps, and the text has the events of these
  pub record Underway (s : State) (text : List ℕ) : Type 0 where
    pub steps : ℕ
    pub goes_on : (k : ℕ) → k < steps → GoesOn limit (state_after m k) (step_after m k)
    pub here : state_after m steps ≡ s
    pub printed : text ≡ lines_of steps

  state_next : (k : ℕ) (e : Events) (t : State) → step_after m k ≡ Goes e t → state_after m (suc k) ≡ t
  unfolding state_after
  state_next k e t h =
      let X = object m.code m.labels in
      let r = after X k (X.start m.script) in
      ap (λ (q : Running). q.state) (after_last X k (X.start m.script)) ∙ ap (λ (v : Moved). (advanced r v).state) h

  lines_next : (k : ℕ) (e : Events) (t : State) → step_after m k ≡ Goes e t → lines_of (suc k) ≡ lines_of k ++ event_lines (state_after m k).cycles (events_of e)
  unfolding trace
  lines_next k e t h =
      flat_map-append (λ (timed : TimedEvent). event_line timed.0 timed.1) (trace m k) (map (λ (event : Event). ((state_after m k).cycles, event)) (made_by (step_after m k)))
      ∙ ap (λ (l : List ℕ). lines_of k ++ l)
      (timed_lines (state_after m k).cycles (made_by (step_after m k)) ∙ ap (λ (v : Moved). event_lines (state_after m k).cycles (made_by v)) h)

  pub begun_run : Underway (reset m.script) []
  unfolding state_after trace
  begun_run = record { steps = 0; goes_on = λ k before. absurd (omega arith); here = refl; printed = refl }

  -- one step more
  one_more : (s t : State) (text lines : List ℕ) (e : Events) → Underway s text → step_from s ≡ Goes e t → s.cycles < limit → lines ≡ event_lines s.cycles (events_of e) → Underway t (text ++ lines)
  one_more s t text lines e u goes below is =
      let k = u.steps in
      let there : step_after m k ≡ Goes e t = ap step_from u.here ∙ goes in
      let on : GoesOn limit (state_after m k) (step_after m k) = rw there (rw u.here below) in
      record {
        steps = suc k;
        goes_on = λ j before. below_more (λ (i : ℕ). GoesOn limit (state_after m i) (step_after m i)) k u.goes_on on j (omega arith);
        here = state_next k e t there;
        printed = ap (λ (l : List ℕ). text ++ l) (is ∙ ap (λ (q : State). event_lines q.cycles (events_of e)) (sym u.here))
            ∙ ap (λ (l : List ℕ). l ++ event_lines (state_after m k).cycles (events_of e)) u.printed
            ∙ sym (lines_next k e t there);
      }

  -- it stops
  pub finished : (s : State) (text last : List ℕ) (status : Status) → Underway s text → Stops limit s (step_from s) status last → RunsTo m limit status (text ++ last)
  finished s text last status u stops =
      record {
        steps = u.steps;
        goes_on = u.goes_on;
        last = last;
        stops = subst (λ (q : State). Stops limit q (step_from q) status last) (sym u.here) stops;
        printed = ap (λ (l : List ℕ). l ++ last) u.printed;
      }

  -- how a run ends from a state on, and what it still prints
  pub record Rest (text : List ℕ) : Type 0 where
    pub status : Status
    pub rest : List ℕ
    pub some : 0 < length rest
    pub runs : RunsTo m limit status (text ++ rest)

  stopping : (s : State) (text last : List ℕ) (status : Status) (v : Moved) → Underway s text → step_from s ≡ v → 0 < length last → Stops limit s v status last → Rest text
  stopping s text last status v u is some stops =
      record { status = status; rest = last; some = some; runs = finished s text last status u (subst (λ (w : Moved). Stops limit s w status last) (sym is) stops) }

  at_limit : (s : State) (text : List ℕ) (v : Moved) → Underway s text → step_from s ≡ v → limit ≤ s.cycles → Rest text
  at_limit s text Halts u is full = stopping s text (end_line s.cycles) Is.Done Halts u is (omega arith) refl
  at_limit s text Reserved u is full = stopping s text (stop_line s.cycles) Is.Done Reserved u is (omega arith) (full, refl)
  at_limit s text (Goes e t) u is full = stopping s text (stop_line s.cycles) Is.Done (Goes e t) u is (omega arith) (full, refl)

  below_limit : (fuel : ℕ) (s : State) (text : List ℕ) (v : Moved) → ((t : State) (longer : List ℕ) → Underway t longer → limit ≤ fuel + t.cycles → Rest longer) → Underway s text → step_from s ≡ v → s.cycles < limit → limit ≤ suc fuel + s.cycles → Rest text
  below_limit fuel s text Halts further u is below enough = stopping s text (end_line s.cycles) Is.Done Halts u is (omega arith) refl
  below_limit fuel s text Reserved further u is below enough = stopping s text (reserved_line s.pc) Is.Reserved Reserved u is (omega arith) (below, refl)
  below_limit fuel s text (Goes e t) further u is below enough =
      let lines = event_lines s.cycles (events_of e) in
      let longer = step_cycles m.code m.labels s e t is in
      let more = further t (text ++ lines) (one_more s t text lines e u is below refl) (omega arith) in
      let size = length-append lines more.rest in
      let some = more.some in
      record {
        status = more.status;
        rest = lines ++ more.rest;
        some = omega arith;
        runs = subst (λ (l : List ℕ). RunsTo m limit more.status l) (append_assoc text lines more.rest) more.runs;
      }

  -- every run stops
  rest_of : (fuel : ℕ) (s : State) (text : List ℕ) → Underway s text → limit ≤ fuel + s.cycles → Rest text
  rest_of zero s text u enough = at_limit s text (step_from s) u refl (omega arith)
  rest_of (suc fuel) s text u enough =
      elim (cases_lt s.cycles limit) [ inl below ↦ below_limit fuel s text (step_from s) (rest_of fuel) u refl below enough | inr full ↦ at_limit s text (step_from s) u refl full ]

  pub stops_somewhere : (s : State) (text : List ℕ) → Underway s text → Rest text
  stops_somewhere s text u = rest_of limit s text u (omega arith)

  -- what is printed of a run so far, where the machine is now
  pub record PrintsOn (o p : SinkState) (now : LoadedMachine) (pending : List ℕ) : Type 0 where
    pub text : List ℕ
    pub so_far : SoFar o p text pending
    pub underway : Underway now.state text
    pub code_is : now.code ≡ m.code
    pub labels_are : now.labels ≡ m.labels
    pub cycles : now.state.cycles ≤ limit + 4

  -- steps that make no events print nothing
  silent_on : (n : ℕ) (s t : State) (text : List ℕ) → Underway s text → s.cycles ≤ limit + 4 → LeadsBy m.code m.labels limit n s t → Underway t text × (t.cycles ≤ limit + 4)
  unfolding LeadsBy
  silent_on zero s t text u low leads = subst (λ (q : State). Underway q text × (q.cycles ≤ limit + 4)) leads (u, low)
  silent_on (suc n) s t text u low leads =
      let q = leads.0 in
      let before = silent_on n s q text u low leads.1 in
      let below = leads.2 in
      let took = step_cycles m.code m.labels q no_events t leads.3 in
      let longer = one_more q t text [] no_events before.0 leads.3 below refl in
      (subst (λ (l : List ℕ). Underway t l) (append-nil text) longer, omega arith)

  -- the machine made such steps
  pub went_silently : (o p : SinkState) (now next : LoadedMachine) (pending : List ℕ) → PrintsOn o p now pending → next.code ≡ now.code → next.labels ≡ now.labels → Skips now.code now.labels limit now.state next.state → PrintsOn o p next pending
  went_silently o p now next pending a code_same labels_same skips =
      let leads : LeadsBy m.code m.labels limit skips.steps now.state next.state =
      subst (λ (l : List ℕ). LeadsBy m.code l limit skips.steps now.state next.state) a.labels_are
      (subst (λ (l : List ℕ). LeadsBy l now.labels limit skips.steps now.state next.state) a.code_is skips.leads) in
      let on = silent_on skips.steps now.state next.state a.text a.underway a.cycles leads in
      record {
        text = a.text;
        so_far = a.so_far;
        underway = on.0;
        code_is = code_same ∙ a.code_is;
        labels_are = labels_same ∙ a.labels_are;
        cycles = on.1;
      }

  step_is : (o p : SinkState) (now : LoadedMachine) (pending : List ℕ) → PrintsOn o p now pending → step now.code now.labels now.state ≡ step_from now.state
  step_is o p now pending a = ap (λ (c : List ℕ). step c now.labels now.state) a.code_is ∙ ap (λ (l : List ℕ). step m.code l now.state) a.labels_are

  -- the machine went on, and a front of what is pending was put
  pub goes_on_printing : (o p q : SinkState) (now next : LoadedMachine) (before pending after : List ℕ) → PrintsOn o p now before → StepPrinted limit now next before pending None → next.code ≡ now.code → next.labels ≡ now.labels → PutsFront p q pending after → PrintsOn o q next after
  goes_on_printing o p q now next before pending after a s code_same labels_same f =
      let events = s.prints.0 in
      let goes : step_from now.state ≡ Goes events next.state = sym (step_is o p now before a) ∙ s.prints.1 in
      let below = s.prints.2 in
      let took = step_cycles m.code m.labels now.state events next.state goes in
      let so_far : SoFar o p (a.text ++ s.lines) pending = subst (λ (l : List ℕ). SoFar o p (a.text ++ s.lines) l) (sym s.added) (so_far_more o p a.text before s.lines a.so_far) in
      record {
        text = a.text ++ s.lines;
        so_far = front_put o p q (a.text ++ s.lines) pending after so_far f;
        underway = one_more now.state next.state a.text s.lines events a.underway goes below s.prints.3;
        code_is = code_same ∙ a.code_is;
        labels_are = labels_same ∙ a.labels_are;
        cycles = omega arith;
      }

  -- fewer cycles are left
  pub fewer_left : (o p : SinkState) (now next : LoadedMachine) (before pending : List ℕ) → PrintsOn o p now before → StepPrinted limit now next before pending None → limit + 5 - next.state.cycles < limit + 5 - now.state.cycles
  fewer_left o p now next before pending a s =
      let goes : step_from now.state ≡ Goes s.prints.0 next.state = sym (step_is o p now before a) ∙ s.prints.1 in
      let below = s.prints.2 in
      let took = step_cycles m.code m.labels now.state s.prints.0 next.state goes in
      omega arith

  -- the machine stopped, and what was pending is put
  pub stop_printed : (o p q : SinkState) (now next : LoadedMachine) (before pending : List ℕ) (meant status : Status) → PrintsOn o p now before → StepPrinted limit now next before pending (Some meant) → Says p q meant pending status → Answers (RunsTo m limit) o q status
  stop_printed o p q now next before pending meant status a s says =
      let so_far : SoFar o p (a.text ++ s.lines) pending = subst (λ (l : List ℕ). SoFar o p (a.text ++ s.lines) l) (sym s.added) (so_far_more o p a.text before s.lines a.so_far) in
      let stops = subst (λ (v : Moved). Stops limit now.state v meant s.lines) (step_is o p now before a) s.prints in
      answered (RunsTo m limit) o q meant (a.text ++ s.lines) status (finished now.state a.text s.lines meant a.underway stops)
      (says_rest o p q (a.text ++ s.lines) pending meant status so_far says)

  -- there was no memory for what is pending
  pub pending_lost : (o p : SinkState) (now : LoadedMachine) (pending : List ℕ) → PrintsOn o p now pending → Answers (RunsTo m limit) o p Is.NoMemory
  pending_lost o p now pending a =
      let r = stops_somewhere now.state a.text a.underway in
      let size = length-append a.text r.rest in
      let some = r.some in
      answered (RunsTo m limit) o p r.status (a.text ++ r.rest) Is.NoMemory r.runs
      (no_memory o p (a.text ++ r.rest) (pending ++ r.rest) r.status (so_far_more o p a.text pending r.rest a.so_far) (omega arith))

  -- the put of what is pending failed
  pub pending_unput : {X : Type 0} (o p q : SinkState) (now next : LoadedMachine) (before pending : List ℕ) (fault : IoFault) → PrintsOn o p now before → StepPrinted limit now next before pending None → PutsText {T = X} p q pending (Err fault) → Answers (RunsTo m limit) o q (status_of fault)
  pending_unput {X} o p q now next before pending fault a s puts =
      let goes : step_from now.state ≡ Goes s.prints.0 next.state = sym (step_is o p now before a) ∙ s.prints.1 in
      let u = one_more now.state next.state a.text s.lines s.prints.0 a.underway goes s.prints.2 s.prints.3 in
      let so_far : SoFar o p (a.text ++ s.lines) pending = subst (λ (l : List ℕ). SoFar o p (a.text ++ s.lines) l) (sym s.added) (so_far_more o p a.text before s.lines a.so_far) in
      let r = stops_somewhere next.state (a.text ++ s.lines) u in
      answered (RunsTo m limit) o q r.status ((a.text ++ s.lines) ++ r.rest) (status_of fault) r.runs
      (pending_cut {X = X} o p q (a.text ++ s.lines) pending r.rest r.status fault so_far puts)

-- nothing is printed yet
pub started : (limit : ℕ) (o : SinkState) (machine : LoadedMachine) → machine.state ≡ reset machine.state.core.script → PrintsOn (setup_of machine) limit o o machine []
started limit o machine is =
    let P : State → Type 0 = λ s. Underway (setup_of machine) limit s [] in
    let none : machine.state.cycles ≡ 0 = ap (λ (s : State). s.cycles) is in
    record {
      text = [];
      so_far = begun o [];
      underway = subst P (sym is) (begun_run (setup_of machine) limit);
      code_is = refl;
      labels_are = refl;
      cycles = omega arith;
    }

-- a run stops as it is done or at the reserved opcode
pub stop_status : (limit : ℕ) (s : State) (v : Moved) (status : Status) (line : List ℕ) → Stops limit s v status line → (status ≡ Is.Done) ⊎ (status ≡ Is.Reserved)
stop_status limit s Halts Is.Done line h = inl refl
stop_status limit s Reserved Is.Done line h = inl refl
stop_status limit s (Goes e t) Is.Done line h = inl refl
stop_status limit s Reserved Is.Reserved line h = inr refl
stop_status limit s v status line h = absurd h
