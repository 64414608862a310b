-- The cycles at a stop are a sum of costs.
use Rattle.std.proofs.Common.{◌≡◌, IsTrue, ℕ, zero, suc, ◌+◌, ◌≤◌, List, [], Bool, true, false, ◌||◌, cond, Option, Some, None, is_some, Ok, ◌⊎◌, inl, inr, refl, sym, ap, ap₂, ◌∙◌, subst, arith}
use Rattle.std.specs.Prelude.{sum_by}
use Rattle.std.proofs.lemmas.List.Sums.{sum_by-append}
use Rattle.cerco_base.specs.declared.events.Label.{Label}
use Rattle.cerco_base.specs.declared.events.Port.{Port}
use Rattle.cerco_base.specs.Events.{Stop, Stopped, Ended}
use Rattle.cerco_traces.specs.Systems.{StopsAt}
use Rattle.cerco_traces.specs.Headline.{after}
use Rattle.mcs51_isa.specs.declared.instr.Instr.{Instr}
use Rattle.sim51.specs.declared.events.Events.{Events}
use Rattle.sim51.specs.State.{State}
use Rattle.sim51.specs.Effect.{effect}
use Rattle.sim51.specs.Step.{Moved, Halts, Reserved, Goes, instr_at, label_at, next_address, halts, made, moved_by, step}
use Rattle.sim51.specs.Runs.{Running, object, advanced, events_of, passes_label, has_halted}
use Rattle.block_costs.specs.Ways.{is_marked, AreMarks, has_halt, halts_by, is_closed, cost, start_cost}
use Rattle.block_costs.specs.Sound.{IsReturn, MakesWay, ends, onward, TakesCycles}
use Rattle.block_costs.specs.Sums.{event_cost, ReturnsLand, LabelsCost, CyclesAddUp}
use Rattle.block_costs.proofs.Sound.{cost_is_exact}

-- A step makes the label of its place, and isn't at a jump to itself.
pub record IsStep (code labels : List ℕ) (s : State) (e : Events) : Type 0 where
  pub label : e.label ≡ label_at labels s.pc
  pub runs : has_halt code s.pc ≡ false

pub is_step : (code labels : List ℕ) (s : State) (e : Events) (t : State) → step code labels s ≡ Goes e t → IsStep code labels s e
unfolding step
is_step code labels s e t goes = by_instr (instr_at code s.pc) refl goes
  where
    by_halt : (i : Instr) → instr_at code s.pc ≡ Some i → (b : Bool) → halts i s.pc ≡ b → cond b Halts (made code labels i s) ≡ Goes e t → IsStep code labels s e
    by_halt i here true halt q = absurd cc
    by_halt i here false runs q =
        let same : record { label = label_at labels s.pc; read = (effect code i (next_address s.pc i) s.core).read; write = (effect code i (next_address s.pc i) s.core).write } ≡ e = cc in
        record { label = sym (ap (λ (x : Events). x.label) same); runs = ap (λ o. halts_by o s.pc) here ∙ runs }

    by_instr : (o : Option Instr) → instr_at code s.pc ≡ o → moved_by code labels o s ≡ Goes e t → IsStep code labels s e
    by_instr None here q = absurd cc
    by_instr (Some i) here q = by_halt i here (halts i s.pc) refl q

same_state : (e f : Events) (s t : State) → ◌≡◌ {A = Moved} (Goes e s) (Goes f t) → s ≡ t
same_state e f s t q = cc

some_label : (o : Option Label) → is_some o ≡ true → (l : Label) × (o ≡ Some l)
some_label None e = absurd cc
some_label (Some l) e = (l, refl)

no_label : (o : Option Label) → is_some o ≡ false → o ≡ None
no_label None e = refl
no_label (Some l) e = absurd cc

marked_here : (marked halt : Bool) → (marked || halt) ≡ true → halt ≡ false → marked ≡ true
marked_here true halt e f = refl
marked_here false halt e f = let clash : true ≡ false = sym e ∙ f in absurd cc

unmarked_here : (marked halt : Bool) → (marked || halt) ≡ false → marked ≡ false
unmarked_here true halt e = absurd cc
unmarked_here false halt e = refl

abbrev pub cost_of_label : (ℕ → ℕ) → Option Label → ℕ
cost_of_label costs None = 0
cost_of_label costs (Some l) = costs l.0

module _ (code labels : List ℕ) (marks : List Bool) (costs : ℕ → ℕ) where
  -- so many steps that go on, whose labels cost so much: returns land, and labels have costs
  abbrev pub Makes : ℕ → State → ℕ → State → Type 0
  Makes zero s sum t = (s ≡ t) × (sum ≡ 0)
  Makes (suc n) s sum t =
      (e : Events) × (x : State) × (more : ℕ) × (step code labels s ≡ Goes e x) × (sum ≡ cost_of_label costs e.label + more)
      × (IsReturn (instr_at code s.pc) → is_closed code marks x.pc ≡ true)
      × ((l : Label) → e.label ≡ Some l → cost code marks s.pc ≡ Ok (costs l.0))
      × Makes n x more t

module _ (code labels : List ℕ) (marks : List Bool) (costs : ℕ → ℕ) (marked : AreMarks labels marks) where
  abbrev From : ℕ → State → ℕ → State → Type 0
  From n s sum t = Makes code labels marks costs n s sum t

  unlabelled : (a : ℕ) → is_marked marks a ≡ false → label_at labels a ≡ None
  unlabelled a e = no_label (label_at labels a) (sym (marked a) ∙ e)

  -- what is left of a run after a whole way
  record Left (n : ℕ) (s m : State) (sum : ℕ) (t : State) : Type 0 where
    steps : ℕ
    more : ℕ
    fewer : steps ≤ n
    rest : From steps m more t
    sums : sum ≡ cost_of_label costs (label_at labels s.pc) + more
    stop : is_closed code marks m.pc ≡ true

  -- after the last instruction of a way
  at_last : (n : ℕ) (s m t : State) (sum : ℕ) (e : Events) → step code labels s ≡ Goes e m → IsReturn (instr_at code s.pc) ⊎ (is_closed code marks m.pc ≡ true) → From (suc n) s sum t → Left n s m sum t
  at_last n s m t sum e goes end (f, x, more, goes', sums, lands, priced, run) =
      let same : x ≡ m = same_state f e x m (sym goes' ∙ goes) in
      let st = is_step code labels s f x goes' in
      record {
        steps = n;
        more = more;
        fewer = omega arith;
        rest = subst (λ (y : State). From n y more t) same run;
        sums = sums ∙ ap (λ l. cost_of_label costs l + more) st.label;
        stop = elim end [ inl back ↦ ap (λ (y : State). is_closed code marks y.pc) (sym same) ∙ lands back | inr closed ↦ closed ];
      }

  -- after another one
  past : (n : ℕ) (s x m t : State) (sum : ℕ) (e : Events) → step code labels s ≡ Goes e x → is_closed code marks x.pc ≡ false → is_closed code marks t.pc ≡ true
      → ((n' more : ℕ) → From (suc n') x more t → Left n' x m more t) → From (suc n) s sum t → Left n s m sum t
  past n s x m t sum e goes unclosed stop again (f, y, more, goes', sums, lands, priced, run) = by_steps n run
    where
      same : y ≡ x
      same = same_state f e y x (sym goes' ∙ goes)

      whole : sum ≡ cost_of_label costs (label_at labels s.pc) + more
      whole = sums ∙ ap (λ l. cost_of_label costs l + more) (is_step code labels s f y goes').label

      by_steps : (n : ℕ) → From n y more t → Left n s m sum t
      by_steps zero (here, none) =
          let clash : true ≡ false = sym stop ∙ ap (λ (z : State). is_closed code marks z.pc) (sym here ∙ same) ∙ unclosed in
          absurd cc
      by_steps (suc n') run' =
          let l = again n' more (subst (λ (z : State). From (suc n') z more t) same run') in
          let free = unlabelled x.pc (unmarked_here (is_marked marks x.pc) (has_halt code x.pc) unclosed) in
          let none : cost_of_label costs (label_at labels x.pc) ≡ 0 = ap (cost_of_label costs) free in
          record { steps = l.steps; more = l.more; fewer = omega (arith, l.fewer); rest = l.rest; sums = omega (arith, whole, l.sums, none); stop = l.stop }

  along : (w : ℕ) (s m t : State) (n sum : ℕ) → is_closed code marks t.pc ≡ true → MakesWay code labels marks w s m → From (suc n) s sum t → Left n s m sum t
  along w s m t n sum stop (ends s' m' e goes end) run = at_last n s m t sum e goes end run
  along w s m t n sum stop (onward w' s' x m' e goes other unclosed way) run =
      past n s x m t sum e goes unclosed stop (λ n' more run'. along w' x m t n' more stop way run') run

  -- from a closed address to a closed address
  between : (bound n : ℕ) (s t : State) (sum : ℕ) → n ≤ bound → is_closed code marks s.pc ≡ true → is_closed code marks t.pc ≡ true → From n s sum t → t.cycles ≡ s.cycles + sum
  between bound zero s t sum few from to (here, none) = ap (λ (y : State). y.cycles) (sym here) ∙ omega (arith, none)
  between zero (suc n) s t sum few from to run = absurd (omega arith)
  between (suc bound) (suc n) s t sum few from to run = by_cost (λ k m more lt at rest. between bound k m t more lt at to rest)
    where
      st : IsStep code labels s run.0
      st = is_step code labels s run.0 run.1 run.3

      here : (l : Label) × (label_at labels s.pc ≡ Some l)
      here = some_label (label_at labels s.pc) (sym (marked s.pc) ∙ marked_here (is_marked marks s.pc) (has_halt code s.pc) from st.runs)

      Again : Type 0
      Again = (k : ℕ) (m : State) (more : ℕ) → k ≤ bound → is_closed code marks m.pc ≡ true → From k m more t → t.cycles ≡ m.cycles + more

      by_way : Again → TakesCycles code labels marks s (costs here.0.0) → t.cycles ≡ s.cycles + sum
      by_way again w =
          let l = along w.count s w.end t n sum to w.way run in
          let rest = again l.steps w.end l.more (omega (arith, l.fewer)) l.stop l.rest in
          let costs_here : cost_of_label costs (label_at labels s.pc) ≡ costs here.0.0 = ap (cost_of_label costs) here.1 in
          omega (arith, rest, w.took, l.sums, costs_here)

      by_cost : Again → t.cycles ≡ s.cycles + sum
      by_cost again = elim (cost_is_exact code labels marks s.pc (costs here.0.0) (run.6 here.0 (st.label ∙ here.1)) s refl) [
        | inl halted ↦ (let clash : true ≡ false = sym halted.0 ∙ st.runs in absurd cc)
        | inr way ↦ by_way again way.1
      ]

  not_closed : (marked halt : Bool) → marked ≡ false → halt ≡ false → (marked || halt) ≡ true → ⊥
  not_closed true halt e f g = cc
  not_closed false halt e f g = let clash : true ≡ false = sym g ∙ f in cc

  -- from the start to a closed address
  from_start : (n : ℕ) (s t : State) (start sum : ℕ) → s.pc ≡ 0 → s.cycles ≡ 0 → start_cost code marks ≡ Ok start → is_closed code marks t.pc ≡ true → From n s sum t → t.cycles ≡ start + sum
  from_start n s t start sum at fresh costed stop run = by_mark (is_marked marks 0) refl costed
    where
      by_way : (n : ℕ) → is_marked marks 0 ≡ false → has_halt code 0 ≡ false → TakesCycles code labels marks s start → From n s sum t → t.cycles ≡ start + sum
      by_way zero free runs w (here, none) =
          let there : t.pc ≡ 0 = ap (λ (y : State). y.pc) (sym here) ∙ at in
          absurd (not_closed (is_marked marks t.pc) (has_halt code t.pc) (ap (is_marked marks) there ∙ free) (ap (has_halt code) there ∙ runs) stop)
      by_way (suc k) free runs w run' =
          let l = along w.count s w.end t k sum stop w.way run' in
          let rest = between l.steps l.steps w.end t l.more (omega arith) l.stop stop l.rest in
          let none : cost_of_label costs (label_at labels s.pc) ≡ 0 = ap (cost_of_label costs) (unlabelled s.pc (ap (is_marked marks) at ∙ free)) in
          omega (arith, rest, w.took, l.sums, none, fresh)

      by_mark : (b : Bool) → is_marked marks 0 ≡ b → cond b (Ok 0) (cost code marks 0) ≡ Ok start → t.cycles ≡ start + sum
      by_mark true here q =
          let zero_start : ◌≡◌ {A = ℕ} 0 start = cc in
          let from : is_closed code marks s.pc ≡ true = ap (is_closed code marks) at ∙ ap (λ b. b || has_halt code 0) here in
          omega (arith, between n n s t sum (omega arith) from stop run, zero_start, fresh)
      by_mark false free q =
          elim (cost_is_exact code labels marks 0 start q s at) [
            | inl halted ↦ (let from : is_closed code marks s.pc ≡ true = ap (is_closed code marks) at ∙ ap₂ (λ b h. b || h) free halted.0 in omega (arith, between n n s t sum (omega arith) from stop run, halted.1, fresh))
            | inr way ↦ by_way n free way.0 way.1 run
          ]

-- the events of a step cost what its label costs
label_events_cost : (costs : ℕ → ℕ) (at : Option Label) (read write : Option (Port × ℕ)) → sum_by (event_cost costs) (events_of (record { label = at; read = read; write = write })) ≡ cost_of_label costs at
label_events_cost costs None None None = refl
label_events_cost costs None None (Some w) = refl
label_events_cost costs None (Some r) None = refl
label_events_cost costs None (Some r) (Some w) = refl
label_events_cost costs (Some l) None None = omega arith
label_events_cost costs (Some l) None (Some w) = omega arith
label_events_cost costs (Some l) (Some r) None = omega arith
label_events_cost costs (Some l) (Some r) (Some w) = omega arith

module _ (code labels : List ℕ) (marks : List Bool) (costs : ℕ → ℕ) where
  abbrev total : Running → ℕ
  total r = sum_by (event_cost costs) r.events

  -- The steps from one place of a run to another, with what their labels cost.
  record Counted (r end : Running) : Type 0 where
    steps : ℕ
    sum : ℕ
    run : Makes code labels marks costs steps r.state sum end.state
    sums : total end ≡ total r + sum

  abbrev Lands : Running → Running → Type 0
  Lands r t = IsReturn (instr_at code r.state.pc) → is_closed code marks t.state.pc ≡ true

  abbrev Priced : Running → Type 0
  Priced r = (e : Events) (t : State) (l : Label) → step code labels r.state ≡ Goes e t → e.label ≡ Some l → cost code marks r.state.pc ≡ Ok (costs l.0)

  one_more : (r end : Running) (m : Moved) → step code labels r.state ≡ m → Lands r (advanced r m) → Priced r → Counted (advanced r m) end → Counted r end
  one_more r end Halts moved lands priced c = c
  one_more r end Reserved moved lands priced c = c
  one_more r end (Goes e t) moved lands priced c =
      let shown : total (advanced r (Goes e t)) ≡ total r + cost_of_label costs e.label = sum_by-append (event_cost costs) r.events (events_of e) ∙ ap (λ n. total r + n) (label_events_cost costs e.label e.read e.write) in
      record {
        steps = suc c.steps;
        sum = cost_of_label costs e.label + c.sum;
        run = (e, t, c.sum, moved, refl, lands, λ l is. priced e t l moved is, c.run);
        sums = omega (arith, c.sums, shown);
      }

  counted : (k : ℕ) (r : Running) → ReturnsLand code labels marks k r → LabelsCost code labels marks costs k r → Counted r (after (object code labels) k r)
  counted zero r lands priced = record { steps = 0; sum = 0; run = (refl, refl); sums = omega arith }
  counted (suc k) r lands priced =
      let more = counted k ((object code labels).step r) (λ j lt back. lands (suc j) (omega arith) back) (λ j lt e t l goes is. priced (suc j) (omega arith) e t l goes is) in
      one_more r (after (object code labels) (suc k) r) (step code labels r.state) refl (λ back. lands 0 (omega arith) back) (λ e t l goes is. priced 0 (omega arith) e t l goes is) more

  -- a stop is at a closed address
  due_closed : AreMarks labels marks → (s : State) (m : Moved) → step code labels s ≡ m → IsTrue (passes_label m) → is_closed code marks s.pc ≡ true
  due_closed marked s Halts moved due = absurd cc
  due_closed marked s Reserved moved due = absurd cc
  due_closed marked s (Goes e t) moved due =
      let st = is_step code labels s e t moved in
      let here : is_marked marks s.pc ≡ true = marked s.pc ∙ ap is_some (sym st.label) ∙ due in
      ap (λ b. b || has_halt code s.pc) here

  or_halted : (b : Bool) → (b || true) ≡ true
  or_halted true = refl
  or_halted false = refl

  ended_closed : (s : State) (m : Moved) → step code labels s ≡ m → IsTrue (has_halted m) → is_closed code marks s.pc ≡ true
  unfolding step
  ended_closed s Reserved moved over = absurd cc
  ended_closed s (Goes e t) moved over = absurd cc
  ended_closed s Halts moved over = by_instr (instr_at code s.pc) refl moved
    where
      by_halt : (i : Instr) → instr_at code s.pc ≡ Some i → (b : Bool) → halts i s.pc ≡ b → cond b Halts (made code labels i s) ≡ Halts → is_closed code marks s.pc ≡ true
      by_halt i here true halt q =
          let halted : has_halt code s.pc ≡ true = ap (λ o. halts_by o s.pc) here ∙ halt in
          ap (λ h. is_marked marks s.pc || h) halted ∙ or_halted (is_marked marks s.pc)
      by_halt i here false runs q = absurd cc

      by_instr : (o : Option Instr) → instr_at code s.pc ≡ o → moved_by code labels o s ≡ Halts → is_closed code marks s.pc ≡ true
      by_instr None here q = absurd cc
      by_instr (Some i) here q = by_halt i here (halts i s.pc) refl q

  stop_closed : AreMarks labels marks → (n : ℕ) (r : Running) (stop : Stop) → StopsAt (object code labels) n r stop → is_closed code marks r.state.pc ≡ true
  stop_closed marked n r Stopped at = due_closed marked r.state (step code labels r.state) refl at.0
  stop_closed marked n r Ended at = ended_closed r.state (step code labels r.state) refl at.0

pub cycles_add_up : CyclesAddUp
cycles_add_up code labels marks marked start costs costed script k n stop lands priced stops =
    let r = (object code labels).start script in
    let c = counted code labels marks costs k r lands priced in
    let end = after (object code labels) k r in
    let closed = stop_closed code labels marks costs marked n end stop stops in
    let none : sum_by (event_cost costs) [] ≡ 0 = refl in
    omega (arith, from_start code labels marks costs marked c.steps r.state end.state start c.sum refl refl costed closed c.run, c.sums, none)
