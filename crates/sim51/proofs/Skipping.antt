-- Runs of steps that show nothing.
use Rattle.std.proofs.Common.{◌≡◌, ℕ, zero, suc, ◌+◌, ◌-◌, ◌<◌, ◌≤◌, List, [], ◌∷◌, ◌++◌, length, map, take, get_or, Option, Some, None, Bool, true, false, cond, not, ◌&&◌, ◌||◌, is_some, refl, sym, ap, subst, ◌∙◌, arith, lit≤, slice_get}
use Rattle.std.specs.Prelude.{option_map}
use Rattle.std.proofs.lemmas.List.{length-map, map_more}
use Rattle.std.proofs.lemmas.Option.{get_or_from_slice_get, slice_get-map}
use Rattle.cerco_base.specs.declared.events.Label.{Label}
use Rattle.cerco_base.specs.declared.events.Port.{Port}
use Rattle.mcs51_isa.specs.declared.instr.Instr.{Instr}
use Rattle.mcs51_isa.specs.declared.instr.Instr.TheVariants.{Nop}
use Rattle.mcs51_isa.specs.Table.{cycles_of}
use Rattle.sim51.specs.declared.events.Events.{Events}
use Rattle.sim51.specs.declared.executed.Executed.{Executed}
use Rattle.sim51.specs.declared.quiet.Quiet.{Quiet}
use Rattle.sim51.specs.declared.slots.Slot.{Slot}
use Rattle.sim51.specs.declared.slots.Planned.{Planned}
use Rattle.sim51.specs.State.{Core, State, LoadedMachine}
use Rattle.sim51.specs.Effect.{Effect, effect}
use Rattle.sim51.specs.Step.{Moved, Halts, Reserved, Goes, instr_at, halts, made, moved_by, step}
use Rattle.sim51.specs.Skips.{no_events, is_silent, LeadsBy, Skips}
use Rattle.sim51.specs.Code.Slots.{AreSlots, slot_of, effect_of}
use Rattle.sim51.specs.Code.Quiets.{names_port, leaves_bit, is_silent_planned, quiet_by, is_quiet, quiet_of, AreTables, MakesSilent}
use Rattle.sim51.proofs.Steps.{moved_at, step_at}
use Rattle.sim51.proofs.Silence.{is_unseen, unseen}

-- an instruction takes from one cycle to four
cycle_bounds : (i : Instr) → (1 ≤ cycles_of i) × (cycles_of i ≤ 4)
cycle_bounds Nop = (lit≤ tt, lit≤ tt)
cycle_bounds _ = (lit≤ tt, lit≤ tt)

cycles_in : Moved → ℕ
cycles_in Halts = 0
cycles_in Reserved = 0
cycles_in (Goes e t) = t.cycles

-- and so does a step
step_rises : (code labels : List ℕ) (s : State) (e : Events) (t : State) → step code labels s ≡ Goes e t → s.cycles < t.cycles
unfolding step cycles_in
step_rises code labels s e t h = by_instr (instr_at code s.pc) h
  where
    by_halt : (i : Instr) (b : Bool) → cond b Halts (made code labels i s) ≡ Goes e t → s.cycles < t.cycles
    by_halt i true g = absurd cc
    by_halt i false g =
        let took : s.cycles + cycles_of i ≡ t.cycles = ap cycles_in g in
        let least = (cycle_bounds i).0 in omega arith

    by_instr : (o : Option Instr) → moved_by code labels o s ≡ Goes e t → s.cycles < t.cycles
    by_instr None g = absurd cc
    by_instr (Some i) g = by_halt i (halts i s.pc) g

-- the step at a slot of the table
pub step_slot : (code labels : List ℕ) (slots : List Slot) (s : State) → AreSlots code labels slots → s.pc < 65536 → step code labels s ≡ moved_at code (slot_of code labels s.pc) s
step_slot code labels slots s all low =
    let here : Slot = slot_of code labels s.pc in
    step_at code labels s slots here here all low (sym (get_or_from_slice_get slots s.pc here here (all.each s.pc low))) refl

-- whether it shows something
pub silent_runs : (code : List ℕ) (p : Planned) (s : State) → is_silent_planned p s.core ≡ is_silent (moved_at code (Slot.Runs p) s)
silent_runs code p s = by p.label
  where
    by : (label : Option Label) → (not (is_some label) && (not (names_port p.instr) || leaves_bit p.instr s.core)) ≡ not (is_some label || (is_some (effect code p.instr p.next s.core).read || is_some (effect code p.instr p.next s.core).write))
    by None = sym (unseen code p.instr p.next s.core)
    by (Some l) = refl

no_event : (label : Option Label) (read write : Option (Port × ℕ)) → is_some label ≡ false → not (is_some read || is_some write) ≡ true → ◌≡◌ {A = Events} (record { label = label; read = read; write = write }) no_events
no_event None None None unlabelled unseen = refl
no_event (Some l) read write unlabelled unseen = absurd cc
no_event None (Some r) write unlabelled unseen = absurd cc
no_event None None (Some w) unlabelled unseen = absurd cc

both : (a b : Bool) → (not a && not b) ≡ true → (a ≡ false) × (b ≡ false)
both false false e = (refl, refl)
both false true e = absurd cc
both true b e = absurd cc

-- a step of an instruction that shows nothing
abbrev quiet_step : List ℕ → Quiet → State → Moved
quiet_step code q s =
    let e = effect code q.instr q.next s.core in Goes no_events (record { core = e.core; pc = e.pc; cycles = s.cycles + q.cycles })

quiet_slot : (code : List ℕ) (slot : Slot) (q : Quiet) (s : State) → quiet_of slot ≡ Some q → moved_at code slot s ≡ quiet_step code q s
quiet_slot code Slot.Halt q s is = absurd cc
quiet_slot code Slot.Reserved q s is = absurd cc
quiet_slot code (Slot.Runs p) q s is = by (is_quiet p) refl is
  where
    e : Effect
    e = effect code p.instr p.next s.core

    silent : is_quiet p ≡ true → moved_at code (Slot.Runs p) s ≡ quiet_step code (quiet_by p) s
    silent quiet =
        let parts = both (is_some p.label) (names_port p.instr) quiet in
        let none : is_unseen e ≡ true = unseen code p.instr p.next s.core ∙ ap (λ b. not b || leaves_bit p.instr s.core) parts.1 in
        ap (λ (x : Events). Goes x (record { core = e.core; pc = e.pc; cycles = s.cycles + p.cycles })) (no_event p.label e.read e.write parts.0 none)

    by : (b : Bool) → is_quiet p ≡ b → cond b (Some (quiet_by p)) None ≡ Some q → moved_at code (Slot.Runs p) s ≡ quiet_step code q s
    by true quiet same = let found : quiet_by p ≡ q = cc in subst (λ (x : Quiet). moved_at code (Slot.Runs p) s ≡ quiet_step code x s) found (silent quiet)
    by false quiet same = absurd cc

-- the instruction that shows nothing at an address
quiet_at : (code labels : List ℕ) (slots : List Slot) (quiets : List (Option Quiet)) (a : ℕ) (read : Option Quiet) → AreTables code labels slots quiets → a < 65536 → read ≡ get_or quiets a read → quiet_of (slot_of code labels a) ≡ read
quiet_at code labels slots quiets a read tables low here =
    let found = slice_get-map quiet_of slots a ∙ ap (option_map quiet_of) (tables.slots_are.each a low) in
    let there = ap (λ (l : List (Option Quiet)). slice_get l a) tables.quiets_are ∙ found in
    sym (here ∙ get_or_from_slice_get quiets a (quiet_of (slot_of code labels a)) read there)

pub quiets_count : (code labels : List ℕ) (slots : List Slot) (quiets : List (Option Quiet)) → AreTables code labels slots quiets → length quiets ≡ 65536
quiets_count code labels slots quiets tables = ap length tables.quiets_are ∙ (length-map slots quiet_of ∙ tables.slots_are.count)

-- one more slot of the table
pub quiets_grow : (slots : List Slot) (quiets : List (Option Quiet)) (i : ℕ) (d slot : Slot) (q : Option Quiet) → quiets ≡ map quiet_of (take i slots) → i < length slots → slot ≡ get_or slots i d → q ≡ quiet_of slot → quiets ++ q ∷ [] ≡ map quiet_of (take (i + 1) slots)
quiets_grow slots quiets i d slot q before within here is =
    ap (λ (l : List (Option Quiet)). l ++ q ∷ []) before
    ∙ (ap (λ (x : Option Quiet). map quiet_of (take i slots) ++ x ∷ []) (is ∙ ap quiet_of here) ∙ sym (map_more quiet_of slots i d within))

module _ (code labels : List ℕ) (limit : ℕ) where
  one_more : (s t u : State) → Skips code labels limit s t → t.cycles < limit → step code labels t ≡ Goes no_events u → Skips code labels limit s u
  unfolding LeadsBy
  one_more s t u a below goes = record { steps = suc a.steps; leads = (t, a.leads, below, goes) }

  none : (s t : State) → s ≡ t → Skips code labels limit s t
  unfolding LeadsBy
  none s t same = record { steps = zero; leads = same }

  more : (n : ℕ) (s t u : State) → Skips code labels limit s t → LeadsBy code labels limit n t u → Skips code labels limit s u
  unfolding LeadsBy
  more zero s t u a leads = subst (λ (q : State). Skips code labels limit s q) leads a
  more (suc n) s t u a leads = one_more s leads.0 u (more n s t leads.0 a leads.1) leads.2 leads.3

  rises : (n : ℕ) (s t : State) → LeadsBy code labels limit n s t → s.cycles ≤ t.cycles
  unfolding LeadsBy
  rises zero s t leads = let same = ap (λ (q : State). q.cycles) leads in omega arith
  rises (suc n) s t leads =
      let before = rises n s leads.0 leads.1 in
      let once = step_rises code labels leads.0 no_events t leads.3 in
      omega arith

-- the cycles never fall
pub skips_rise : (code labels : List ℕ) (limit : ℕ) (s t : State) → Skips code labels limit s t → s.cycles ≤ t.cycles
skips_rise code labels limit s t a = rises code labels limit a.steps s t a.leads

-- A machine that makes steps of instructions that show nothing, in a state s.
pub record RunsOn (m : LoadedMachine) (limit : ℕ) (code labels : List ℕ) (slots : List Slot) (quiets : List (Option Quiet)) (s : State) : Type 0 where
  pub tables : AreTables code labels slots quiets
  pub code_is : code ≡ m.code
  pub labels_are : labels ≡ m.labels
  pub skips : Skips m.code m.labels limit m.state s

pub started : (m : LoadedMachine) (limit : ℕ) (code labels : List ℕ) (slots : List Slot) (quiets : List (Option Quiet)) (s : State) → AreTables code labels slots quiets → ◌≡◌ {A = LoadedMachine} (record { code = code; labels = labels; state = s }) m → RunsOn m limit code labels slots quiets s
started m limit code labels slots quiets s tables is = record {
  tables = tables;
  code_is = ap (λ (x : LoadedMachine). x.code) is;
  labels_are = ap (λ (x : LoadedMachine). x.labels) is;
  skips = none m.code m.labels limit m.state s (sym (ap (λ (x : LoadedMachine). x.state) is));
}

module _ (m : LoadedMachine) (limit : ℕ) (code labels : List ℕ) (slots : List Slot) (quiets : List (Option Quiet)) (s : State) (read : Option Quiet) (q : Quiet) (core : Core) (x : Executed) (same : List ℕ) where
  abbrev after : State
  after = record { core = core; pc = x.pc; cycles = s.cycles + q.cycles }

  quiet_goes : AreTables code labels slots quiets → s.pc < 65536 → read ≡ get_or quiets s.pc read → read ≡ Some q → effect_of core x ≡ effect same q.instr q.next s.core → same ≡ code → step code labels s ≡ Goes no_events after
  quiet_goes tables low here is makes kept =
      let makes' : effect_of core x ≡ effect code q.instr q.next s.core = makes ∙ ap (λ (l : List ℕ). effect l q.instr q.next s.core) kept in
      step_slot code labels slots s tables.slots_are low
      ∙ quiet_slot code (slot_of code labels s.pc) q s (quiet_at code labels slots quiets s.pc read tables low here ∙ is)
      ∙ sym (ap (λ (f : Effect). Goes no_events (record { core = f.core; pc = f.pc; cycles = s.cycles + q.cycles })) makes')

  pub runs_further : RunsOn m limit code labels slots quiets s → s.cycles < limit → s.pc < 65536 → read ≡ get_or quiets s.pc read → read ≡ Some q → effect_of core x ≡ effect same q.instr q.next s.core → same ≡ code → RunsOn m limit code labels slots quiets after
  runs_further r below low here is makes kept =
      let goes = quiet_goes r.tables low here is makes kept in
      let goes' : step m.code m.labels s ≡ Goes no_events after =
      subst (λ (l : List ℕ). step m.code l s ≡ Goes no_events after) r.labels_are (subst (λ (l : List ℕ). step l labels s ≡ Goes no_events after) r.code_is goes) in
      record {
        tables = r.tables;
        code_is = r.code_is;
        labels_are = r.labels_are;
        skips = one_more m.code m.labels limit m.state s after r.skips below goes';
      }

  pub fewer_left : RunsOn m limit code labels slots quiets s → s.cycles < limit → s.pc < 65536 → read ≡ get_or quiets s.pc read → read ≡ Some q → effect_of core x ≡ effect same q.instr q.next s.core → same ≡ code → limit - (s.cycles + q.cycles) < limit - s.cycles
  fewer_left r below low here is makes kept =
      let longer = step_rises code labels s no_events after (quiet_goes r.tables low here is makes kept) in omega arith

-- the machine has made such steps, and is the same else
pub record SkipsIn (m : LoadedMachine) (limit : ℕ) (now : LoadedMachine) : Type 0 where
  pub code_is : now.code ≡ m.code
  pub labels_are : now.labels ≡ m.labels
  pub skips : Skips m.code m.labels limit m.state now.state

module _ (m : LoadedMachine) (limit : ℕ) (now next last : LoadedMachine) where
  pub skips_further : SkipsIn m limit now → MakesSilent now.code now.labels limit now.state next.state true → next.code ≡ now.code → next.labels ≡ now.labels → last.code ≡ next.code → last.labels ≡ next.labels → Skips next.code next.labels limit next.state last.state → SkipsIn m limit last
  skips_further a makes code_same labels_same code_kept labels_kept further =
      let code = code_same ∙ a.code_is in
      let labels = labels_same ∙ a.labels_are in
      let goes : step m.code m.labels now.state ≡ Goes no_events next.state =
      subst (λ (l : List ℕ). step m.code l now.state ≡ Goes no_events next.state) a.labels_are (subst (λ (l : List ℕ). step l now.labels now.state ≡ Goes no_events next.state) a.code_is makes.1) in
      let rest : Skips m.code m.labels limit next.state last.state =
      subst (λ (l : List ℕ). Skips m.code l limit next.state last.state) labels (subst (λ (l : List ℕ). Skips l next.labels limit next.state last.state) code further) in
      record {
        code_is = code_kept ∙ code;
        labels_are = labels_kept ∙ labels;
        skips = more m.code m.labels limit rest.steps m.state next.state last.state (one_more m.code m.labels limit m.state now.state next.state a.skips makes.0 goes) rest.leads;
      }

  pub less_left : MakesSilent now.code now.labels limit now.state next.state true → Skips next.code next.labels limit next.state last.state → limit - last.state.cycles < limit - now.state.cycles
  less_left makes further =
      let below = makes.0 in
      let once = step_rises now.code now.labels now.state no_events next.state makes.1 in
      let rest = skips_rise next.code next.labels limit next.state last.state further in
      omega arith

  pub skipped : SkipsIn m limit now → MakesSilent now.code now.labels limit now.state next.state false → Skips m.code m.labels limit m.state next.state
  skipped a stops = subst (λ (q : State). Skips m.code m.labels limit m.state q) stops.0 a.skips

  pub stopped : SkipsIn m limit now → MakesSilent now.code now.labels limit now.state next.state false → next.state.cycles < limit → is_silent (step m.code m.labels next.state) ≡ false
  stopped a stops below =
      let P : State → Type 0 = λ q. q.cycles < limit → is_silent (step m.code m.labels q) ≡ false in
      let there : P now.state = λ lower. sym (ap (λ (l : List ℕ). is_silent (step l m.labels now.state)) a.code_is) ∙ (sym (ap (λ (l : List ℕ). is_silent (step now.code l now.state)) a.labels_are) ∙ stops.1 lower) in
      subst P stops.0 there below
