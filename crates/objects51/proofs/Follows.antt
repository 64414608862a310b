-- The machine does what an item means, where the item's instructions stand at its address.
use Rattle.std.proofs.Common.{◌≡◌, ℕ, suc, ◌+◌, ◌*◌, ◌/◌, ◌%◌, ◌<◌, ◌≤◌, List, [], ◌∷◌, ◌++◌, Option, Some, None, Bool, true, false, cond, if◌then◌else◌, refl, sym, ap, ap₂, ◌∙◌, subst, arith, length, set, slice_index}
use Rattle.std.proofs.lemmas.List.{take-set-le}
use Rattle.std.proofs.lemmas.Bool.{ne_eqb}
use Rattle.cerco_base.specs.declared.events.Label.{Label}
use Rattle.cerco_base.specs.Events.{label}
use Rattle.mcs51_isa.specs.declared.instr.Instr.{Instr}
use Rattle.mcs51_isa.specs.declared.instr.Instr.TheVariants.{Nop, Sjmp, Ajmp, Long, Ret, BranchFlag}
use Rattle.mcs51_isa.specs.declared.instr.LongJump.TheVariants.{Ljmp, Lcall}
use Rattle.mcs51_isa.specs.declared.instr.FlagTest.TheVariants.{Jnz}
use Rattle.mcs51_isa.specs.declared.instr.ReturnKind.{ReturnKind}
use Rattle.mcs51_isa.specs.Operands.{addr11_of, page_target, relative_target}
use Rattle.mcs51_isa.specs.Offsets.{offset_to}
use Rattle.mcs51_isa.specs.Table.{cycles_of}
use Rattle.mcs51_isa.proofs.Bounds.{size_bounds}
use Rattle.sim51.specs.State.{Core}
use Rattle.sim51.specs.Locations.{top, popped, called_from}
use Rattle.sim51.specs.Effect.{Effect, effect, flag_holds, goes_to}
use Rattle.sim51.specs.Step.{instr_at, label_at, size, next_address, halts}
use Rattle.sim51.specs.Runs.{Running, object, read_events, write_events}
use Rattle.sim51.specs.Straight.{IsStraight, HaveNoLabel}
use Rattle.sim51.specs.StackApart.{low, low_effect, SparesStack}
use Rattle.sim51.proofs.Calls.{called_from-other, called_from-length, called_from-bytes, called_from-unwrapped}
use Rattle.sim51.proofs.Leads.{flag_jumps, flag_passes}
use Rattle.sim51.proofs.StackApart.{effect_low, effect_high}
use Rattle.sim51.proofs.StraightEffects.{effect_next, straight_goes}
use Rattle.sim51.proofs.StraightRuns.{stepped_on}
use Rattle.asm51.specs.declared.items.AsmItem.TheVariants.{Jump, Test}
use Rattle.asm51.specs.declared.layouts.Form.{Form}
use Rattle.asm51.specs.Relaxation.{reaches}
use Rattle.asm51.specs.Instructions.{instructions}
use Rattle.asm51.specs.Meaning.{AsmState, executed}
use Rattle.asm51.proofs.Reaching.{short_leads, page_reaches}
use Rattle.objects51.specs.Stands.{AreStacked, Matches}
use Rattle.objects51.proofs.Courses.{IsNoReturn, no_return-sjmp, no_return-ajmp, no_return-long, no_return-branch, no_return-straight, Passes, rests, silent_is, object_passes, silent_passes, label_passes, passes_both}
use Rattle.objects51.proofs.Laid.{IsLaid}

-- an address as the machine has it
abbrev pub word : (ℕ → ℕ) → ℕ → ℕ
word at k = at k % 65536

-- The machine comes to where it stands as the program does, and makes no return.
abbrev pub Comes : List ℕ → List ℕ → (ℕ → ℕ) → AsmState → Running → Type 0
Comes code labels at x y = (z : Running) × Passes code labels y z × Matches (word at) x z

-- it comes there by a step
abbrev pub ComesByStep : List ℕ → List ℕ → (ℕ → ℕ) → AsmState → Running → Type 0
ComesByStep code labels at x y = (z : Running) × ((object code labels).step y ≡ z) × Matches (word at) x z

-- the stack is read where it stands
stacked_same : (at : ℕ → ℕ) (ram new : List ℕ) (ks : List ℕ) → ((a : ℕ) → 128 ≤ a → a < 128 + 2 * length ks → slice_index new a ≡ slice_index ram a) → AreStacked at ram ks → AreStacked at new ks
stacked_same at ram new [] same h = tt
stacked_same at ram new (k ∷ ks) same h =
    (same (128 + 2 * length ks) (omega arith) (omega arith) ∙ h.0, same (129 + 2 * length ks) (omega arith) (omega arith) ∙ h.1, stacked_same at ram new ks (λ a from below. same a from (omega (arith, below))) h.2)

by_flag : (at : ℕ → ℕ) (b : Bool) (p q i j : ℕ) → p ≡ at i % 65536 → q ≡ at j % 65536 → cond b p q ≡ at (cond b i j) % 65536
by_flag at true p q i j e f = e
by_flag at false p q i j e f = f

module _ (code labels : List ℕ) (at : ℕ → ℕ) where
  -- the same registers and memories, and the machine at the address of the next item
  gone : (x : AsmState) (y : Running) (j pc cycles : ℕ) → Matches (word at) x y → pc ≡ at j % 65536 → Matches (word at) (record x { at = j }) (record { events = y.events; state = record { core = y.state.core; pc = pc; cycles = cycles } })
  gone x y j pc cycles m e = record { place = e; held = m.held; pointer = m.pointer; ram = m.ram; stacked = m.stacked; few = m.few; events = m.events }

  flag_same : (x : AsmState) (y : Running) → Matches (word at) x y → flag_holds Jnz x.core ≡ flag_holds Jnz y.state.core
  flag_same x y m = ap (λ (c : Core). flag_holds Jnz c) m.held

  -- an item without bytes
  pub nothing_follows : (x : AsmState) (y : Running) → at (suc x.at) ≡ at x.at + 0 → Matches (word at) x y → Comes code labels at (record x { at = suc x.at }) y
  nothing_follows x y next m =
      let e : at x.at % 65536 ≡ at (suc x.at) % 65536 = ap (λ a. a % 65536) (omega (arith, next)) in
      (y, rests y, record { place = m.place ∙ e; held = m.held; pointer = m.pointer; ram = m.ram; stacked = m.stacked; few = m.few; events = m.events })

  -- an instruction that only goes elsewhere
  goes : (x : AsmState) (y : Running) (j pc : ℕ) (i : Instr) → Matches (word at) x y → y.state.pc ≡ at x.at → instr_at code (at x.at) ≡ Some i → label_at labels (at x.at) ≡ None → halts i y.state.pc ≡ false → IsNoReturn i
      → effect code i (next_address y.state.pc i) y.state.core ≡ goes_to pc y.state.core → pc ≡ at j % 65536 → Comes code labels at (record x { at = j }) y
  goes x y j pc i m place there free on other e p =
      (_, silent_passes code labels y i pc y.state.core (ap (instr_at code) place ∙ there) on (ap (label_at labels) place ∙ free) e other, gone x y j pc (y.state.cycles + cycles_of i) m p)

  -- straight-line code that spares the stack
  pub straight_follows : (x : AsmState) (y : Running) (i : Instr) → IsStraight i → SparesStack i → instr_at code (at x.at) ≡ Some i → label_at labels (at x.at) ≡ None → at (suc x.at) ≡ at x.at + size i → at x.at + size i ≤ 65536
      → Matches (word at) x y → Comes code labels at (executed i x) y
  straight_follows x y i straight spares there free next fits m =
      let some = (size_bounds i).0 in
      let place : y.state.pc ≡ at x.at = omega (arith, m.place, some, fits) in
      let after = next_address y.state.pc i in
      let c = y.state.core in
      let mine = effect [] i 0 x.core in
      let yours = effect [] i 0 c in
      let e : Effect = record yours { pc = after } in
      let same : low_effect mine ≡ low_effect yours = effect_low [] i 0 x.core spares ∙ ap (effect [] i 0) m.held ∙ sym (effect_low [] i 0 c spares) in
      let made : read_events mine.read ++ write_events mine.write ≡ read_events yours.read ++ write_events yours.write = ap (λ (q : Effect). read_events q.read ++ write_events q.write) same in
      let stack = effect_high [] i 0 c spares in (
        stepped_on None e (cycles_of i) y,
        object_passes code labels y i None e (ap (instr_at code) place ∙ there) (straight_goes i y.state.pc straight) (ap (label_at labels) place ∙ free) (effect_next code i after c straight) (no_return-straight i straight),
        record {
          place = omega (arith, place, next);
          held = ap (λ (q : Effect). q.core) same;
          pointer = stack.sp ∙ m.pointer;
          ram = stack.bytes ∙ m.ram;
          stacked = stacked_same (word at) c.iram yours.core.iram x.returns (λ a from below. stack.high a from) m.stacked;
          few = m.few;
          events = ap₂ (λ p q. p ++ q) m.events (sym made);
        },
      )

  -- a jump, in each of its forms
  pub jump_follows : (x : AsmState) (y : Running) (f n t : ℕ) (form : Option Form) → IsLaid code at x.at (at t % 65536) (Jump f n) form → HaveNoLabel labels (at x.at) (instructions (at x.at) (at t % 65536) (Jump f n) form)
      → ((g : Form) → form ≡ Some g → reaches (at x.at + 2) (at t) (Jump f n) g ≡ true) → at t ≤ 65536 → (at t % 65536 ≡ at x.at → ⊥) → Matches (word at) x y → Comes code labels at (record x { at = t }) y
  jump_follows x y f n t (Some Form.Short) laid free reach fits apart m =
      let within : at x.at + 2 ≤ 65536 = laid.stands.1 in
      let place : y.state.pc ≡ at x.at = omega (arith, m.place, within) in
      let o = offset_to (at x.at + 2) (at t % 65536) in
      let to : relative_target (next_address y.state.pc (Sjmp o)) o ≡ at t % 65536 = ap (λ a. relative_target ((a + 2) % 65536) o) place ∙ short_leads (at x.at + 2) (at t) within fits (reach Form.Short refl) in
      let on : halts (Sjmp o) y.state.pc ≡ false = ne_eqb _ _ (λ q. apart (sym to ∙ q ∙ place)) in
      goes x y t (relative_target (next_address y.state.pc (Sjmp o)) o) (Sjmp o) m place laid.stands.0 free.0 on (no_return-sjmp o) refl to
  jump_follows x y f n t (Some Form.Page) laid free reach fits apart m =
      let within : at x.at + 2 ≤ 65536 = laid.stands.1 in
      let place : y.state.pc ≡ at x.at = omega (arith, m.place, within) in
      let i : Instr = Ajmp (addr11_of (at t % 65536)) in
      let to : page_target (next_address y.state.pc i) (addr11_of (at t % 65536)) ≡ at t % 65536 = ap (λ a. page_target ((a + 2) % 65536) (addr11_of (at t % 65536))) place ∙ page_reaches (at x.at + 2) (at t) within fits (reach Form.Page refl) in
      let on : halts i y.state.pc ≡ false = ne_eqb _ _ (λ q. apart (sym to ∙ q ∙ place)) in
      goes x y t (page_target (next_address y.state.pc i) (addr11_of (at t % 65536))) i m place laid.stands.0 free.0 on (no_return-ajmp (addr11_of (at t % 65536))) refl to
  jump_follows x y f n t (Some Form.Long) laid free reach fits apart m =
      let within : at x.at + 3 ≤ 65536 = laid.stands.1 in
      let place : y.state.pc ≡ at x.at = omega (arith, m.place, within) in
      let on : halts (Long Ljmp (at t % 65536)) y.state.pc ≡ false = ne_eqb _ _ (λ q. apart (q ∙ place)) in
      goes x y t (at t % 65536) (Long Ljmp (at t % 65536)) m place laid.stands.0 free.0 on (no_return-long Ljmp (at t % 65536)) refl refl
  jump_follows x y f n t None laid free reach fits apart m =
      let within : at x.at + 3 ≤ 65536 = laid.stands.1 in
      let place : y.state.pc ≡ at x.at = omega (arith, m.place, within) in
      let on : halts (Long Ljmp (at t % 65536)) y.state.pc ≡ false = ne_eqb _ _ (λ q. apart (q ∙ place)) in
      goes x y t (at t % 65536) (Long Ljmp (at t % 65536)) m place laid.stands.0 free.0 on (no_return-long Ljmp (at t % 65536)) refl refl

  -- the far test, whichever way it goes
  far_test : (x : AsmState) (y : Running) (f n t : ℕ) (b : Bool) → flag_holds Jnz y.state.core ≡ b → IsLaid code at x.at (at t % 65536) (Test f n) (Some Form.Long)
      → HaveNoLabel labels (at x.at) (instructions (at x.at) (at t % 65536) (Test f n) (Some Form.Long)) → (at t % 65536 ≡ at x.at + 4 → ⊥) → Matches (word at) x y → Comes code labels at (record x { at = cond b t (suc x.at) }) y
  far_test x y f n t true holds laid free apart m =
      let fits : at x.at + 2 + 2 + 3 ≤ 65536 = laid.stands.2.2.1 in
      let place : y.state.pc ≡ at x.at = omega (arith, m.place, fits) in
      let c = y.state.core in
      let i : Instr = BranchFlag Jnz 2 in
      let next = next_address y.state.pc i in
      let pc = relative_target next 2 in
      let there : pc ≡ at x.at + 2 + 2 = omega (arith, place, fits) in
      let far = at t % 65536 in
      let s : Running = record { events = y.events; state = record { core = c; pc = pc; cycles = y.state.cycles + 2 } } in
      let first = silent_passes code labels y i pc c (ap (instr_at code) place ∙ laid.stands.0) refl (ap (label_at labels) place ∙ free.0) (flag_jumps code Jnz 2 next c holds) (no_return-branch Jnz 2) in
      let on : halts (Long Ljmp far) pc ≡ false = ne_eqb far pc (λ q. apart (q ∙ there ∙ omega arith)) in
      let second = silent_passes code labels s (Long Ljmp far) far c (ap (instr_at code) there ∙ laid.stands.2.2.0) on (ap (label_at labels) there ∙ free.1.1.0) refl (no_return-long Ljmp far) in
      (_, passes_both code labels y s _ first second, gone x y t far (y.state.cycles + 2 + 2) m refl)
  far_test x y f n t false fails laid free apart m =
      let fits : at x.at + 2 + 2 + 3 ≤ 65536 = laid.stands.2.2.1 in
      let place : y.state.pc ≡ at x.at = omega (arith, m.place, fits) in
      let c = y.state.core in
      let i : Instr = BranchFlag Jnz 2 in
      let next = next_address y.state.pc i in
      let there : next ≡ at x.at + 2 = omega (arith, place, fits) in
      let s : Running = record { events = y.events; state = record { core = c; pc = next; cycles = y.state.cycles + 2 } } in
      let first = silent_passes code labels y i next c (ap (instr_at code) place ∙ laid.stands.0) refl (ap (label_at labels) place ∙ free.0) (flag_passes code Jnz 2 next c fails) (no_return-branch Jnz 2) in
      let over = relative_target (next_address next (Sjmp 3)) 3 in
      let to : over ≡ at (suc x.at) % 65536 = omega (arith, there, laid.next, fits) in
      let on : halts (Sjmp 3) next ≡ false = ne_eqb over next (λ q. omega (arith, there, q, fits)) in
      let second = silent_passes code labels s (Sjmp 3) over c (ap (instr_at code) there ∙ laid.stands.2.0) on (ap (label_at labels) there ∙ free.1.0) refl (no_return-sjmp 3) in
      (_, passes_both code labels y s _ first second, gone x y (suc x.at) over (y.state.cycles + 2 + 2) m to)

  far_test_follows : (x : AsmState) (y : Running) (f n t : ℕ) → IsLaid code at x.at (at t % 65536) (Test f n) (Some Form.Long) → HaveNoLabel labels (at x.at) (instructions (at x.at) (at t % 65536) (Test f n) (Some Form.Long))
      → (at t % 65536 ≡ at x.at + 4 → ⊥) → Matches (word at) x y → Comes code labels at (record x { at = if flag_holds Jnz x.core then t else suc x.at }) y
  far_test_follows x y f n t laid free apart m = far_test x y f n t (flag_holds Jnz x.core) (sym (flag_same x y m)) laid free apart m

  -- a test, in each of its forms
  pub test_follows : (x : AsmState) (y : Running) (f n t : ℕ) (form : Option Form) → IsLaid code at x.at (at t % 65536) (Test f n) form → HaveNoLabel labels (at x.at) (instructions (at x.at) (at t % 65536) (Test f n) form)
      → ((g : Form) → form ≡ Some g → reaches (at x.at + 2) (at t) (Test f n) g ≡ true) → at t ≤ 65536 → (at (suc x.at) ≡ at x.at + 7 → at t % 65536 ≡ at x.at + 4 → ⊥) → Matches (word at) x y
      → Comes code labels at (record x { at = if flag_holds Jnz x.core then t else suc x.at }) y
  test_follows x y f n t (Some Form.Short) laid free reach fits apart m =
      let within : at x.at + 2 ≤ 65536 = laid.stands.1 in
      let place : y.state.pc ≡ at x.at = omega (arith, m.place, within) in
      let c = y.state.core in
      let o = offset_to (at x.at + 2) (at t % 65536) in
      let i : Instr = BranchFlag Jnz o in
      let next = next_address y.state.pc i in
      let to : relative_target next o ≡ at t % 65536 = ap (λ a. relative_target ((a + 2) % 65536) o) place ∙ short_leads (at x.at + 2) (at t) within fits (reach Form.Short refl) in
      let on : next ≡ at (suc x.at) % 65536 = omega (arith, place, laid.next) in
      let flag = flag_same x y m in
      let goal : cond (flag_holds Jnz c) (relative_target next o) next ≡ at (cond (flag_holds Jnz x.core) t (suc x.at)) % 65536 =
      by_flag at (flag_holds Jnz c) (relative_target next o) next t (suc x.at) to on ∙ ap (λ b. at (cond b t (suc x.at)) % 65536) (sym flag) in
      goes x y (cond (flag_holds Jnz x.core) t (suc x.at)) (cond (flag_holds Jnz c) (relative_target next o) next) i m place laid.stands.0 free.0 refl (no_return-branch Jnz o) refl goal
  test_follows x y f n t (Some Form.Page) laid free reach fits apart m = absurd (clash (reach Form.Page refl))
    where
      clash : false ≡ true → ⊥
      clash e = cc
  test_follows x y f n t (Some Form.Long) laid free reach fits apart m = far_test_follows x y f n t laid free (apart (omega (arith, laid.next))) m
  test_follows x y f n t None laid free reach fits apart m = far_test_follows x y f n t (record { stands = laid.stands; next = laid.next }) free (apart (omega (arith, laid.next))) m

  -- a call puts the address of the item after it on the stack
  pub call_follows : (x : AsmState) (y : Running) (t : ℕ) → instr_at code (at x.at) ≡ Some (Long Lcall (at t % 65536)) → label_at labels (at x.at) ≡ None → at (suc x.at) ≡ at x.at + 3 → at x.at + 3 ≤ 65536 → length x.returns < 64
      → Matches (word at) x y → Comes code labels at (record x { at = t; returns = suc x.at ∷ x.returns }) y
  call_follows x y t there free next fits fewer m =
      let c = y.state.core in
      let i : Instr = Long Lcall (at t % 65536) in
      let place : y.state.pc ≡ at x.at = omega (arith, m.place, fits) in
      let after = next_address y.state.pc i in
      let on : after ≡ at (suc x.at) % 65536 = omega (arith, next, place) in
      let n = length x.returns in
      let called = called_from c after in
      let room : c.sp ≤ 253 = omega (arith, m.pointer, fewer) in
      let first : (c.sp + 1) % 256 ≡ 128 + 2 * n = omega (arith, m.pointer, fewer) in
      let second : (c.sp + 2) % 256 ≡ 129 + 2 * n = omega (arith, m.pointer, fewer) in
      let beyond : 128 ≤ c.sp + 1 = omega (arith, m.pointer) in
      let beyond_too : 128 ≤ c.sp + 2 = omega (arith, m.pointer) in
      let lows : low called ≡ low c =
      ap low (called_from-unwrapped c after room)
      ∙ ap (λ (l : List ℕ). record (low c) { iram = l }) (take-set-le 128 (set c.iram (c.sp + 1) (after % 256)) (c.sp + 2) (after / 256) beyond_too ∙ take-set-le 128 c.iram (c.sp + 1) (after % 256) beyond) in
      let bytes = called_from-bytes c after m.ram in
      let low_byte : slice_index called.iram (128 + 2 * n) ≡ at (suc x.at) % 65536 % 256 = ap (slice_index called.iram) (sym first) ∙ bytes.0 ∙ ap (λ q. q % 256) on in
      let high_byte : slice_index called.iram (129 + 2 * n) ≡ at (suc x.at) % 65536 / 256 = ap (slice_index called.iram) (sym second) ∙ bytes.1 ∙ ap (λ q. q / 256) on in (
        _,
        silent_passes code labels y i (at t % 65536) called (ap (instr_at code) place ∙ there) refl (ap (label_at labels) place ∙ free) refl (no_return-long Lcall (at t % 65536)),
        record {
          place = refl;
          held = m.held ∙ sym lows;
          pointer = omega (arith, m.pointer, fewer);
          ram = called_from-length c after ∙ m.ram;
          stacked = (low_byte, high_byte, stacked_same (word at) c.iram called.iram x.returns (λ a from below. called_from-other c after a (λ q. omega (arith, q, first, below)) (λ q. omega (arith, q, second, below))) m.stacked);
          few = omega (arith, fewer);
          events = m.events;
        },
      )

  -- a return goes to the newest address on the stack
  pub return_follows : (x : AsmState) (y : Running) (kind : ReturnKind) (k : ℕ) (ks : List ℕ) → x.returns ≡ k ∷ ks → instr_at code (at x.at) ≡ Some (Ret kind) → label_at labels (at x.at) ≡ None → at x.at + 1 ≤ 65536
      → Matches (word at) x y → ComesByStep code labels at (record x { at = k; returns = ks }) y
  return_follows x y kind k ks e there free fits m =
      let c = y.state.core in
      let i : Instr = Ret kind in
      let place : y.state.pc ≡ at x.at = omega (arith, m.place, fits) in
      let pointer : c.sp ≡ 127 + 2 * length (k ∷ ks) = m.pointer ∙ ap (λ l. 127 + 2 * length l) e in
      let few : length (k ∷ ks) ≤ 64 = subst (λ (l : List ℕ). length l ≤ 64) e m.few in
      let stacked : AreStacked (word at) c.iram (k ∷ ks) = subst (λ l. AreStacked (word at) c.iram l) e m.stacked in
      let newest : c.sp ≡ 129 + 2 * length ks = omega (arith, pointer) in
      let under : (c.sp + 255) % 256 ≡ 128 + 2 * length ks = omega (arith, pointer, few) in
      let high : top c ≡ at k % 65536 / 256 = ap (slice_index c.iram) newest ∙ stacked.1 in
      let low_byte : top (popped c) ≡ at k % 65536 % 256 = ap (slice_index c.iram) under ∙ stacked.0 in
      let to : 256 * top c + top (popped c) ≡ at k % 65536 = omega (arith, high, low_byte) in (
        _,
        silent_is code labels y i (256 * top c + top (popped c)) (popped (popped c)) (ap (instr_at code) place ∙ there) refl (ap (label_at labels) place ∙ free) refl,
        record {
          place = to;
          held = m.held;
          pointer = omega (arith, under, few);
          ram = m.ram;
          stacked = stacked.2;
          few = omega (arith, few);
          events = m.events;
        },
      )

  -- a mark and its NOP make the label
  pub mark_follows : (x : AsmState) (y : Running) (l : Label) → at (suc x.at) ≡ at x.at → at (suc (suc x.at)) ≡ at (suc x.at) + 1 → at (suc x.at) + 1 ≤ 65536 → instr_at code (at (suc x.at)) ≡ Some Nop → label_at labels (at x.at) ≡ Some l
      → Matches (word at) x y → Comes code labels at (record x { at = x.at + 2; made = x.made ++ label l.0 ∷ [] }) y
  mark_follows x y l same next fits there labelled m =
      let place : y.state.pc ≡ at x.at = omega (arith, m.place, same, fits) in
      let two : suc (suc x.at) ≡ x.at + 2 = omega arith in
      let to : (y.state.pc + 1) % 65536 ≡ at (x.at + 2) % 65536 = omega (arith, place, same, next, ap at two) in (
        _,
        label_passes code labels y l (ap (instr_at code) (place ∙ sym same) ∙ there) (ap (label_at labels) place ∙ labelled),
        record {
          place = to;
          held = m.held;
          pointer = m.pointer;
          ram = m.ram;
          stacked = m.stacked;
          few = m.few;
          events = ap (λ es. es ++ label l.0 ∷ []) m.events;
        },
      )
