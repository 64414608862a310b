-- What a step is, by the instruction at its address.
use Rattle.std.proofs.Common.{◌≡◌, ℕ, ◌+◌, ◌%◌, List, Option, Some, None, Bool, true, false, cond, refl, sym, ap, ◌∙◌, arith, slice_index, get_or, ◌<◌}
use Rattle.std.proofs.lemmas.Option.{get_or_from_slice_get}
use Rattle.mcs51_isa.specs.declared.instr.Instr.{Instr}
use Rattle.sim51.specs.declared.slots.Slot.{Slot}
use Rattle.sim51.specs.declared.slots.Planned.{Planned}
use Rattle.sim51.specs.State.{State, LoadedMachine}
use Rattle.sim51.specs.Effect.{Effect, code_at, effect}
use Rattle.mcs51_isa.specs.Table.{cycles_of}
use Rattle.sim51.specs.Step.{Moved, Halts, Reserved, Goes, label_at, instr_at, next_address, halts, made, moved_by, step}
use Rattle.sim51.specs.Code.Slots.{AreSlots, slot_by, slot_of}

pub code_at_mod : (code : List ℕ) (a : ℕ) → code_at code (a % 65536) ≡ code_at code a
code_at_mod code a = let e : a % 65536 % 65536 ≡ a % 65536 = omega arith in ap (slice_index code) e

module _ (code labels : List ℕ) (s : State) where
  pub step_none : instr_at code s.pc ≡ None → step code labels s ≡ Reserved
  unfolding step
  step_none e = ap (λ o. moved_by code labels o s) e

  pub step_halts : (i : Instr) → instr_at code s.pc ≡ Some i → halts i s.pc ≡ true → step code labels s ≡ Halts
  unfolding step
  step_halts i e h = ap (λ o. moved_by code labels o s) e ∙ ap (λ b. cond b Halts (made code labels i s)) h

  pub step_goes : (i : Instr) → instr_at code s.pc ≡ Some i → halts i s.pc ≡ false → step code labels s ≡ made code labels i s
  unfolding step
  step_goes i e h = ap (λ o. moved_by code labels o s) e ∙ ap (λ b. cond b Halts (made code labels i s)) h

abbrev pub goes_with : Planned → Effect → State → Moved
goes_with p e s = Goes (record { label = p.label; read = e.read; write = e.write }) (record { core = e.core; pc = e.pc; cycles = s.cycles + p.cycles })

-- a step by what was worked out for its address
abbrev pub moved_at : List ℕ → Slot → State → Moved
moved_at code Slot.Halt s = Halts
moved_at code Slot.Reserved s = Reserved
moved_at code (Slot.Runs p) s = goes_with p (effect code p.instr p.next s.core) s

moved_by-slot : (code labels : List ℕ) (s : State) (o : Option Instr) → moved_by code labels o s ≡ moved_at code (slot_by o (label_at labels s.pc) s.pc) s
moved_by-slot code labels s None = refl
moved_by-slot code labels s (Some i) = if_halts (halts i s.pc)
  where
    if_halts : (b : Bool) → cond b Halts (made code labels i s) ≡ moved_at code (cond b Slot.Halt (Slot.Runs (record { instr = i; next = next_address s.pc i; cycles = cycles_of i; label = label_at labels s.pc }))) s
    if_halts true = refl
    if_halts false = refl

-- a slot that was read from the table of all slots tells what the step is
pub step_at : (code labels : List ℕ) (s : State) (slots : List Slot) (read p : Slot) → AreSlots code labels slots → s.pc < 65536 → read ≡ get_or slots s.pc read → read ≡ p → step code labels s ≡ moved_at code p s
unfolding step
step_at code labels s slots read p all low here is =
    let right : read ≡ slot_of code labels s.pc = here ∙ get_or_from_slice_get slots s.pc _ read (all.each s.pc low) in
    moved_by-slot code labels s (instr_at code s.pc) ∙ ap (λ q. moved_at code q s) (sym right ∙ is)

-- the same where an instruction is made, whose effect the code and the planned instruction tell
pub step_runs : (code labels : List ℕ) (s : State) (slots : List Slot) (read : Slot) (p : Planned) (e : Effect) → AreSlots code labels slots → s.pc < 65536 → read ≡ get_or slots s.pc read → read ≡ Slot.Runs p → e ≡ effect code p.instr p.next s.core → step code labels s ≡ goes_with p e s
step_runs code labels s slots read p e all low here is made =
    step_at code labels s slots read (Slot.Runs p) all low here is ∙ ap (λ (x : Effect). goes_with p x s) (sym made)

pub step_in : (m m' : LoadedMachine) → m ≡ m' → step m'.code m'.labels m'.state ≡ step m.code m.labels m.state
step_in m m' e = sym (ap (λ (q : LoadedMachine). step q.code q.labels q.state) e)
