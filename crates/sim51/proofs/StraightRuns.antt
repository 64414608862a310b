-- The runs of object code by one step and by straight-line code.
use Rattle.std.proofs.Common.{◌≡◌, ℕ, ◌+◌, ◌%◌, ◌<◌, List, [], ◌∷◌, ◌++◌, Option, Some, None, false, refl, sym, ap, subst, ◌∙◌, arith, lit≤, append_assoc, append-nil, mod-eq_of_lt}
use Rattle.cerco_base.specs.declared.events.Event.{Event}
use Rattle.cerco_base.specs.declared.events.Label.{Label}
use Rattle.cerco_base.specs.Events.{label}
use Rattle.cerco_traces.specs.Systems.{Run, here}
use Rattle.cerco_traces.proofs.Simulation.{joined, one_step}
use Rattle.mcs51_isa.specs.declared.instr.Instr.{Instr}
use Rattle.mcs51_isa.specs.declared.instr.Instr.TheVariants.{Nop}
use Rattle.mcs51_isa.specs.Table.{cycles_of}
use Rattle.mcs51_isa.proofs.Bounds.{size_bounds}
use Rattle.sim51.specs.State.{Core}
use Rattle.sim51.specs.Effect.{Effect, effect, goes_to}
use Rattle.sim51.specs.Step.{size, instr_at, next_address, halts, label_at}
use Rattle.sim51.specs.Placed.{bytes_of, Stands}
use Rattle.sim51.specs.Runs.{Running, object, label_events, read_events, write_events}
use Rattle.sim51.specs.Straight.{AreStraight, core_after, port_events, cycles_of_instrs, ran, HaveNoLabel}
use Rattle.sim51.proofs.Objects.{running_goes}
use Rattle.sim51.proofs.StraightEffects.{effect_next, straight_goes}

-- a run after a step: its label, its effect, and the cycles that it takes
abbrev pub stepped_on : Option Label → Effect → ℕ → Running → Running
stepped_on at e cycles r =
    record {
      events = r.events ++ (label_events at ++ (read_events e.read ++ write_events e.write));
      state = record { core = e.core; pc = e.pc; cycles = r.state.cycles + cycles };
    }

abbrev running : List Event → Core → ℕ → ℕ → Running
running events core pc cycles = record { events = events; state = record { core = core; pc = pc; cycles = cycles } }

module _ (code labels : List ℕ) (d : ℕ) where
  -- every step of object code is within bounds
  pub run_of_step : (r t : Running) → (object code labels).step r ≡ t → Run (object code labels) d r t
  run_of_step r t e = subst (λ s. Run (object code labels) d r s) e (one_step (object code labels) d r (record { bytes = tt; calls = lit≤ tt }))

  -- a step by an instruction that doesn't halt, whose effect is known
  pub object_step : (r : Running) (i : Instr) (at : Option Label) (e : Effect) → instr_at code r.state.pc ≡ Some i → halts i r.state.pc ≡ false → label_at labels r.state.pc ≡ at → effect code i (next_address r.state.pc i) r.state.core ≡ e → Run (object code labels) d r (stepped_on at e (cycles_of i) r)
  object_step r i at e there goes labelled is =
      run_of_step r (stepped_on at e (cycles_of i) r)
      (running_goes code labels r i there goes
      ∙ ap (λ (l : Option Label). stepped_on l (effect code i (next_address r.state.pc i) r.state.core) (cycles_of i) r) labelled
      ∙ ap (λ (x : Effect). stepped_on at x (cycles_of i) r) is)

  -- one that makes no event
  pub silent_step : (r : Running) (i : Instr) (pc : ℕ) (c : Core) → instr_at code r.state.pc ≡ Some i → halts i r.state.pc ≡ false → label_at labels r.state.pc ≡ None → effect code i (next_address r.state.pc i) r.state.core ≡ goes_to pc c → Run (object code labels) d r (running r.events c pc (r.state.cycles + cycles_of i))
  silent_step r i pc c there goes unlabelled is =
      subst (λ (events : List Event). Run (object code labels) d r (running events c pc (r.state.cycles + cycles_of i))) (append-nil r.events)
      (object_step r i None (goes_to pc c) there goes unlabelled is)

  -- the NOP at a label
  pub label_step : (r : Running) (l : Label) → instr_at code r.state.pc ≡ Some Nop → label_at labels r.state.pc ≡ Some l → Run (object code labels) d r (running (r.events ++ label l.0 ∷ []) r.state.core ((r.state.pc + 1) % 65536) (r.state.cycles + 1))
  label_step r l there labelled = object_step r Nop (Some l) (goes_to ((r.state.pc + 1) % 65536) r.state.core) there refl labelled refl

  -- instructions at the end of the code memory are followed by none
  stands_around : (is : List Instr) (a : ℕ) → Stands code a is → Stands code (a % 65536) is
  stands_around [] a there = tt
  stands_around (i ∷ is) a there =
      let some = (size_bounds i).0 in let fits = there.1 in let within : a < 65536 = omega arith in
      subst (λ n. Stands code n (i ∷ is)) (sym (mod-eq_of_lt within)) there

  unlabelled_around : (is : List Instr) (a : ℕ) → Stands code a is → HaveNoLabel labels a is → HaveNoLabel labels (a % 65536) is
  unlabelled_around [] a there unlabelled = tt
  unlabelled_around (i ∷ is) a there unlabelled =
      let some = (size_bounds i).0 in let fits = there.1 in let within : a < 65536 = omega arith in
      subst (λ n. HaveNoLabel labels n (i ∷ is)) (sym (mod-eq_of_lt within)) unlabelled

  same_running : (es fs : List Event) (c : Core) (p q n m : ℕ) → es ≡ fs → p ≡ q → n ≡ m → running es c p n ≡ running fs c q m
  same_running es fs c p q n m e f g =
      ap (λ (x : List Event). running x c p n) e ∙ ap (λ x. running fs c x n) f ∙ ap (λ x. running fs c q x) g

  -- straight-line code without labels runs to its end
  pub straight_run : (is : List Instr) (r : Running) → r.state.pc < 65536 → Stands code r.state.pc is → HaveNoLabel labels r.state.pc is → AreStraight is → Run (object code labels) d r (ran is r)
  straight_run [] r low there unlabelled straight =
      subst (λ (s : Running). Run (object code labels) d r s)
      (same_running r.events (r.events ++ []) r.state.core r.state.pc ((r.state.pc + 0) % 65536) r.state.cycles (r.state.cycles + 0) (sym (append-nil r.events)) (omega arith) (omega arith))
      (here r)
  straight_run (i ∷ is) r low there unlabelled straight =
      let next = (r.state.pc + size i) % 65536 in
      let e : Effect = record (effect [] i 0 r.state.core) { pc = next } in
      let s = stepped_on None e (cycles_of i) r in
      let made = read_events e.read ++ write_events e.write in
      let first = object_step r i None e there.0 (straight_goes i r.state.pc straight.0) unlabelled.0 (effect_next code i next r.state.core straight.0) in
      let rest = straight_run is s (omega arith) (stands_around is (r.state.pc + size i) there.2) (unlabelled_around is (r.state.pc + size i) there.2 unlabelled.1) straight.1 in
      subst (λ (t : Running). Run (object code labels) d r t)
      (same_running ((r.events ++ made) ++ port_events is e.core) (r.events ++ (made ++ port_events is e.core)) (core_after is e.core)
      ((next + bytes_of is) % 65536) ((r.state.pc + (size i + bytes_of is)) % 65536)
      (r.state.cycles + cycles_of i + cycles_of_instrs is) (r.state.cycles + (cycles_of i + cycles_of_instrs is))
      (append_assoc r.events made (port_events is e.core)) (omega arith) (omega arith))
      (joined first rest)
