-- The steps that the machine makes for an item: some that are no returns, or one return.
use Rattle.std.proofs.Common.{◌≡◌, ℕ, ◌+◌, ◌%◌, List, [], ◌∷◌, ◌++◌, Option, Some, None, false, refl, sym, ap, ◌∙◌, subst, append-nil}
use Rattle.cerco_base.specs.declared.events.Event.{Event}
use Rattle.cerco_base.specs.declared.events.Label.{Label}
use Rattle.cerco_base.specs.Events.{label}
use Rattle.cerco_traces.specs.Systems.{Run, here}
use Rattle.cerco_traces.proofs.Simulation.{joined}
use Rattle.mcs51_isa.specs.declared.instr.Instr.{Instr}
use Rattle.mcs51_isa.specs.declared.instr.Instr.TheVariants.{Nop, Sjmp, Ajmp, Long, Ret, BranchFlag}
use Rattle.mcs51_isa.specs.declared.instr.LongJump.{LongJump}
use Rattle.mcs51_isa.specs.declared.instr.FlagTest.{FlagTest}
use Rattle.mcs51_isa.specs.declared.instr.ReturnKind.{ReturnKind}
use Rattle.mcs51_isa.specs.declared.operands.Addr11.{Addr11}
use Rattle.mcs51_isa.specs.Table.{cycles_of}
use Rattle.sim51.specs.State.{Core}
use Rattle.sim51.specs.Effect.{Effect, effect, goes_to}
use Rattle.sim51.specs.Step.{instr_at, next_address, halts, label_at}
use Rattle.sim51.specs.Runs.{Running, object}
use Rattle.sim51.specs.Straight.{IsStraight}
use Rattle.sim51.proofs.Objects.{running_goes}
use Rattle.sim51.proofs.StraightRuns.{stepped_on, run_of_step}

abbrev pub IsNoReturn : Instr → Type 0
IsNoReturn i = (kind : ReturnKind) → i ≡ Ret kind → ⊥

pub no_return-nop : IsNoReturn Nop
no_return-nop kind e = cc

pub no_return-sjmp : (offset : ℕ) → IsNoReturn (Sjmp offset)
no_return-sjmp offset kind e = cc

pub no_return-ajmp : (target : Addr11) → IsNoReturn (Ajmp target)
no_return-ajmp target kind e = cc

pub no_return-long : (op : LongJump) (target : ℕ) → IsNoReturn (Long op target)
no_return-long op target kind e = cc

pub no_return-branch : (op : FlagTest) (offset : ℕ) → IsNoReturn (BranchFlag op offset)
no_return-branch op offset kind e = cc

pub no_return-straight : (i : Instr) → IsStraight i → IsNoReturn i
no_return-straight i straight kind e = subst IsStraight e straight

-- The machine comes from one place of a run to another, and makes no return.
pub data Passes (code labels : List ℕ) : Running → Running → Type 0 where
  rests : (y : Running) → Passes code labels y y
  passes : (y z : Running) (i : Instr) → instr_at code y.state.pc ≡ Some i → IsNoReturn i → Passes code labels ((object code labels).step y) z → Passes code labels y z

-- Or it makes just a return, to the newest of these items.
pub data Course (code labels : List ℕ) (at : ℕ → ℕ) (returns : List ℕ) : Running → Running → Type 0 where
  goes_on : (y z : Running) → Passes code labels y z → Course code labels at returns y z
  comes_back : (y z : Running) (k : ℕ) (ks : List ℕ) → returns ≡ k ∷ ks → (object code labels).step y ≡ z → z.state.pc ≡ at k → Course code labels at returns y z

module _ (code labels : List ℕ) where
  -- a step by an instruction that doesn't halt, whose effect is known
  step_is : (r : Running) (i : Instr) (at : Option Label) (e : Effect) → instr_at code r.state.pc ≡ Some i → halts i r.state.pc ≡ false → label_at labels r.state.pc ≡ at → effect code i (next_address r.state.pc i) r.state.core ≡ e → (object code labels).step r ≡ stepped_on at e (cycles_of i) r
  step_is r i at e there goes labelled is =
      running_goes code labels r i there goes
      ∙ ap (λ (l : Option Label). stepped_on l (effect code i (next_address r.state.pc i) r.state.core) (cycles_of i) r) labelled
      ∙ ap (λ (x : Effect). stepped_on at x (cycles_of i) r) is

  -- one that makes no event
  pub silent_is : (r : Running) (i : Instr) (pc : ℕ) (c : Core) → instr_at code r.state.pc ≡ Some i → halts i r.state.pc ≡ false → label_at labels r.state.pc ≡ None → effect code i (next_address r.state.pc i) r.state.core ≡ goes_to pc c
      → (object code labels).step r ≡ record { events = r.events; state = record { core = c; pc = pc; cycles = r.state.cycles + cycles_of i } }
  silent_is r i pc c there goes unlabelled is =
      step_is r i None (goes_to pc c) there goes unlabelled is
      ∙ ap (λ (events : List Event). record { events = events; state = record { core = c; pc = pc; cycles = r.state.cycles + cycles_of i } }) (append-nil r.events)

  passes_to : (r t : Running) (i : Instr) → instr_at code r.state.pc ≡ Some i → IsNoReturn i → (object code labels).step r ≡ t → Passes code labels r t
  passes_to r t i there other e = passes r t i there other (subst (λ (s : Running). Passes code labels s t) (sym e) (rests t))

  pub object_passes : (r : Running) (i : Instr) (at : Option Label) (e : Effect) → instr_at code r.state.pc ≡ Some i → halts i r.state.pc ≡ false → label_at labels r.state.pc ≡ at → effect code i (next_address r.state.pc i) r.state.core ≡ e → IsNoReturn i → Passes code labels r (stepped_on at e (cycles_of i) r)
  object_passes r i at e there goes labelled is other = passes_to r (stepped_on at e (cycles_of i) r) i there other (step_is r i at e there goes labelled is)

  pub silent_passes : (r : Running) (i : Instr) (pc : ℕ) (c : Core) → instr_at code r.state.pc ≡ Some i → halts i r.state.pc ≡ false → label_at labels r.state.pc ≡ None → effect code i (next_address r.state.pc i) r.state.core ≡ goes_to pc c → IsNoReturn i
      → Passes code labels r (record { events = r.events; state = record { core = c; pc = pc; cycles = r.state.cycles + cycles_of i } })
  silent_passes r i pc c there goes unlabelled is other = passes_to r _ i there other (silent_is r i pc c there goes unlabelled is)

  -- the NOP at a label
  pub label_passes : (r : Running) (l : Label) → instr_at code r.state.pc ≡ Some Nop → label_at labels r.state.pc ≡ Some l → Passes code labels r (record { events = r.events ++ label l.0 ∷ []; state = record { core = r.state.core; pc = (r.state.pc + 1) % 65536; cycles = r.state.cycles + 1 } })
  label_passes r l there labelled = object_passes r Nop (Some l) (goes_to ((r.state.pc + 1) % 65536) r.state.core) there refl labelled refl no_return-nop

  pub passes_both : (y z w : Running) → Passes code labels y z → Passes code labels z w → Passes code labels y w
  passes_both y z w (rests y') more = more
  passes_both y z w (passes y' z' i there other first) more = passes y w i there other (passes_both ((object code labels).step y) z w first more)

  passes_run : (d : ℕ) (y z : Running) → Passes code labels y z → Run (object code labels) d y z
  passes_run d y z (rests y') = here y
  passes_run d y z (passes y' z' i there other more) = joined (run_of_step code labels d y ((object code labels).step y) refl) (passes_run d ((object code labels).step y) z more)

  pub course_run : (d : ℕ) (at : ℕ → ℕ) (returns : List ℕ) (y z : Running) → Course code labels at returns y z → Run (object code labels) d y z
  course_run d at returns y z (goes_on y' z' p) = passes_run d y z p
  course_run d at returns y z (comes_back y' z' k ks e step to) = run_of_step code labels d y z step
