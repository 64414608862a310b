-- The object simulates the assembly program, and so preserves its traces.
use Rattle.std.proofs.Common.{◌≡◌, IsTrue, ℕ, ◌+◌, ◌%◌, ◌≤◌, List, [], Option, Some, None, Bool, true, false, refl, sym, ap, ◌∙◌, subst, arith, slice_get}
use Rattle.std.proofs.Common.{eqb-true, lit≤}
use Rattle.cerco_base.specs.declared.events.Event.{Event}
use Rattle.cerco_base.specs.Events.{IsPrefix}
use Rattle.cerco_traces.specs.Systems.{System, IsWithin, Run, here}
use Rattle.cerco_traces.proofs.Simulation.{Simulates, simulation_preserves, prefix_refl}
use Rattle.mcs51_isa.specs.declared.instr.Instr.TheVariants.{Nop, Sjmp, MovDirectImmediate}
use Rattle.mcs51_isa.specs.Table.{cycles_of}
use Rattle.sim51.specs.Effect.{effect}
use Rattle.sim51.specs.Step.{instr_at, label_at, halts}
use Rattle.sim51.specs.Runs.{Running, object}
use Rattle.sim51.proofs.Laws.{halts-sjmp_self}
use Rattle.sim51.proofs.Objects.{running_due, running_ended}
use Rattle.sim51.proofs.StraightRuns.{stepped_on}
use Rattle.asm51.specs.declared.items.AsmItem.{AsmItem}
use Rattle.asm51.specs.declared.items.AsmItem.TheVariants.{Plain, Mark}
use Rattle.asm51.specs.declared.layouts.Form.{Form}
use Rattle.asm51.specs.Items.{is_mark}
use Rattle.asm51.specs.Selected.{AreSelected}
use Rattle.asm51.specs.Meaning.{AsmState, executed, is_end, passes, assembly}
use Rattle.asm51.proofs.StraightCode.{step_of}
use Rattle.objects51.specs.Stands.{Matches, IsFollowed, IsTied, begun, under_way}
use Rattle.objects51.specs.Preserved.{ObjectPreserves}
use Rattle.objects51.proofs.Objects.{IsObject, is_object}
use Rattle.objects51.proofs.Labels.{mark_at, none_at, label_here}
use Rattle.objects51.proofs.Places.{place_after}
use Rattle.objects51.proofs.Courses.{Passes, Course, goes_on, no_return-straight, object_passes, course_run}
use Rattle.objects51.proofs.Follows.{word}
use Rattle.objects51.proofs.Steps.{step_follows}

module _ (items : List AsmItem) (forms : List (Option Form)) (code labels : List ℕ) (at : ℕ → ℕ) (d : ℕ) (sel : AreSelected items) (obj : IsObject items forms code labels at) where
  abbrev X : System AsmState
  X = assembly items

  abbrev Y : System Running
  Y = object code labels

  abbrev Tied : AsmState → Running → Type 0
  Tied x y = IsTied items (word at) code labels x y

  -- the first step sets the stack pointer
  pub first_step : (script : List ℕ) → (y : Running) × Course code labels (word at) [] (Y.start script) y × IsFollowed items (word at) (X.step (X.start script)) y
  first_step script =
      let x = X.start script in
      let y = Y.start script in
      let i = MovDirectImmediate 0x81 0x7F in
      let laid = obj.laid 0 (Plain i) sel.stack in
      let free = none_at items forms code labels at sel obj 0 (Plain i) (λ j l next mark. absurd (omega (arith, next))) sel.stack in
      let zero_at : at 0 ≡ 0 = obj.zero in
      let goes : X.step x ≡ executed i x = step_of items x (Plain i) sel.stack in
      let e = effect code i 3 y.state.core in
      let z = stepped_on None e (cycles_of i) y in
      let run : Passes code labels y z =
      object_passes code labels y i None e (ap (instr_at code) (sym zero_at) ∙ laid.stands.0) refl (ap (label_at labels) (sym zero_at) ∙ free.0) refl (no_return-straight i tt) in
      let place : 3 ≡ at 1 % 65536 = omega (arith, laid.next, zero_at) in
      let matches : Matches (word at) (executed i x) z =
      record { place = place; held = refl; pointer = refl; ram = refl; stacked = tt; few = lit≤ tt; events = refl } in
      subst (λ (s : AsmState). (z : Running) × Course code labels (word at) [] y z × IsFollowed items (word at) s z) (sym goes)
      (z, goes_on y z run, record { place = place_after items sel 0 (Plain i) sel.stack refl; places = tt; matches = matches })

  -- each later step is followed
  pub next_step : (x : AsmState) (y : Running) → IsFollowed items (word at) x y → IsWithin X d x → (z : Running) × Course code labels (word at) x.returns y z × IsFollowed items (word at) (X.step x) z
  next_step x y r within = step_follows items forms code labels at sel obj d x y r within

  steps : (x : AsmState) (y : Running) → Tied x y → IsWithin X d x → (z : Running) × Run Y d y z × Tied (X.step x) z
  steps x y (begun script) within =
      let f = first_step script in
      (f.0, course_run code labels d (word at) [] (Y.start script) f.0 f.1, under_way _ _ f.2)
  steps x y (under_way x' y' r) within =
      let f = next_step x y r within in
      (f.0, course_run code labels d (word at) x.returns y f.0 f.1, under_way _ _ f.2)

  ahead : (x : AsmState) (y : Running) → Tied x y → IsPrefix (X.events x) (Y.events y)
  ahead x y (begun script) = prefix_refl []
  ahead x y (under_way x' y' r) = subst (λ es. IsPrefix x.made es) (sym r.matches.events) (prefix_refl x.made)

  -- where the program stands before a label, so does the machine
  due_by : (x : AsmState) (y : Running) (o : Option AsmItem) → IsFollowed items (word at) x y → slice_get items x.at ≡ o → IsTrue (passes is_mark o) → IsTrue (Y.due y)
  due_by x y (Some (Mark l)) r e due =
      let m = mark_at items forms code labels at sel obj x.at l e in
      let place : y.state.pc ≡ at x.at = omega (arith, r.matches.place, m.same, m.fits) in
      let there : instr_at code y.state.pc ≡ Some Nop = ap (instr_at code) (place ∙ sym m.same) ∙ m.nop in
      running_due code labels y Nop there l refl (ap (label_at labels) place ∙ label_here items forms code labels at sel obj x.at l e)
  due_by x y None r e due = absurd cc
  due_by x y (Some _) r e due = absurd cc

  pub due_at : (x : AsmState) (y : Running) → IsFollowed items (word at) x y → IsTrue (X.due x) → IsTrue (Y.due y)
  due_at x y r due = due_by x y (slice_get items x.at) r refl due

  -- and where it has ended
  ended_by : (x : AsmState) (y : Running) (o : Option AsmItem) → IsFollowed items (word at) x y → slice_get items x.at ≡ o → IsTrue (passes is_end o) → IsTrue (Y.ended y)
  ended_by x y (Some (Plain (Sjmp offset))) r e over =
      let laid = obj.laid x.at (Plain (Sjmp offset)) e in
      let fits : at x.at + 2 ≤ 65536 = laid.stands.1 in
      let place : y.state.pc ≡ at x.at = omega (arith, r.matches.place, fits) in
      let back : offset ≡ 0xFE = eqb-true offset 0xFE over in
      let halted : halts (Sjmp offset) y.state.pc ≡ true = ap (λ o. halts (Sjmp o) y.state.pc) back ∙ halts-sjmp_self y.state.pc (omega (arith, place, fits)) in
      running_ended code labels y (Sjmp offset) (ap (instr_at code) place ∙ laid.stands.0) halted
  ended_by x y None r e over = absurd cc
  ended_by x y (Some (Plain _)) r e over = absurd cc
  ended_by x y (Some _) r e over = absurd cc

  pub ended_at : (x : AsmState) (y : Running) → IsFollowed items (word at) x y → IsTrue (X.ended x) → IsTrue (Y.ended y)
  ended_at x y r over = ended_by x y (slice_get items x.at) r refl over

  abbrev Stands : Running → (Running → Bool) → List Event → Type 0
  Stands y test es = (z : Running) × Run Y d y z × IsTrue (test z) × (Y.events z ≡ es)

  no_stop : (test : AsmItem → Bool) → test (Plain (MovDirectImmediate 0x81 0x7F)) ≡ false → IsTrue (passes test (slice_get items 0)) → ⊥
  no_stop test other stop = let clash : false ≡ true = sym other ∙ sym (ap (passes test) sel.stack) ∙ stop in cc

  -- the program begins at no stop
  pub not_due : (script : List ℕ) → IsTrue (X.due (X.start script)) → ⊥
  not_due script due = no_stop is_mark refl due

  pub not_ended : (script : List ℕ) → IsTrue (X.ended (X.start script)) → ⊥
  not_ended script over = no_stop is_end refl over

  stops : (x : AsmState) (y : Running) → Tied x y → IsTrue (X.due x) → Stands y Y.due (X.events x)
  stops x y (begun script) due = absurd (not_due script due)
  stops x y (under_way x' y' r) due = (y, here y, due_at x y r due, r.matches.events)

  ends : (x : AsmState) (y : Running) → Tied x y → IsTrue (X.ended x) → Stands y Y.ended (X.events x)
  ends x y (begun script) over = absurd (not_ended script over)
  ends x y (under_way x' y' r) over = (y, here y, ended_at x y r over, r.matches.events)

  -- The object simulates the program.
  pub object_simulates : Simulates X Y d d (IsTied items (word at) code labels)
  object_simulates = record { begins = λ script ok. (Y.start script, here (Y.start script), begun script); steps = steps; ahead = ahead; stops = stops; ends = ends }

pub object_preserves : ObjectPreserves
object_preserves items layout sel is = λ d small. simulation_preserves _ _ d d _ (object_simulates items layout.forms _ _ _ d sel (is_object items layout.forms sel is.relaxed is.fits))
