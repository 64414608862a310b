-- From what a step does to what its answer says.
use Rattle.std.proofs.Common.{◌≡◌, ℕ, suc, ◌<◌, List, [], ◌∷◌, Option, Some, None, sym, ap, subst, ◌∙◌}
use Rattle.cerco_base.specs.Events.{Ended}
use Rattle.cerco_traces.specs.Preservation.{Stops, Faults}
use Rattle.cerco_base.specs.declared.events.Event.TheVariants as event
use Rattle.cerco_base.specs.declared.events.Label.{Label}
use Rattle.cerco_base.specs.declared.events.FaultKind.{FaultKind}
use Rattle.clight_syntax.specs.TypedTrees.{TypedProgram}
use Rattle.clight_syntax.specs.Code.TypedViews.{program_of}
use Rattle.clight_meaning.specs.declared.turn.Turn.{Turn}
use Rattle.clight_meaning.specs.declared.running.Running.{Running}
use Rattle.clight_values.specs.Memory.{State}
use Rattle.clight_meaning.specs.Meaning.{Rest, only, passes, says}
use Rattle.clight_meaning.specs.Code.Evaluation.{Work, Faulty, Move, Silent, Says, SaysAndFails, Fails, Ends, rest_of, stepped}
use Rattle.clight_meaning.specs.Code.Holding.{Matches, IsFaulty, Does, works_held}
use Rattle.clight_meaning.specs.Code.Views.{state_held}
use Rattle.clight_meaning.specs.Code.Turns.{Tells, rest_held}
use Rattle.clight_meaning.proofs.Moving.{Moves, moves_step}
use Rattle.clight_meaning.proofs.Weights.{Lessens, total_weight, lessens_step}

faulty_rest : (p : TypedProgram Label) (kind : FaultKind) (ws : List Work) (st : State) → IsFaulty kind ws → rest_of p ws st ≡ only (Faults [] kind)
faulty_rest p kind (Faulty k ∷ ws) st h = ap (λ j. only (Faults [] j)) h
faulty_rest p kind _ st h = absurd h

-- what an answer says, if there is one
abbrev TellsIfAny : Option Turn → Rest → Rest → Type 0
TellsIfAny None before next = before ≡ next
TellsIfAny (Some t) before next = Tells t before next

module _ (p : TypedProgram Label) (before : Rest) (nw : List Work) (ns : State) where
  after : (ws : List Work) (st : State) → nw ≡ ws → ns ≡ st → rest_of p ws st ≡ rest_of p nw ns
  after ws st e f = ap (λ xs. rest_of p xs st) (sym e) ∙ ap (rest_of p nw) (sym f)

  told : (move : Move) (o : Option Turn) → Moves p move before → Matches move o nw ns → TellsIfAny o before (rest_of p nw ns)
  told (Silent ws st) o m h = subst (λ (a : Option Turn). TellsIfAny a before (rest_of p nw ns)) (sym h.0) (m ∙ after ws st h.1 h.2)
  told (Says (event.Label l) ws st) o m h =
      let e : before ≡ passes l (rest_of p nw ns) = m ∙ ap (passes l) (after ws st h.1 h.2) in
      subst (λ (a : Option Turn). TellsIfAny a before (rest_of p nw ns)) (sym h.0) (ap (λ (r : Rest). r 0) e, λ n. ap (λ (r : Rest). r (suc n)) e)
  told (Says (event.Read port byte) ws st) o m h =
      let e : before ≡ says (event.Read port byte) (rest_of p nw ns) = m ∙ ap (says (event.Read port byte)) (after ws st h.1 h.2) in
      subst (λ (a : Option Turn). TellsIfAny a before (rest_of p nw ns)) (sym h.0) (λ n. ap (λ (r : Rest). r n) e)
  told (Says (event.Write port byte) ws st) o m h =
      let e : before ≡ says (event.Write port byte) (rest_of p nw ns) = m ∙ ap (says (event.Write port byte)) (after ws st h.1 h.2) in
      subst (λ (a : Option Turn). TellsIfAny a before (rest_of p nw ns)) (sym h.0) (λ n. ap (λ (r : Rest). r n) e)
  told (SaysAndFails (event.Label l) kind) o m h =
      let e : before ≡ passes l (rest_of p nw ns) = m ∙ ap (passes l) (sym (faulty_rest p kind nw ns h.1)) in
      subst (λ (a : Option Turn). TellsIfAny a before (rest_of p nw ns)) (sym h.0) (ap (λ (r : Rest). r 0) e, λ n. ap (λ (r : Rest). r (suc n)) e)
  told (SaysAndFails (event.Read port byte) kind) o m h =
      let e : before ≡ says (event.Read port byte) (rest_of p nw ns) = m ∙ ap (says (event.Read port byte)) (sym (faulty_rest p kind nw ns h.1)) in
      subst (λ (a : Option Turn). TellsIfAny a before (rest_of p nw ns)) (sym h.0) (λ n. ap (λ (r : Rest). r n) e)
  told (SaysAndFails (event.Write port byte) kind) o m h =
      let e : before ≡ says (event.Write port byte) (rest_of p nw ns) = m ∙ ap (says (event.Write port byte)) (sym (faulty_rest p kind nw ns h.1)) in
      subst (λ (a : Option Turn). TellsIfAny a before (rest_of p nw ns)) (sym h.0) (λ n. ap (λ (r : Rest). r n) e)
  told (Fails kind) o m h =
      let f = faulty_rest p kind nw ns h.1 in
      subst (λ (a : Option Turn). TellsIfAny a before (rest_of p nw ns)) (sym h.0) (λ n. (ap (λ (r : Rest). r n) m, ap (λ (r : Rest). r n) f))
  told Ends o m h =
      let f : rest_of p nw ns ≡ only (Stops [] Ended) = ap (λ xs. rest_of p xs ns) h.1 in
      subst (λ (a : Option Turn). TellsIfAny a before (rest_of p nw ns)) (sym h.0) (λ n. (ap (λ (r : Rest). r n) m, ap (λ (r : Rest). r n) f))

lessened : (move : Move) (m : ℕ) (nw : List Work) (ns : State) → Lessens move m → Matches move None nw ns → total_weight nw < m
lessened (Silent ws st) m nw ns h e = subst (λ xs. total_weight xs < m) (sym e.1) h
lessened (Says v ws st) m nw ns h e = absurd (let q = e.0 in cc)
lessened (SaysAndFails v kind) m nw ns h e = absurd (let q = e.0 in cc)
lessened (Fails kind) m nw ns h e = absurd (let q = e.0 in cc)
lessened Ends m nw ns h e = absurd (let q = e.0 in cc)

abbrev pub the_move : Running → Move
the_move r = stepped (program_of r.program.now) (works_held r.work.items) (state_held r.state)

-- the rest is that of the same program
same_program : (old new : Running) → new.program.now ≡ old.program.now → rest_of (program_of old.program.now) (works_held new.work.items) (state_held new.state) ≡ rest_held new
same_program old new e = ap (λ q. rest_of (program_of q) (works_held new.work.items) (state_held new.state)) (sym e)

pub step_tells : (t : Turn) (old new : Running) → Does (the_move old) (Some t) old new → Tells t (rest_held old) (rest_held new)
step_tells t old new h =
    subst (Tells t (rest_held old)) (same_program old new h.program)
    (told (program_of old.program.now) (rest_held old) (works_held new.work.items) (state_held new.state) (the_move old) (Some t)
    (moves_step (program_of old.program.now) (works_held old.work.items) (state_held old.state)) h.moves)

pub step_silent : (old new : Running) → Does (the_move old) None old new → rest_held old ≡ rest_held new
step_silent old new h =
    told (program_of old.program.now) (rest_held old) (works_held new.work.items) (state_held new.state) (the_move old) None
    (moves_step (program_of old.program.now) (works_held old.work.items) (state_held old.state)) h.moves
    ∙ same_program old new h.program

pub step_lessens : (old new : Running) → Does (the_move old) None old new → total_weight (works_held new.work.items) < total_weight (works_held old.work.items)
step_lessens old new h =
    lessened (the_move old) (total_weight (works_held old.work.items)) (works_held new.work.items) (state_held new.state)
    (lessens_step (program_of old.program.now) (works_held old.work.items) (state_held old.state)) h.moves
