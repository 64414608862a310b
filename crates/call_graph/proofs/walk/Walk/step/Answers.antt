use Rattle.std.proofs.Common.{◌≡◌, ℕ, ◌<◌, List, length, get_or, arith, subst, refl, ap, sym, ◌∙◌}
use Rattle.std.proofs.lemmas.Result.{on_ok_weaker}
use Rattle.call_graph.specs.Code.Walks.{mark_of}
use Rattle.call_graph.specs.declared.walk.Mark.{Mark}
use Rattle.call_graph.specs.declared.walk.Mark.TheVariants.{New, Placed}
use Rattle.call_graph.specs.CallPaths.{IsOnCycle}
use Rattle.call_graph.specs.Code.Nodes.{callers_of, CallsTo}
use Rattle.call_graph.proofs.WalkSteps.{mark_read}
use Rattle.call_graph.proofs.Turns.{at_top, known_read, callers_marked, all_known, turn_places, turn_opens, turn_cycles, is_open}
use Rattle.call_graph.proofs.walk.Walk.step.Goals as goal

pub first_missing-at-requires-clause-from : goal.first_missing-at-requires-clause-from
first_missing-at-requires-clause-from c =
    let at = at_top c.args.nodes.now c.args.self.now c.args.top c.as_slice-callers.result.now c.requires.top.0 c.index-nodes-top.result c.requires.nodes c.requires.walk c.requires.top.1 c.as_slice-callers.ensures.value in
    (known_read _ _ _ _ _ at c.index.result.now c.index.ensures).0

pub first_missing-at-requires-clause-marked : goal.first_missing-at-requires-clause-marked
first_missing-at-requires-clause-marked c =
    let at = at_top c.args.nodes.now c.args.self.now c.args.top c.as_slice-callers.result.now c.requires.top.0 c.index-nodes-top.result c.requires.nodes c.requires.walk c.requires.top.1 c.as_slice-callers.ensures.value in
    rw c.deref.ensures.value (callers_marked _ _ _ _ _ at)

pub first_missing-at-requires-clause-before : goal.first_missing-at-requires-clause-before
first_missing-at-requires-clause-before c =
    let at = at_top c.args.nodes.now c.args.self.now c.args.top c.as_slice-callers.result.now c.requires.top.0 c.index-nodes-top.result c.requires.nodes c.requires.walk c.requires.top.1 c.as_slice-callers.ensures.value in
    rw c.deref.ensures.value ((known_read _ _ _ _ _ at c.index.result.now c.index.ensures).1)

pub place-requires-clause-callers : goal.place-requires-clause-callers
place-requires-clause-callers c =
    let at = at_top c.args.nodes.now c.args.self.now c.args.top c.as_slice-callers.result.now c.requires.top.0 c.index-nodes-top.result c.requires.nodes c.requires.walk c.requires.top.1 c.as_slice-callers.ensures.value in
    let known = subst (λ (ms : List Mark). (j : ℕ) → j < c.first_missing-at.result → mark_of ms (get_or c.as_slice-callers.result.now j 0) ≡ Placed) c.deref.ensures.value c.first_missing-at.ensures.before in
    let whole = c.if-at-callers.true in
    all_known _ _ _ _ _ at (λ j h. known j (omega arith))

pub returns-then-at-callers-clause-steps : goal.returns-then-at-callers-clause-steps
returns-then-at-callers-clause-steps c =
    let at = at_top c.args.nodes.now c.args.self.now c.args.top c.as_slice-callers.result.now c.requires.top.0 c.index-nodes-top.result c.requires.nodes c.requires.walk c.requires.top.1 c.as_slice-callers.ensures.value in
    let known = subst (λ (ms : List Mark). (j : ℕ) → j < c.first_missing-at.result → mark_of ms (get_or c.as_slice-callers.result.now j 0) ≡ Placed) c.deref.ensures.value c.first_missing-at.ensures.before in
    on_ok_weaker c.place.result (turn_places _ _ _ _ _ _ _ _ at c.if-at-callers.true known refl refl refl refl) c.place.ensures.places

pub index-requires-2 : goal.index-requires-2
index-requires-2 c =
    let len = c.deref.ensures.len in
    let same = ap length c.deref.ensures.value in
    let at = at_top c.args.nodes.now c.args.self.now c.args.top c.as_slice-callers.result.now c.requires.top.0 c.index-nodes-top.result c.requires.nodes c.requires.walk c.requires.top.1 c.as_slice-callers.ensures.value in
    let le = c.first_missing-at.ensures.within in
    let lt = callers_marked _ _ _ _ _ at c.first_missing-at.result 0 (omega (arith, c.if-at-callers.false)) in
    omega arith

pub open-requires : goal.open-requires
open-requires c =
    let at = at_top c.args.nodes.now c.args.self.now c.args.top c.as_slice-callers.result.now c.requires.top.0 c.index-nodes-top.result c.requires.nodes c.requires.walk c.requires.top.1 c.as_slice-callers.ensures.value in
    let le = c.first_missing-at.ensures.within in
    callers_marked _ _ _ _ _ at c.first_missing-at.result 0 (omega (arith, c.if-at-callers.false))

pub returns-in-New-clause-steps : goal.returns-in-New-clause-steps
returns-in-New-clause-steps c =
    let at = at_top c.args.nodes.now c.args.self.now c.args.top c.as_slice-callers.result.now c.requires.top.0 c.index-nodes-top.result c.requires.nodes c.requires.walk c.requires.top.1 c.as_slice-callers.ensures.value in
    let known = subst (λ (ms : List Mark). (j : ℕ) → j < c.first_missing-at.result → mark_of ms (get_or c.as_slice-callers.result.now j 0) ≡ Placed) c.deref.ensures.value c.first_missing-at.ensures.before in
    let le = c.first_missing-at.ensures.within in
    let within : c.first_missing-at.result < length c.as_slice-callers.result.now = omega (arith, c.if-at-callers.false) in
    let new : mark_of c.args.self.now.marks.items (get_or c.as_slice-callers.result.now c.first_missing-at.result 0) ≡ New = mark_read c.args.self.now.marks.items (get_or c.as_slice-callers.result.now c.first_missing-at.result 0) c.index-2.result.now (callers_marked _ _ _ _ _ at c.first_missing-at.result 0 within) c.index-2.ensures ∙ c.in-New.is in
    on_ok_weaker c.open.result (turn_opens _ _ _ _ _ _ _ _ at within known new refl refl refl refl) c.open.ensures.opens

pub returns-in_default-clause-cycle : goal.returns-in_default-clause-cycle
returns-in_default-clause-cycle c =
    let at = at_top c.args.nodes.now c.args.self.now c.args.top c.as_slice-callers.result.now c.requires.top.0 c.index-nodes-top.result c.requires.nodes c.requires.walk c.requires.top.1 c.as_slice-callers.ensures.value in
    let le = c.first_missing-at.ensures.within in
    let within : c.first_missing-at.result < length c.as_slice-callers.result.now = omega (arith, c.if-at-callers.false) in
    let same = mark_read c.args.self.now.marks.items (get_or c.as_slice-callers.result.now c.first_missing-at.result 0) c.index-2.result.now (callers_marked _ _ _ _ _ at c.first_missing-at.result 0 within) c.index-2.ensures in
    let missing = subst (λ (ms : List Mark). mark_of ms (get_or c.as_slice-callers.result.now c.first_missing-at.result 0) ≡ Placed → ⊥) c.deref.ensures.value (c.first_missing-at.ensures.missing within) in
    let is = is_open (mark_of c.args.self.now.marks.items (get_or c.as_slice-callers.result.now c.first_missing-at.result 0)) missing (λ e. c.in_default.not-New (sym same ∙ e)) in
    λ f e.
    let here : get_or c.as_slice-callers.result.now c.first_missing-at.result 0 ≡ f = cc in
    subst (IsOnCycle (length c.args.nodes.now) (CallsTo (callers_of c.args.nodes.now))) here (turn_cycles _ _ _ _ _ _ at within is)
