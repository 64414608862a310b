-- How the text of a meaning is told turn by turn.
use Rattle.std.proofs.Common.{◌≡◌, ℕ, zero, suc, ◌+◌, ◌<◌, List, [], ◌∷◌, ◌++◌, length, slice_index, Option, Some, None, refl, sym, ap, subst, ◌∙◌, arith, append_assoc, append-nil, length-append}
use Rattle.cerco_base.specs.Events.{Stop, Stopped, Ended}
use Rattle.cerco_traces.specs.Preservation.{Outcome, Stops, Faults, and_then}
use Rattle.cerco_base.specs.declared.events.Event.{Event}
use Rattle.cerco_base.specs.declared.events.Event.TheVariants as event
use Rattle.cerco_base.specs.declared.events.FaultKind.{FaultKind}
use Rattle.cerco_base.specs.declared.events.FaultKind.TheVariants as kind
use Rattle.block_costs.specs.Sums.{event_cost, cost_of_events}
use Rattle.clight_syntax.specs.Annotations.{Costs, cost_of}
use Rattle.clight_meaning.specs.declared.turn.Turn.{Turn}
use Rattle.clight_meaning.specs.declared.turn.Turn.TheVariants as turn
use Rattle.clight_meaning.specs.Meaning.{Rest}
use Rattle.clight_meaning.specs.Budgets.{events_told}
use Rattle.clight_meaning.specs.Code.Turns.{Tells}
use Rattle.printed_lines.specs.Lines.{end_line, stop_line}
use Rattle.meaning_text.specs.Text.{event_line, fault_line, lines_of, last_line, text_from}
use Rattle.meaning_text.specs.Code.Counting.{label_line, turn_line, passed, count_after}
use Rattle.meaning_text.specs.declared.Count.{Count}
use Rattle.meaning_text.proofs.Costing.{behind_cons}

-- a text isn't empty
last_some : (s : Stop) (cost : ℕ) → 0 < length (last_line s cost)
last_some Stopped cost = omega arith
last_some Ended cost = omega arith

fault_some : (k : FaultKind) → 0 < length (fault_line k)
fault_some kind.Unset = omega arith
fault_some kind.Outside = omega arith
fault_some kind.Dead = omega arith
fault_some kind.Zero = omega arith
fault_some kind.Compare = omega arith

module _ (costs : Costs) where
  pub text_some : (cost : ℕ) (o : Outcome FaultKind) → 0 < length (text_from costs cost o)
  text_some cost (Stops es s) =
      let last = last_line s (cost_of_events cost (slice_index costs.labels) es) in
      let size = length-append (lines_of costs cost es) last in
      let some = last_some s (cost_of_events cost (slice_index costs.labels) es) in
      omega arith
  text_some cost (Faults es k) =
      let size = length-append (lines_of costs cost es) (fault_line k) in
      let some = fault_some k in
      omega arith

  -- an event and then what is told
  event_first : (cost : ℕ) (e : Event) (o : Outcome FaultKind) → text_from costs cost (and_then (e ∷ []) o) ≡ event_line cost e ++ text_from costs (cost + event_cost (slice_index costs.labels) e) o
  event_first cost e (Stops es s) =
      let lines = lines_of costs (cost + event_cost (slice_index costs.labels) e) es in
      append_assoc (event_line cost e) lines (last_line s (cost_of_events cost (slice_index costs.labels) (e ∷ es)))
      ∙ ap (λ (c : ℕ). event_line cost e ++ (lines ++ last_line s c)) (behind_cons costs cost e es)
  event_first cost e (Faults es k) = append_assoc (event_line cost e) (lines_of costs (cost + event_cost (slice_index costs.labels) e) es) (fault_line k)

  -- what is left to tell by a count
  abbrev pub text_left : Option Count → Rest → List ℕ
  text_left None r = []
  text_left (Some c) r = text_from costs c.cost (r c.left)

  -- a port's event costs nothing
  free : (cost : ℕ) (e : Event) (o r : Outcome FaultKind) → r ≡ and_then (e ∷ []) o → event_cost (slice_index costs.labels) e ≡ 0 → text_from costs cost r ≡ event_line cost e ++ text_from costs cost o
  free cost e o r is none =
      let same : cost + event_cost (slice_index costs.labels) e ≡ cost = omega arith in
      ap (λ (q : Outcome FaultKind). text_from costs cost q) is ∙ (event_first cost e o ∙ ap (λ (c : ℕ). event_line cost e ++ text_from costs c o) same)

  label_told : (l : _) (before next : Rest) (left cost : ℕ) → Tells (turn.Event (event.Label l)) before next → text_from costs cost (before left) ≡ label_line l.0 left cost ++ text_left (passed left (cost + cost_of costs l)) next
  label_told l before next zero cost tells = ap (λ (q : Outcome FaultKind). text_from costs cost q) tells.0 ∙ sum_none
    where
      sum_none : text_from costs cost (Stops [] Stopped) ≡ stop_line cost ++ []
      sum_none = let same : cost + 0 ≡ cost = omega arith in ap stop_line same ∙ sym (append-nil (stop_line cost))
  label_told l before next (suc left) cost tells =
      ap (λ (q : Outcome FaultKind). text_from costs cost q) (tells.1 left) ∙ event_first cost (event.Label l) (next left)

  pub turn_told : (t : Turn) (before next : Rest) (c : Count) → Tells t before next → text_from costs c.cost (before c.left) ≡ turn_line t c ++ text_left (count_after costs t c) next
  turn_told (turn.Event (event.Label l)) before next c tells = label_told l before next c.left c.cost tells
  turn_told (turn.Event (event.Read port byte)) before next c tells = free c.cost (event.Read port byte) (next c.left) (before c.left) (tells c.left) refl
  turn_told (turn.Event (event.Write port byte)) before next c tells = free c.cost (event.Write port byte) (next c.left) (before c.left) (tells c.left) refl
  turn_told turn.Ended before next c tells =
      let same : c.cost + 0 ≡ c.cost = omega arith in
      ap (λ (q : Outcome FaultKind). text_from costs c.cost q) (tells c.left).0 ∙ (ap end_line same ∙ sym (append-nil (end_line c.cost)))
  turn_told (turn.Fault k) before next c tells =
      ap (λ (q : Outcome FaultKind). text_from costs c.cost q) (tells c.left).0 ∙ sym (append-nil (fault_line k))

  -- fewer events are left
  shorter : (e : Event) (o r : Outcome FaultKind) → r ≡ and_then (e ∷ []) o → length (events_told o) < length (events_told r)
  shorter e (Stops es s) r is = let size = ap (λ (q : Outcome FaultKind). length (events_told q)) is in omega arith
  shorter e (Faults es k) r is = let size = ap (λ (q : Outcome FaultKind). length (events_told q)) is in omega arith

  abbrev pub some_left : Option Count → Count → Count
  some_left None c = c
  some_left (Some d) c = d

  passed_fewer : (l : _) (before next : Rest) (left cost : ℕ) (d : Count) → Tells (turn.Event (event.Label l)) before next → passed left cost ≡ Some d → length (events_told (next d.left)) < length (events_told (before left))
  passed_fewer l before next zero cost d tells h = absurd cc
  passed_fewer l before next (suc left) cost d tells h =
      let same : left ≡ d.left = ap (λ (o : Option Count). (some_left o d).left) h in
      let P : ℕ → Type 0 = λ n. length (events_told (next n)) < length (events_told (before (suc left))) in
      subst P same (shorter (event.Label l) (next left) (before (suc left)) (tells.1 left))

  same_count_fewer : (e : Event) (before next : Rest) (c d : Count) → before c.left ≡ and_then (e ∷ []) (next c.left) → Some c ≡ Some d → length (events_told (next d.left)) < length (events_told (before c.left))
  same_count_fewer e before next c d is h =
      let same : c.left ≡ d.left = ap (λ (o : Option Count). (some_left o d).left) h in
      let P : ℕ → Type 0 = λ n. length (events_told (next n)) < length (events_told (before c.left)) in
      subst P same (shorter e (next c.left) (before c.left) is)

  pub turn_fewer : (t : Turn) (before next : Rest) (c d : Count) → Tells t before next → count_after costs t c ≡ Some d → length (events_told (next d.left)) < length (events_told (before c.left))
  turn_fewer (turn.Event (event.Label l)) before next c d tells h = passed_fewer l before next c.left (c.cost + cost_of costs l) d tells h
  turn_fewer (turn.Event (event.Read port byte)) before next c d tells h = same_count_fewer (event.Read port byte) before next c d (tells c.left) h
  turn_fewer (turn.Event (event.Write port byte)) before next c d tells h = same_count_fewer (event.Write port byte) before next c d (tells c.left) h
  turn_fewer turn.Ended before next c d tells h = absurd cc
  turn_fewer (turn.Fault k) before next c d tells h = absurd cc
