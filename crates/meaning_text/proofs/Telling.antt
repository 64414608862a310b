-- What is put of the text of a meaning while it is told.
use Rattle.std.proofs.Common.{◌≡◌, ℕ, zero, suc, ◌+◌, ◌*◌, ◌-◌, ◌^◌, ◌<◌, List, [], ◌++◌, length, Option, Some, None, Result, Err, IsErrAnd, sym, ap, subst, ◌∙◌, arith, append_assoc, append-nil, length-append}
use Rattle.cerco_base.specs.Outside.IoStates.{SinkState}
use Rattle.cerco_base.specs.Outside.IoCalls.{PutsText}
use Rattle.cerco_base.specs.declared.outside.faults.IoFault.{IoFault}
use Rattle.cerco_base.specs.declared.outside.faults.IoFault.TheVariants as Io
use Rattle.cerco_base.specs.declared.events.Event.TheVariants as event
use Rattle.cerco_base.proofs.Putting.{SoFar, begun}
use Rattle.cerco_base.proofs.PuttingPieces.{last_put, piece_failed}
use Rattle.clight_syntax.specs.Annotations.{Costs, cost_of}
use Rattle.clight_meaning.specs.Budgets.{events_told}
use Rattle.clight_meaning.specs.declared.evaluator.Evaluator.{Evaluator}
use Rattle.clight_meaning.specs.declared.turn.Turn.{Turn}
use Rattle.clight_meaning.specs.declared.turn.Turn.TheVariants as turn
use Rattle.clight_meaning.specs.Code.Turns.{rest, Tells, labels_told}
use Rattle.printed_lines.specs.Pieces.{PutsFront}
use Rattle.printed_lines.proofs.Fronts.{front_put}
use Rattle.meaning_text.specs.Text.{text_from, meaning_text}
use Rattle.meaning_text.specs.Code.Counting.{turn_line, passed, count_after}
use Rattle.meaning_text.specs.declared.Count.{Count}
use Rattle.meaning_text.proofs.Steps.{text_some, text_left, turn_told, turn_fewer, some_left}

-- there is no memory for the rest of a text
pub out_of_memory : {T : Type 0} (o p : SinkState) (whole rest : List ℕ) → SoFar o p whole rest → 0 < length rest → PutsText {T = T} o p whole (Err Io.OutOfMemory)
out_of_memory o p whole rest a some =
    let size : length whole ≡ length a.front + length rest = ap length (sym a.whole) ∙ length-append a.front rest in
    record {
      keeps = a.keeps;
      cause = record { later = a.keeps.later; rose = λ h. absurd cc; named = λ h. absurd cc };
      whole = tt;
      front = (a.front, rest, a.whole, a.added);
      some = omega arith;
    }

longer_front : (o p : SinkState) (before after more : List ℕ) → PutsFront o p before after → PutsFront o p (before ++ more) (after ++ more)
longer_front o p before after more f =
    record {
      keeps = f.keeps;
      front = f.front;
      whole = sym (append_assoc f.front after more) ∙ ap (λ (l : List ℕ). l ++ more) f.whole;
      added = f.added;
    }

module _ (costs : Costs) (whole : List ℕ) (limit : ℕ) where
  -- what is put of the whole text, what is pending, and what is left to tell; how many labels are left, and that the cost stays small
  pub record Told (o p : SinkState) (e : Evaluator) (c : Count) (pending : List ℕ) : Type 0 where
    pub so_far : SoFar o p whole (pending ++ text_from costs c.cost (rest e c.left))
    pub labels : e.labels + c.left ≡ limit
    pub small : c.cost + c.left * (2 ^ 32 - 1) < 2 ^ 64

  left_some : (c : Count) (e : Evaluator) (pending : List ℕ) → 0 < length (pending ++ text_from costs c.cost (rest e c.left))
  left_some c e pending =
      let text = text_from costs c.cost (rest e c.left) in
      let some = text_some costs c.cost (rest e c.left) in
      let size = length-append pending text in
      omega arith

  -- there is no memory to go on
  pub cannot_go_on : {T : Type 0} (o p : SinkState) (e : Evaluator) (c : Count) (pending : List ℕ) → Told o p e c pending → PutsText {T = T} o p whole (Err Io.OutOfMemory)
  cannot_go_on o p e c pending a = out_of_memory o p whole (pending ++ text_from costs c.cost (rest e c.left)) a.so_far (left_some c e pending)

  -- the line of a turn is pending
  line_pending : (o p : SinkState) (e f : Evaluator) (t : Turn) (c : Count) (pending longer : List ℕ) → Told o p e c pending → Tells t (rest e) (rest f) → longer ≡ pending ++ turn_line t c → SoFar o p whole (longer ++ text_left costs (count_after costs t c) (rest f))
  line_pending o p e f t c pending longer a tells is =
      let left = text_left costs (count_after costs t c) (rest f) in
      let same : pending ++ text_from costs c.cost (rest e c.left) ≡ longer ++ left =
      ap (λ (l : List ℕ). pending ++ l) (turn_told costs t (rest e) (rest f) c tells) ∙ (sym (append_assoc pending (turn_line t c) left) ∙ ap (λ (l : List ℕ). l ++ left) (sym is)) in
      let P : List ℕ → Type 0 = λ l. SoFar o p whole l in
      subst P same a.so_far

  -- the run stops, and what is pending is put
  pub stopped : {T : Type 0} (o p q : SinkState) (e f : Evaluator) (t : Turn) (c : Count) (pending longer : List ℕ) (r : Result T IoFault) → Told o p e c pending → Tells t (rest e) (rest f) → longer ≡ pending ++ turn_line t c → None ≡ count_after costs t c → PutsText p q longer r → PutsText o q whole r
  stopped o p q e f t c pending longer r a tells is none puts =
      let P : List ℕ → Type 0 = λ l. SoFar o p whole l in
      let Q : Option Count → Type 0 = λ n. SoFar o p whole (longer ++ text_left costs n (rest f)) in
      last_put o p q whole longer r (subst P (append-nil longer) (subst Q (sym none) (line_pending o p e f t c pending longer a tells is))) puts

  still_left : (o p : SinkState) (e f : Evaluator) (t : Turn) (c d : Count) (pending longer : List ℕ) → Told o p e c pending → Tells t (rest e) (rest f) → longer ≡ pending ++ turn_line t c → Some d ≡ count_after costs t c → SoFar o p whole (longer ++ text_from costs d.cost (rest f d.left))
  still_left o p e f t c d pending longer a tells is some =
      let Q : Option Count → Type 0 = λ n. SoFar o p whole (longer ++ text_left costs n (rest f)) in
      subst Q (sym some) (line_pending o p e f t c pending longer a tells is)

  -- what is pending couldn't be put
  pub front_lost : {X Y : Type 0} (o p q : SinkState) (e f : Evaluator) (t : Turn) (c d : Count) (pending longer : List ℕ) (fault : IoFault) (r : Result Y IoFault) → Told o p e c pending → Tells t (rest e) (rest f) → longer ≡ pending ++ turn_line t c → Some d ≡ count_after costs t c → PutsText {T = X} p q longer (Err fault) → IsErrAnd r (λ y. y ≡ fault) → PutsText o q whole r
  front_lost o p q e f t c d pending longer fault r a tells is some puts same =
      piece_failed o p q whole longer (text_from costs d.cost (rest f d.left)) fault r (still_left o p e f t c d pending longer a tells is some) puts same

  passed_labels : (left cost : ℕ) (d : Count) → passed left cost ≡ Some d → left ≡ suc d.left
  passed_labels zero cost d h = absurd cc
  passed_labels (suc left) cost d h = ap (λ (o : Option Count). suc (some_left costs o d).left) h

  same_left : (c d : Count) → Some c ≡ Some d → c.left ≡ d.left
  same_left c d h = ap (λ (o : Option Count). (some_left costs o d).left) h

  labels_left : (t : Turn) (c d : Count) → count_after costs t c ≡ Some d → c.left ≡ labels_told t + d.left
  labels_left (turn.Event (event.Label l)) c d h = let one = passed_labels c.left (c.cost + cost_of costs l) d h in omega arith
  labels_left (turn.Event (event.Read port byte)) c d h = let same = same_left c d h in omega arith
  labels_left (turn.Event (event.Write port byte)) c d h = let same = same_left c d h in omega arith
  labels_left turn.Ended c d h = absurd cc
  labels_left (turn.Fault k) c d h = absurd cc

  -- the run goes on, and a front of what is pending is put
  pub goes_on : (o p q : SinkState) (e f : Evaluator) (t : Turn) (c d : Count) (pending longer after : List ℕ) → Told o p e c pending → Tells t (rest e) (rest f) → f.labels ≡ e.labels + labels_told t → longer ≡ pending ++ turn_line t c → Some d ≡ count_after costs t c → d.cost + d.left * (2 ^ 32 - 1) < 2 ^ 64 → PutsFront p q longer after → Told o q f d after
  goes_on o p q e f t c d pending longer after a tells counted is some small front =
      let text = text_from costs d.cost (rest f d.left) in
      let fewer = labels_left t c d (sym some) in
      let all = a.labels in
      record {
        so_far = front_put o p q whole (longer ++ text) (after ++ text) (still_left o p e f t c d pending longer a tells is some) (longer_front p q longer after text front);
        labels = omega arith;
        small = small;
      }

  -- fewer events are left to tell
  pub fewer : (e f : Evaluator) (t : Turn) (c d : Count) → Tells t (rest e) (rest f) → Some d ≡ count_after costs t c → length (events_told (rest f d.left)) < length (events_told (rest e c.left))
  fewer e f t c d tells some = turn_fewer costs t (rest e) (rest f) c d tells (sym some)

-- nothing is told yet
pub nothing_told : (costs : Costs) (limit : ℕ) (o : SinkState) (e : Evaluator) (c : Count) (pending : List ℕ) → pending ≡ [] → e.labels ≡ 0 → c.left ≡ limit → c.cost ≡ costs.start → costs.start < 2 ^ 32 → limit < 2 ^ 32 → Told costs (meaning_text costs (rest e limit)) limit o o e c pending
nothing_told costs limit o e c pending none zero_labels left_is cost_is start_small limit_small =
    let whole = meaning_text costs (rest e limit) in
    let same : whole ≡ pending ++ text_from costs c.cost (rest e c.left) =
    ap (λ (n : ℕ). text_from costs n (rest e limit)) (sym cost_is) ∙ (ap (λ (n : ℕ). text_from costs c.cost (rest e n)) (sym left_is) ∙ ap (λ (l : List ℕ). l ++ text_from costs c.cost (rest e c.left)) (sym none)) in
    let P : List ℕ → Type 0 = λ l. SoFar o o whole l in
    record {
      so_far = subst P same (begun o whole);
      labels = omega arith;
      small = omega arith;
    }
