use Rattle.std.proofs.Common.{◌+◌, ◌-◌, ◌∷◌, take, ap, sym, ◌∙◌, arith}
use Rattle.std.proofs.lemmas.List.{take_rest}
use Rattle.object_hex.specs.Lines.{lines}
use Rattle.object_hex.proofs.Splits.{lines-past, lines-whole, lines-with_cr, lines-without_cr}
use Rattle.object_hex.proofs.reading.line.split_line.Goals.{else-end-gt0-via-then-end-gt0+else-text-end-eq-CARRIAGE_RETURN, else-end-gt0-via-else-end-gt0}
use Rattle.object_hex.proofs.reading.line.split_line.Goals as goal

pub returns-then-end-text-clause-split : goal.returns-then-end-text-clause-split
returns-then-end-text-clause-split c =
    let text = c.args.text.now in
    let end = c.before_feed-end.result in
    let whole = c.if-end-text.true in
    lines-whole text c.requires (λ place within. c.before_feed-end.ensures.first place (omega arith))
    ∙ ap (λ behind. text ∷ behind) (sym (lines-past text end whole))

pub returns-then-text-end-eq-CARRIAGE_RETURN-clause-split : goal.returns-then-text-end-eq-CARRIAGE_RETURN-clause-split
returns-then-text-end-eq-CARRIAGE_RETURN-clause-split c =
    let text = c.args.text.now in
    let end = c.before_feed-end.result in
    lines-with_cr text (end - 1) end (omega arith) (omega arith) c.before_feed-end.ensures.first (c.before_feed-end.ensures.found (omega arith)) c.if-text-end-eq-CARRIAGE_RETURN.true
    ∙ ap (λ behind. take (end - 1) text ∷ lines behind) (sym (take_rest text (end + 1)))

pub returns-clause-split : goal.returns-clause-split
returns-clause-split c =
    let text = c.args.text.now in
    let end = c.before_feed-end.result in
    let behind = ap (λ rest. take end text ∷ lines rest) (sym (take_rest text (end + 1))) in
    let found = c.before_feed-end.ensures.found (omega arith) in
    elim c.else-end-gt0.branch [
      | else-end-gt0-via-then-end-gt0+else-text-end-eq-CARRIAGE_RETURN w ↦
          lines-without_cr text end (omega arith) c.before_feed-end.ensures.first found (λ _. w.if-text-end-eq-CARRIAGE_RETURN.false) ∙ behind
      | else-end-gt0-via-else-end-gt0 w ↦
          lines-without_cr text end (omega arith) c.before_feed-end.ensures.first found (λ some. absurd (omega arith)) ∙ behind
    ]
