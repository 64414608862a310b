use Rattle.std.proofs.Common.{◌≡◌, sym, ◌∙◌, ap, arith, decimal}
use Rattle.std.proofs.lemmas.Fmt.{parse-decimal}
use Rattle.cerco_command.proofs.PortTexts.{unequal}
use Rattle.cerco_command.proofs.words.read_limit.Goals as goal
use Rattle.cerco_command.proofs.words.read_limit.Goals.{then-ne-via-then-ne, then-ne-via-else-ne+then-limit-gt-MOST_CYCLES}

pub returns-in_default : goal.returns-in_default
returns-in_default c = λ n small e.
    let gives = parse-decimal 32 n c.args.word.now c.parse.result (omega arith) (omega arith) e c.parse.ensures.value.0 in cc

pub returns-then-ne : goal.returns-then-ne
returns-then-ne c = λ n small e.
    let gives = parse-decimal 32 n c.args.word.now c.parse.result (omega arith) (omega arith) e c.parse.ensures.value.0 in
    let value : c.in-Ok.limit ≡ n = cc in
    elim c.then-ne.branch [
      | then-ne-via-then-ne w ↦
          unequal c.format.result.now c.args.word.now (sym w.if-ne.true ∙ c.ne.ensures) (c.format.ensures.text ∙ (ap decimal value ∙ sym e))
      | then-ne-via-else-ne+then-limit-gt-MOST_CYCLES w ↦ omega arith
    ]
