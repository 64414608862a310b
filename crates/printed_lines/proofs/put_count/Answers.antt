use Rattle.std.proofs.Common.{codes, decimal, sym, append_assoc}
use Rattle.cerco_base.proofs.PuttingPieces.{begun_as, piece_put, last_put, piece_failed}
use Rattle.printed_lines.specs.Lines.{line_about}
use Rattle.printed_lines.proofs.put_count.Goals as goal

pub returns-in_err-put_number : goal.returns-in_err-put_number
returns-in_err-put_number g c =
    let whole = sym (append_assoc c.args.word.now (decimal c.args.number) (codes "\n")) in
    piece_failed _ _ _ _ _ _ _ _ (begun_as _ (line_about c.args.word.now (decimal c.args.number)) _ whole) c.in_err-put_number.ensures c.from_residual.ensures.1

pub returns : goal.returns
returns g c =
    let whole = sym (append_assoc c.args.word.now (decimal c.args.number) (codes "\n")) in
    let number = piece_put _ _ _ _ _ _ _ (begun_as _ (line_about c.args.word.now (decimal c.args.number)) _ whole) c.in_ok-put_number.ensures in
    last_put _ _ _ _ _ _ number c.put_all.ensures
