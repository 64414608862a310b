use Rattle.std.proofs.Common.{◌≡◌, decimal, ◌∙◌}
use Rattle.cerco_base.proofs.Putting.{begun}
use Rattle.cerco_base.proofs.PuttingPieces.{piece_put, last_put, piece_failed}
use Rattle.printed_lines.proofs.put_number.Goals as goal

pub returns-in_err-put_all : goal.returns-in_err-put_all
returns-in_err-put_all g c = rw (← c.as_bytes.ensures.value) (piece_failed _ _ _ _ _ _ _ _ (begun _ _) c.in_err-put_all.ensures c.from_residual.ensures.1)

pub returns : goal.returns
returns g c =
    let digits : c.as_bytes-2.result.now ≡ decimal c.args.number = c.as_bytes-2.ensures.value ∙ c.format.ensures.text in
    let word = piece_put _ _ _ _ _ _ _ (begun _ _) c.in_ok-put_all.ensures in
    rw (← c.as_bytes.ensures.value, ← digits) (last_put _ _ _ _ _ _ word c.put_all-2.ensures)
