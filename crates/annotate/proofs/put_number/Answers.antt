use Rattle.std.proofs.Common.{◌≡◌, decimal, ◌∙◌}
use Rattle.cerco_base.proofs.Putting.{begun}
use Rattle.cerco_base.proofs.PuttingPieces.{piece_put, last_put, piece_failed}
use Rattle.annotate.proofs.put_number.Goals as goal

pub returns-in_err-put_all : goal.returns-in_err-put_all
returns-in_err-put_all g c = piece_failed _ _ _ _ _ _ _ _ (begun _ _) c.in_err-put_all.ensures c.from_residual.ensures.1

pub returns-in_err-put_all-2 : goal.returns-in_err-put_all-2
returns-in_err-put_all-2 g c =
    let digits : c.as_bytes.result.now ≡ decimal c.args.number = c.as_bytes.ensures.value ∙ c.format.ensures.text in
    rw (← digits) (piece_failed _ _ _ _ _ _ _ _ (piece_put _ _ _ _ _ _ _ (begun _ _) c.in_ok-put_all.ensures) c.in_err-put_all-2.ensures c.from_residual-in_err-put_all-2.ensures.1)

pub returns : goal.returns
returns g c =
    let digits : c.as_bytes.result.now ≡ decimal c.args.number = c.as_bytes.ensures.value ∙ c.format.ensures.text in
    rw (← digits) (last_put _ _ _ _ _ _ (piece_put _ _ _ _ _ _ _ (piece_put _ _ _ _ _ _ _ (begun _ _) c.in_ok-put_all.ensures) c.in_ok-put_all-2.ensures) c.put_all-3.ensures)
