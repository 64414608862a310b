use Rattle.cerco_base.proofs.Putting.{begun}
use Rattle.cerco_base.proofs.PuttingPieces.{piece_put, last_put, piece_failed}
use Rattle.cerco_command.proofs.printing.put_uncosted.Goals as goal

pub returns-in_err-put_all : goal.returns-in_err-put_all
returns-in_err-put_all g c = piece_failed _ _ _ _ _ _ _ _ (begun _ _) c.in_err-put_all.ensures c.from_residual.ensures.1

pub returns-in_err-put_all-2 : goal.returns-in_err-put_all-2
returns-in_err-put_all-2 g c =
    let word = piece_put _ _ _ _ _ _ _ (begun _ _) c.in_ok-put_all.ensures in
    piece_failed _ _ _ _ _ _ _ _ word c.in_err-put_all-2.ensures c.from_residual-in_err-put_all-2.ensures.1

pub returns-in_err-put_all-3 : goal.returns-in_err-put_all-3
returns-in_err-put_all-3 g c =
    let word = piece_put _ _ _ _ _ _ _ (begun _ _) c.in_ok-put_all.ensures in
    let name = piece_put _ _ _ _ _ _ _ word c.in_ok-put_all-2.ensures in
    piece_failed _ _ _ _ _ _ _ _ name c.in_err-put_all-3.ensures c.from_residual-in_err-put_all-3.ensures.1

pub returns : goal.returns
returns g c =
    let word = piece_put _ _ _ _ _ _ _ (begun _ _) c.in_ok-put_all.ensures in
    let name = piece_put _ _ _ _ _ _ _ word c.in_ok-put_all-2.ensures in
    let blank = piece_put _ _ _ _ _ _ _ name c.in_ok-put_all-3.ensures in
    last_put _ _ _ _ _ _ blank c.put_fault.ensures
