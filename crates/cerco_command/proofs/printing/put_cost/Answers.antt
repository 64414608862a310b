use Rattle.cerco_base.proofs.Putting.{begun}
use Rattle.cerco_base.proofs.PuttingPieces.{piece_put, last_put, piece_failed}
use Rattle.cerco_command.proofs.printing.put_cost.Goals as goal

pub returns-in_err-put_all : goal.returns-in_err-put_all
returns-in_err-put_all g c = piece_failed _ _ _ _ _ _ _ _ (begun _ _) c.in_err-put_all.ensures c.from_residual.ensures.1

pub returns : goal.returns
returns g c =
    let name = piece_put _ _ _ _ _ _ _ (begun _ _) c.in_ok-put_all.ensures in
    last_put _ _ _ _ _ _ name c.put_count.ensures
