use Rattle.cerco_base.proofs.PuttingPieces.{piece_put, last_put, piece_failed}
use Rattle.annotate.proofs.Progress.{still_to_put}
use Rattle.annotate.proofs.erasing.erase.Goals as goal

pub returns-in_err-put_all : goal.returns-in_err-put_all
returns-in_err-put_all g c =
    piece_failed _ _ _ _ _ _ _ _ (still_to_put _ _ _ _ _ c.in-Some.ensures.text c.loop-cut.invariant) c.in_err-put_all.ensures c.from_residual.ensures.1

pub loop-cut-preserved : goal.loop-cut-preserved
loop-cut-preserved g c = piece_put _ _ _ _ _ _ _ (still_to_put _ _ _ _ _ c.in-Some.ensures.text c.loop-cut.invariant) c.in_ok-put_all.ensures

pub returns : goal.returns
returns g c = last_put _ _ _ _ _ _ (still_to_put _ _ _ _ _ c.in_default.ensures.text c.loop-cut.invariant) c.put_all-2.ensures
