use Rattle.std.proofs.Common.{slice_index}
use Rattle.cerco_base.proofs.PuttingPieces.{begun_as, piece_put, last_put, piece_failed}
use Rattle.annotate.proofs.PieceTexts.{two_numbers}
use Rattle.annotate.proofs.put_both.Goals as goal

pub returns-in_err-put_cost : goal.returns-in_err-put_cost
returns-in_err-put_cost g c =
    piece_failed _ _ _ _ _ _ _ _ (begun_as _ _ _ (two_numbers (slice_index c.args.costs.now c.args.on_true.0) (slice_index c.args.costs.now c.args.on_false.0))) c.in_err-put_cost.ensures c.from_residual.ensures.1

pub returns : goal.returns
returns g c =
    last_put _ _ _ _ _ _ (piece_put _ _ _ _ _ _ _ (begun_as _ _ _ (two_numbers (slice_index c.args.costs.now c.args.on_true.0) (slice_index c.args.costs.now c.args.on_false.0))) c.in_ok-put_cost.ensures) c.put_cost-2.ensures
