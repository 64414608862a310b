use Rattle.std.proofs.Common.{◌≡◌, decimal, ◌∙◌}
use Rattle.cerco_base.proofs.Putting.{begun}
use Rattle.cerco_base.proofs.PuttingPieces.{piece_put, last_put, piece_failed}
use Rattle.object_hex.proofs.map_text.put_label.Goals as goal

pub returns-in_err-put_all : goal.returns-in_err-put_all
returns-in_err-put_all g c =
    let digits : c.as_bytes.result.now ≡ decimal c.args.label = c.as_bytes.ensures.value ∙ c.format.ensures.text in
    rw (← digits) (piece_failed _ _ _ _ _ _ _ _ (begun _ _) c.in_err-put_all.ensures c.from_residual.ensures.1)

pub returns-in_err-put_all-2 : goal.returns-in_err-put_all-2
returns-in_err-put_all-2 g c =
    let digits : c.as_bytes.result.now ≡ decimal c.args.label = c.as_bytes.ensures.value ∙ c.format.ensures.text in
    let number = piece_put _ _ _ _ _ _ _ (begun _ _) c.in_ok-put_all.ensures in
    rw (← digits) (piece_failed _ _ _ _ _ _ _ _ number c.in_err-put_all-2.ensures c.from_residual-in_err-put_all-2.ensures.1)

pub returns-in_err-put_pairs : goal.returns-in_err-put_pairs
returns-in_err-put_pairs g c =
    let digits : c.as_bytes.result.now ≡ decimal c.args.label = c.as_bytes.ensures.value ∙ c.format.ensures.text in
    let number = piece_put _ _ _ _ _ _ _ (begun _ _) c.in_ok-put_all.ensures in
    let blank = piece_put _ _ _ _ _ _ _ number c.in_ok-put_all-2.ensures in
    rw (← digits) (piece_failed _ _ _ _ _ _ _ _ blank c.in_err-put_pairs.ensures c.from_residual-in_err-put_pairs.ensures.1)

pub returns : goal.returns
returns g c =
    let digits : c.as_bytes.result.now ≡ decimal c.args.label = c.as_bytes.ensures.value ∙ c.format.ensures.text in
    let number = piece_put _ _ _ _ _ _ _ (begun _ _) c.in_ok-put_all.ensures in
    let blank = piece_put _ _ _ _ _ _ _ number c.in_ok-put_all-2.ensures in
    let address = piece_put _ _ _ _ _ _ _ blank c.in_ok-put_pairs.ensures in
    rw (← digits) (last_put _ _ _ _ _ _ address c.put_all-3.ensures)
