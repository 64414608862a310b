use Rattle.cerco_base.proofs.PuttingPieces.{begun_as, piece_put, last_put, piece_failed}
use Rattle.object_hex.proofs.Lines.{record_line-pieces}
use Rattle.object_hex.proofs.hex_text.put_record.Goals as goal

pub returns-in_err-put_all : goal.returns-in_err-put_all
returns-in_err-put_all g c =
    let line = record_line-pieces c.args.kind c.args.offset c.args.data.now in
    piece_failed _ _ _ _ _ _ _ _ (begun_as _ _ _ line) c.in_err-put_all.ensures c.from_residual.ensures.1

pub returns-in_err-put_pairs : goal.returns-in_err-put_pairs
returns-in_err-put_pairs g c =
    let line = record_line-pieces c.args.kind c.args.offset c.args.data.now in
    let mark = piece_put _ _ _ _ _ _ _ (begun_as _ _ _ line) c.in_ok-put_all.ensures in
    piece_failed _ _ _ _ _ _ _ _ mark c.in_err-put_pairs.ensures c.from_residual-in_err-put_pairs.ensures.1

pub returns-in_err-put_pairs-2 : goal.returns-in_err-put_pairs-2
returns-in_err-put_pairs-2 g c =
    let line = record_line-pieces c.args.kind c.args.offset c.args.data.now in
    let mark = piece_put _ _ _ _ _ _ _ (begun_as _ _ _ line) c.in_ok-put_all.ensures in
    let head = piece_put _ _ _ _ _ _ _ mark c.in_ok-put_pairs.ensures in
    piece_failed _ _ _ _ _ _ _ _ head c.in_err-put_pairs-2.ensures c.from_residual-in_err-put_pairs-2.ensures.1

pub returns-in_err-put_pairs-3 : goal.returns-in_err-put_pairs-3
returns-in_err-put_pairs-3 g c =
    let line = record_line-pieces c.args.kind c.args.offset c.args.data.now in
    let mark = piece_put _ _ _ _ _ _ _ (begun_as _ _ _ line) c.in_ok-put_all.ensures in
    let head = piece_put _ _ _ _ _ _ _ mark c.in_ok-put_pairs.ensures in
    let bytes = piece_put _ _ _ _ _ _ _ head c.in_ok-put_pairs-2.ensures in
    piece_failed _ _ _ _ _ _ _ _ bytes (rw c.checksum_of.ensures.value at c.in_err-put_pairs-3.ensures) c.from_residual-in_err-put_pairs-3.ensures.1

pub returns : goal.returns
returns g c =
    let line = record_line-pieces c.args.kind c.args.offset c.args.data.now in
    let mark = piece_put _ _ _ _ _ _ _ (begun_as _ _ _ line) c.in_ok-put_all.ensures in
    let head = piece_put _ _ _ _ _ _ _ mark c.in_ok-put_pairs.ensures in
    let bytes = piece_put _ _ _ _ _ _ _ head c.in_ok-put_pairs-2.ensures in
    let sum = piece_put _ _ _ _ _ _ _ bytes (rw c.checksum_of.ensures.value at c.in_ok-put_pairs-3.ensures) in
    last_put _ _ _ _ _ _ sum c.put_all-2.ensures
