use Rattle.std.proofs.Common.{ℕ, ◌*◌, List, length, subst}
use Rattle.std.specs.Int.{div_ceil}
use Rattle.cerco_base.proofs.Putting.{SoFar}
use Rattle.cerco_base.proofs.PuttingPieces.{piece_put, last_put, piece_failed}
use Rattle.object_hex.specs.HexText.{data_line, end_line, hex_text}
use Rattle.object_hex.proofs.Loops.{lines_next, lines_end, take-up_to}
use Rattle.object_hex.proofs.hex_text.write_hex.Goals as goal

pub returns-in_err-put_record : goal.returns-in_err-put_record
returns-in_err-put_record g c =
    let code = c.args.code.now in
    let Left : List ℕ → Type 0 = λ rest. SoFar (g.O.Sink.state c.args.out.now) (g.O.Sink.state c.loop-i.out) (hex_text code) rest in
    let next = lines_next (data_line code) c.loop-i.i (div_ceil (length code) 16) end_line (rw c.div_ceil-i-end.ensures at c.loop-i-test.true) in
    let bytes = take-up_to code (16 * c.loop-i.i) c.min-to.result c.min-to.ensures in
    piece_failed _ _ _ _ _ _ _ _ (subst Left next c.loop-i.invariant) (rw bytes at c.in_err-put_record.ensures) c.from_residual.ensures.1

pub loop-i-preserved : goal.loop-i-preserved
loop-i-preserved g c =
    let code = c.args.code.now in
    let Left : List ℕ → Type 0 = λ rest. SoFar (g.O.Sink.state c.args.out.now) (g.O.Sink.state c.loop-i.out) (hex_text code) rest in
    let next = lines_next (data_line code) c.loop-i.i (div_ceil (length code) 16) end_line (rw c.div_ceil-i-end.ensures at c.loop-i-test.true) in
    let bytes = take-up_to code (16 * c.loop-i.i) c.min-to.result c.min-to.ensures in
    piece_put _ _ _ _ _ _ _ (subst Left next c.loop-i.invariant) (rw bytes at c.in_ok-put_record.ensures)

pub returns : goal.returns
returns g c =
    let code = c.args.code.now in
    let Left : List ℕ → Type 0 = λ rest. SoFar (g.O.Sink.state c.args.out.now) (g.O.Sink.state c.loop-i.out) (hex_text code) rest in
    let last = lines_end (data_line code) c.loop-i.i (div_ceil (length code) 16) end_line (rw c.div_ceil-i-end.ensures at c.loop-i-test.false) in
    last_put _ _ _ _ _ _ (subst Left last c.loop-i.invariant) c.put_record-2.ensures
