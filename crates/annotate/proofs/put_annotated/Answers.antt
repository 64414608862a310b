use Rattle.std.proofs.Common.{rules, ◌≤◌, length}
use Rattle.clight_syntax.specs.declared.points.Piece.TheVariants.{Start}
use Rattle.clight_syntax.specs.declared.points.Point.{Point}
use Rattle.cerco_base.proofs.PuttingPieces.{piece_put, piece_failed}
use Rattle.annotate.proofs.Progress.{nothing_put, at_point, point_put, rest_put}
use Rattle.annotate.proofs.put_annotated.Goals as goal

abbrev no_point : Point
no_point = record { at = 0; piece = Start }

pub loop-point-init : goal.loop-point-init
loop-point-init g c = nothing_put _ _ _ _ c.requires.ordered

pub slice_bounds-put_all-count : goal.slice_bounds-put_all-count
slice_bounds-put_all-count g c =
    let p = at_point _ _ _ _ _ _ _ no_point c.loop-point-test.true c.loop-point.invariant in
    p.behind

pub slice_bounds-put_all-end : goal.slice_bounds-put_all-end
slice_bounds-put_all-end g c =
    let p = at_point _ _ _ _ _ _ _ no_point c.loop-point-test.true c.loop-point.invariant in
    let behind : _ ≤ _ = p.behind in
    let within : _ ≤ length c.args.source.now = p.within in
    search rules

pub returns-in_err-put_all : goal.returns-in_err-put_all
returns-in_err-put_all g c =
    let p = at_point _ _ _ _ _ _ _ no_point c.loop-point-test.true c.loop-point.invariant in
    piece_failed _ _ _ _ _ _ _ _ p.put c.in_err-put_all.ensures c.from_residual.ensures.1

pub returns-in_err-put_piece : goal.returns-in_err-put_piece
returns-in_err-put_piece g c =
    let p = at_point _ _ _ _ _ _ _ no_point c.loop-point-test.true c.loop-point.invariant in
    piece_failed _ _ _ _ _ _ _ _ (piece_put _ _ _ _ _ _ _ p.put c.in_ok-put_all.ensures) c.in_err-put_piece.ensures c.from_residual-in_err-put_piece.ensures.1

pub loop-point-preserved : goal.loop-point-preserved
loop-point-preserved g c =
    let p = at_point _ _ _ _ _ _ _ no_point c.loop-point-test.true c.loop-point.invariant in
    point_put _ _ _ _ _ _ _ _ _ _ p c.in_ok-put_all.ensures c.in_ok-put_piece.ensures

pub returns : goal.returns
returns g c = rest_put _ _ _ _ _ _ _ _ _ c.loop-point-test.false c.loop-point.invariant c.put_all-2.ensures
