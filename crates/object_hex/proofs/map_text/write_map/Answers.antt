use Rattle.std.proofs.Common.{List, ℕ, subst}
use Rattle.cerco_base.proofs.Putting.{SoFar, begun, all_put}
use Rattle.cerco_base.proofs.PuttingPieces.{piece_put, piece_failed}
use Rattle.object_hex.specs.MapText.{map_text}
use Rattle.object_hex.proofs.Loops.{labels_next, labels_end}
use Rattle.object_hex.proofs.map_text.write_map.Goals as goal

pub loop-label-init : goal.loop-label-init
loop-label-init g c = begun _ _

pub returns-in_err-put_label : goal.returns-in_err-put_label
returns-in_err-put_label g c =
    let Left : List ℕ → Type 0 = λ rest. SoFar (g.O.Sink.state c.args.out.now) (g.O.Sink.state c.loop-label.out) (map_text c.args.labels.now) rest in
    piece_failed _ _ _ _ _ _ _ _ (subst Left (labels_next c.args.labels.now c.loop-label.label 0 c.loop-label-test.true) c.loop-label.invariant) c.in_err-put_label.ensures c.from_residual.ensures.1

pub loop-label-preserved : goal.loop-label-preserved
loop-label-preserved g c =
    let Left : List ℕ → Type 0 = λ rest. SoFar (g.O.Sink.state c.args.out.now) (g.O.Sink.state c.loop-label.out) (map_text c.args.labels.now) rest in
    piece_put _ _ _ _ _ _ _ (subst Left (labels_next c.args.labels.now c.loop-label.label 0 c.loop-label-test.true) c.loop-label.invariant) c.in_ok-put_label.ensures

pub returns : goal.returns
returns g c =
    let Left : List ℕ → Type 0 = λ rest. SoFar (g.O.Sink.state c.args.out.now) (g.O.Sink.state c.loop-label.out) (map_text c.args.labels.now) rest in
    all_put _ _ _ _ (subst Left (labels_end c.args.labels.now c.loop-label.label c.loop-label-test.false) c.loop-label.invariant)
