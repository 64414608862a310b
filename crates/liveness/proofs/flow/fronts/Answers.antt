use Rattle.std.proofs.Common.{◌≡◌, ℕ, ◌<◌, [], ◌∷◌, ◌++◌, length, map, take, slice_index_or, sym, ap, ◌∙◌, arith}
use Rattle.std.proofs.lemmas.Grind.{common_steps}
use Rattle.std.proofs.lemmas.List.{map_more}
use Rattle.liveness.specs.Code.Points.{front}
use Rattle.liveness.proofs.Lists.{in_at, read_is}
use Rattle.liveness.proofs.flow.fronts.Goals as goal

pub index-requires : goal.index-requires
index-requires c =
    let lt : slice_index_or c.args.nodes.now c.loop-q.q-index 0 < length c.args.points.now.fronts.items = c.requires _ (in_at c.args.nodes.now c.loop-q.q-index 0 c.loop-q-test.true) in
    grind (arith, common_steps)

pub loop-q-preserved : goal.loop-q-preserved
loop-q-preserved c =
    let nodes = c.args.nodes.now in
    let k = c.loop-q.q-index in
    let q : ℕ = slice_index_or nodes k 0 in
    let lt : q < length c.args.points.now.fronts.items = c.requires _ (in_at nodes k 0 c.loop-q-test.true) in
    let same : front c.args.points.now q ≡ c.index.result.now = read_is c.args.points.now.fronts.items q c.index.result.now 0 lt c.index.ensures in
    c.in_ok-push.ensures.items
    ∙ ap (λ z. z ++ c.index.result.now ∷ []) c.loop-q.invariant
    ∙ ap (λ v. map (front c.args.points.now) (take k nodes) ++ v ∷ []) (sym same)
    ∙ sym (map_more (front c.args.points.now) nodes k 0 c.loop-q-test.true)
