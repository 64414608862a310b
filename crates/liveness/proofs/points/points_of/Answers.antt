use Rattle.std.proofs.Common.{◌≡◌, ℕ, ◌+◌, ◌<◌, List, [], ◌∷◌, ◌++◌, length, Some, slice_get, refl, sym, ap, ◌∙◌, arith}
use Rattle.std.proofs.lemmas.Grind.{common_steps}
use Rattle.std.proofs.lemmas.Option.{slice_get_read}
use Rattle.rtl.specs.declared.locations.Vreg.{Vreg}
use Rattle.rtl.specs.declared.graphs.Node.{Node as WrittenNode}
use Rattle.liveness.specs.declared.points.Point.{Point}
use Rattle.liveness.specs.Code.Views.{numbered_graph}
use Rattle.liveness.specs.Code.Points.{count, node_points}
use Rattle.liveness.proofs.Nodes.{ops_long}
use Rattle.liveness.proofs.Numbering.{points_more}
use Rattle.liveness.proofs.points.points_of.Goals as goal

pub loop-p-preserved : goal.loop-p-preserved
loop-p-preserved c =
    let g = c.args.graph.now in
    let points = c.loop-p.points in
    let p = c.loop-p.p in
    let nodes = c.as_slice.result.now in
    let same = c.as_slice.ensures in
    let node = c.index-as_slice-p.result in
    let below : p < length nodes = grind (arith, common_steps) in
    let found : slice_get g.nodes p ≡ Some node = ap (λ z. slice_get z p) (sym same) ∙ slice_get_read nodes (length nodes) p node refl below c.index-as_slice-p.is in
    let ops = c.as_slice-in-loop-p.ensures ∙ ap (λ (z : WrittenNode Vreg). z.ops) (sym c.index-as_slice-p.is) in
    let l : c.len.result ≡ count points = grind (arith, common_steps) in
    points_more (numbered_graph g) p (length node.ops) points (record { places = c.add_points.new.places; fronts = c.push.new.self }) c.loop-p.invariant
    (◌∙◌ {A = List ℕ} c.in_ok-push.ensures.items (ap (λ z. points.fronts.items ++ z ∷ []) l))
    (◌∙◌ {A = List Point} c.in_ok-add_points.ensures (ap (λ z. points.places.items ++ node_points p (length z + 1)) ops))
    (sym (ops_long g p node found))
