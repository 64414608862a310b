use Rattle.std.proofs.Common.{◌≡◌, ◌+◌, ◌<◌, ◌^◌, length, map, get_or, Some, slice_get, refl, sym, ap, ◌∙◌, subst, arith}
use Rattle.std.proofs.lemmas.Grind.{common_steps}
use Rattle.std.proofs.lemmas.Option.{slice_get_read}
use Rattle.rtl.specs.Graphs.{ops_at}
use Rattle.rtl.specs.Code.Views.{op_of, node_of}
use Rattle.liveness.specs.Code.Views.{numbered_graph}
use Rattle.liveness.specs.Code.Points.{count, front}
use Rattle.liveness.proofs.Lists.{read_is}
use Rattle.liveness.proofs.Nodes.{ops_long}
use Rattle.pruned_graphs.specs.Searches.{selected}
use Rattle.dropping.specs.Code.Selecting.{marked_from, marked_at}
use Rattle.dropping.proofs.Chosen.{selected_node}
use Rattle.dropping.proofs.selecting.select_nodes.Goals as goal

pub select_ops-requires : goal.select_ops-requires
select_ops-requires c =
    let graph = c.args.graph.now in
    let points = c.args.points.now in
    let p = c.loop-p.p in
    let node = c.node-item.result in
    let nodes = c.as_slice-node-items.result.now in
    let same = c.as_slice-node-items.ensures in
    let lt : p < length graph.nodes = subst (λ z. p < length z) same c.loop-p-test.true in
    let found : slice_get graph.nodes p ≡ Some node = ap (λ z. slice_get z p) (sym same) ∙ slice_get_read nodes (length nodes) p node refl c.loop-p-test.true c.node-item.is in
    let long : length (ops_at (numbered_graph graph) p) ≡ length node.ops = ops_long graph p node found in
    let last : front points p + length (ops_at (numbered_graph graph) p) < count points = (c.requires.each p (length (ops_at (numbered_graph graph) p)) lt (omega arith)).0 in
    let fronts = c.requires.long in
    let within : p < length points.fronts.items = omega (arith, lt, fronts) in
    let first : front points p ≡ c.index.result.now = read_is points.fronts.items p c.index.result.now 0 within c.index.ensures in
    let ops : length c.as_slice.result.now ≡ length node.ops = ap length c.as_slice.ensures in
    let small : count points < 2 ^ 64 = grind (arith, common_steps) in
    omega (arith, last, long, first, ops, small)

pub loop-p-preserved : goal.loop-p-preserved
loop-p-preserved c =
    let graph = c.args.graph.now in
    let points = c.args.points.now in
    let m = c.args.marks.now in
    let p = c.loop-p.p in
    let node = c.node-item.result in
    let same = c.as_slice-node-items.ensures in
    let lt : p < length graph.nodes = subst (λ z. p < length z) same c.loop-p-test.true in
    let fronts = c.requires.long in
    let within : p < length points.fronts.items = omega (arith, lt, fronts) in
    let first : c.index.result.now ≡ front points p = sym (read_is points.fronts.items p c.index.result.now 0 within c.index.ensures) in
    let ops : map op_of c.in_ok-ops.ops ≡ selected (marked_from m (front points p)) (map op_of node.ops) = c.in_ok-ops.ensures ∙ ap (λ n. selected (marked_from m n) (map op_of c.as_slice.result.now)) first ∙ ap (λ z. selected (marked_from m (front points p)) (map op_of z)) c.as_slice.ensures in
    selected_node node_of (marked_at points m) graph.nodes p node c.loop-p.list c.push.new.self _ c.loop-p.invariant c.in_ok-push.ensures.added ops refl lt (c.node-item.is ∙ ap (λ z. get_or z p node) same)
