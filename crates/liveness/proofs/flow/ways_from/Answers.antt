use Rattle.std.proofs.Common.{◌≡◌, ℕ, ◌+◌, ◌<◌, ◌≤◌, [], ◌∷◌, ◌++◌, ◌↔◌, length, map, Some, slice_get, refl, sym, ap, ◌∙◌, subst, arith}
use Rattle.std.proofs.lemmas.Grind.{common_steps}
use Rattle.std.proofs.lemmas.Option.{slice_get_read}
use Rattle.std.proofs.lemmas.Result.{IfOk-weaker}
use Rattle.cerco_traces.specs.LabelledGraphs.{In}
use Rattle.liveness.specs.Code.Views.{numbered_exit, numbered_graph}
use Rattle.liveness.specs.Code.Points.{point_at, front}
use Rattle.liveness.specs.Code.Flow.{after, LeadsOn}
use Rattle.liveness.proofs.Lists.{read_is}
use Rattle.liveness.proofs.LeadLists.{leads_op, leads_exit}
use Rattle.liveness.proofs.flow.ways_from.Goals as goal

pub returns-then-point-as_slice : goal.returns-then-point-as_slice
returns-then-point-as_slice c =
    let g = c.args.graph.now in
    let points = c.args.points.now in
    let i = c.args.i in
    let pt = c.index-point.result.now in
    let is : point_at points i ≡ pt = read_is points.places.items i pt (record { node = 0; op = 0 }) c.requires.within c.index-point.ensures in
    let within : pt.node < length g.nodes = subst (λ z. z.node < length g.nodes) is (c.requires.points.only i c.requires.within).0 in
    let nodes = c.as_slice.result.now in
    let same = c.as_slice.ensures in
    let node = c.index-as_slice-point.result in
    let found : slice_get g.nodes pt.node ≡ Some node = ap (λ z. slice_get z pt.node) (sym same) ∙ slice_get_read nodes (length nodes) pt.node node refl (subst (λ z. pt.node < length z) (sym same) within) c.index-as_slice-point.is in
    let few : pt.op < length node.ops = subst (λ z. pt.op < length z) c.as_slice-2.ensures c.if-point-as_slice.true in
    leads_op g points i pt node is found c.push.new.self.items few (c.in_ok-push.ensures.items ∙ ap (λ z. z ++ (i + 1) ∷ []) c.new-list.ensures.items)

pub returns : goal.returns
returns c =
    let g = c.args.graph.now in
    let points = c.args.points.now in
    let i = c.args.i in
    let pt = c.index-point.result.now in
    let is : point_at points i ≡ pt = read_is points.places.items i pt (record { node = 0; op = 0 }) c.requires.within c.index-point.ensures in
    let within : pt.node < length g.nodes = subst (λ z. z.node < length g.nodes) is (c.requires.points.only i c.requires.within).0 in
    let nodes = c.as_slice.result.now in
    let same = c.as_slice.ensures in
    let node = c.index-as_slice-point.result in
    let found : slice_get g.nodes pt.node ≡ Some node = ap (λ z. slice_get z pt.node) (sym same) ∙ slice_get_read nodes (length nodes) pt.node node refl (subst (λ z. pt.node < length z) (sym same) within) c.index-as_slice-point.is in
    let many : length node.ops ≤ pt.op = subst (λ z. length z ≤ pt.op) c.as_slice-2.ensures c.if-point-as_slice.false in
    let long : c.len.result ≡ length points.fronts.items = grind (arith, common_steps) in
    let list = c.deref.ensures.value ∙ c.in_ok-add_after.ensures ∙ ap (λ z. z ++ after (numbered_exit node.exit) c.len.result) c.new-list.ensures.items ∙ ap (after (numbered_exit node.exit)) long in
    IfOk-weaker c.fronts.result (λ xs. xs.items ≡ map (front points) c.deref.result.now) (λ xs. (j : ℕ) → In j xs.items ↔ LeadsOn (numbered_graph g) points i j)
    (λ xs e. leads_exit g points i pt node is found xs.items many (e ∙ ap (map (front points)) list)) c.fronts.ensures
