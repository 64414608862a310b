use Rattle.std.proofs.Common.{◌≡◌, ◌+◌, ◌<◌, ◌≤◌, [], ◌∷◌, length, Some, slice_get, slice_index_or, refl, sym, ap, ◌∙◌, subst, arith, length-append}
use Rattle.std.proofs.lemmas.Grind.{common_steps}
use Rattle.std.proofs.lemmas.Option.{slice_get_read}
use Rattle.rtl.specs.declared.locations.Vreg.{Vreg}
use Rattle.rtl.specs.declared.graphs.Node.{Node as WrittenNode}
use Rattle.rtl.specs.Graphs.{ops_at}
use Rattle.liveness.specs.Code.Views.{numbered_graph}
use Rattle.liveness.specs.Code.Points.{front}
use Rattle.liveness.specs.Code.Flow.{AreRows}
use Rattle.liveness.proofs.Nodes.{ops_long}
use Rattle.liveness.proofs.FlowTables.{each_more}
use Rattle.liveness.proofs.LiveOf.{rows_below, front_read, few_points, live_of}
use Rattle.liveness.proofs.sets.live.Goals as goal

pub live_node-requires-clause-below : goal.live_node-requires-clause-below
live_node-requires-clause-below c =
    let g = numbered_graph c.args.graph.now in
    let is = c.in_ok-flow.ensures in
    rows_below g c.in_ok-flow.flow c.in_ok-rows.rows.vregs.items c.in_ok-rows.rows.carry.items is (c.in_ok-rows.ensures g is)

pub live_node-requires-clause-few : goal.live_node-requires-clause-few
live_node-requires-clause-few c =
    let graph = c.args.graph.now in
    let points = c.in_ok-flow.flow.points in
    let p = c.loop-p.p in
    let nodes = c.as_slice.result.now in
    let same = c.as_slice.ensures in
    let node = c.index-as_slice-p.result in
    let below : p < length nodes = grind (arith, common_steps) in
    let within : p < length graph.nodes = subst (λ z. p < length z) same below in
    let found : slice_get graph.nodes p ≡ Some node = ap (λ z. slice_get z p) (sym same) ∙ slice_get_read nodes (length nodes) p node refl below c.index-as_slice-p.is in
    let long : length c.as_slice-ops.result.now ≡ length (ops_at (numbered_graph graph) p) = ap length (c.as_slice-ops.ensures ∙ ap (λ (z : WrittenNode Vreg). z.ops) (sym c.index-as_slice-p.is)) ∙ sym (ops_long graph p node found) in
    few_points graph points c.in_ok-flow.ensures.points p c.index.result.now within c.index.ensures (length c.as_slice-ops.result.now) long

pub loop-p-preserved : goal.loop-p-preserved
loop-p-preserved c =
    let graph = c.args.graph.now in
    let g = numbered_graph graph in
    let points = c.in_ok-flow.flow.points in
    let vregs = c.in_ok-rows.rows.vregs.items in
    let carry = c.in_ok-rows.rows.carry.items in
    let p = c.loop-p.p in
    let nodes = c.as_slice.result.now in
    let same = c.as_slice.ensures in
    let node = c.index-as_slice-p.result in
    let below : p < length nodes = grind (arith, common_steps) in
    let within : p < length graph.nodes = subst (λ z. p < length z) same below in
    let found : slice_get graph.nodes p ≡ Some node = ap (λ z. slice_get z p) (sym same) ∙ slice_get_read nodes (length nodes) p node refl below c.index-as_slice-p.is in
    let long : length c.as_slice-ops.result.now ≡ length (ops_at g p) = ap length (c.as_slice-ops.ensures ∙ ap (λ (z : WrittenNode Vreg). z.ops) (sym c.index-as_slice-p.is)) ∙ sym (ops_long graph p node found) in
    let at : front points p ≡ c.index.result.now = front_read graph points c.in_ok-flow.ensures.points p c.index.result.now within c.index.ensures in
    let new = c.in_ok-live_node.field-0 in
    let made : AreRows vregs carry (front points p) (length (ops_at g p) + 1) new = subst (λ f. AreRows vregs carry f (length (ops_at g p) + 1) new) (sym at) (subst (λ n. AreRows vregs carry c.index.result.now (n + 1) new) long c.in_ok-live_node.ensures) in
    let pushed = c.in_ok-push.ensures.added in
    record {
      long = ap length pushed ∙ length-append c.loop-p.nodes (new ∷ []) ∙ ap (λ n. n + 1) c.loop-p.invariant.long;
      each = λ q lt. subst (λ z. AreRows vregs carry (front points q) (length (ops_at g q) + 1) (slice_index_or z q [])) (sym pushed)
          (each_more (λ q made. AreRows vregs carry (front points q) (length (ops_at g q) + 1) made) c.loop-p.nodes new [] p c.loop-p.invariant.long c.loop-p.invariant.each made q lt);
    }

pub returns : goal.returns
returns c =
    let graph = c.args.graph.now in
    let g = numbered_graph graph in
    let flow = c.in_ok-flow.flow in
    let is = c.in_ok-flow.ensures in
    let vregs = c.in_ok-rows.rows.vregs.items in
    let carry = c.in_ok-rows.rows.carry.items in
    let past : length graph.nodes ≤ c.loop-p.p = grind (arith, common_steps) in
    let all : c.loop-p.p ≡ length graph.nodes = grind (arith, common_steps) in
    live_of graph (record { nodes = c.loop-p.nodes }) flow vregs carry is (c.in_ok-rows.ensures g is) (c.loop-p.invariant.long ∙ all)
    (λ q lt. c.loop-p.invariant.each q (omega (arith, lt, past)))
