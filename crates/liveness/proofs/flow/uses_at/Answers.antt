use Rattle.std.proofs.Common.{◌≡◌, ◌<◌, ◌≤◌, ◌++◌, length, Some, slice_get, refl, sym, ap, ◌∙◌, subst}
use Rattle.std.proofs.lemmas.Option.{slice_get_read}
use Rattle.cerco_traces.specs.LabelledGraphs.{In}
use Rattle.rtl.specs.Effects.{reads}
use Rattle.liveness.specs.Code.Rows.{ways_of}
use Rattle.liveness.specs.Code.Views.{storages_of, numbered_op, numbered_exit}
use Rattle.liveness.specs.Code.Flow.{used}
use Rattle.liveness.proofs.Nodes.{uses_op, uses_exit}
use Rattle.liveness.proofs.flow.uses_at.Goals as goal

pub add_used-requires : goal.add_used-requires
add_used-requires c = λ x h. (c.requires.written.only c.args.point.node x (subst (In x) c.row.ensures h)).0

pub returns-in_ok-add_reads-in-Some : goal.returns-in_ok-add_reads-in-Some
returns-in_ok-add_reads-in-Some c =
    let g = c.args.graph.now in
    let pt = c.args.point in
    let nodes = c.as_slice.result.now in
    let same = c.as_slice.ensures in
    let node = c.index-as_slice-point.result in
    let found : slice_get g.nodes pt.node ≡ Some node = ap (λ z. slice_get z pt.node) (sym same) ∙ slice_get_read nodes (length nodes) pt.node node refl (subst (λ z. pt.node < length z) (sym same) c.requires.node) c.index-as_slice-point.is in
    let ops = c.as_slice-2.result.now in
    let op = c.in-Some.op.now in
    let h = c.in-Some.ensures.lookup in
    let at : slice_get node.ops pt.op ≡ Some op = ap (λ z. slice_get z pt.op) (sym c.as_slice-2.ensures) ∙ slice_get_read ops (length ops) pt.op op refl h.3.0 h.1 in
    uses_op g pt node found op (storages_of c.add_reads.new.list.items) at
    (c.in_ok-add_reads-in-Some.ensures ∙ ap (λ z. storages_of z ++ reads (numbered_op op)) c.new-list.ensures.items)

pub returns-in_ok-add_used-in-None : goal.returns-in_ok-add_used-in-None
returns-in_ok-add_used-in-None c =
    let g = c.args.graph.now in
    let pt = c.args.point in
    let nodes = c.as_slice.result.now in
    let same = c.as_slice.ensures in
    let node = c.index-as_slice-point.result in
    let found : slice_get g.nodes pt.node ≡ Some node = ap (λ z. slice_get z pt.node) (sym same) ∙ slice_get_read nodes (length nodes) pt.node node refl (subst (λ z. pt.node < length z) (sym same) c.requires.node) c.index-as_slice-point.is in
    let past = ap length c.as_slice-2.ensures in
    let h = c.in-None.ensures.lookup in
    uses_exit g pt node found (ways_of c.args.written.now) (storages_of c.add_used.new.list.items) (subst (λ n. n ≤ pt.op) past h.3) c.requires.node c.requires.written
    (c.in_ok-add_used-in-None.ensures ∙ ap (λ z. storages_of z ++ used (numbered_exit node.exit) c.row.result.now) c.new-list.ensures.items ∙ ap (used (numbered_exit node.exit)) c.row.ensures)
