use Rattle.std.proofs.Common.{◌≡◌, ◌<◌, ◌≤◌, ◌++◌, length, Some, slice_get, refl, sym, ap, ◌∙◌, subst}
use Rattle.std.proofs.lemmas.Option.{slice_get_read}
use Rattle.rtl.specs.Effects.{writes}
use Rattle.liveness.specs.Code.Views.{storages_of, numbered_op, numbered_exit}
use Rattle.liveness.specs.Code.Flow.{overwritten}
use Rattle.liveness.proofs.Nodes.{stops_op, stops_exit}
use Rattle.liveness.proofs.flow.stops_at.Goals as goal

pub returns-in_ok-add_writes-in-Some : goal.returns-in_ok-add_writes-in-Some
returns-in_ok-add_writes-in-Some c =
    let g = c.args.graph.now in
    let pt = c.args.point in
    let nodes = c.as_slice.result.now in
    let same = c.as_slice.ensures in
    let node = c.index-as_slice-point.result in
    let found : slice_get g.nodes pt.node ≡ Some node = ap (λ z. slice_get z pt.node) (sym same) ∙ slice_get_read nodes (length nodes) pt.node node refl (subst (λ z. pt.node < length z) (sym same) c.requires) c.index-as_slice-point.is in
    let ops = c.as_slice-2.result.now in
    let op = c.in-Some.op.now in
    let h = c.in-Some.ensures.lookup in
    let at : slice_get node.ops pt.op ≡ Some op = ap (λ z. slice_get z pt.op) (sym c.as_slice-2.ensures) ∙ slice_get_read ops (length ops) pt.op op refl h.3.0 h.1 in
    stops_op g pt node found op (storages_of c.add_writes.new.list.items) at
    (c.in_ok-add_writes-in-Some.ensures ∙ ap (λ z. storages_of z ++ writes (numbered_op op)) c.new-list.ensures.items)

pub returns-in_ok-add_overwritten-in-None : goal.returns-in_ok-add_overwritten-in-None
returns-in_ok-add_overwritten-in-None c =
    let g = c.args.graph.now in
    let pt = c.args.point in
    let nodes = c.as_slice.result.now in
    let same = c.as_slice.ensures in
    let node = c.index-as_slice-point.result in
    let found : slice_get g.nodes pt.node ≡ Some node = ap (λ z. slice_get z pt.node) (sym same) ∙ slice_get_read nodes (length nodes) pt.node node refl (subst (λ z. pt.node < length z) (sym same) c.requires) c.index-as_slice-point.is in
    let past = ap length c.as_slice-2.ensures in
    let h = c.in-None.ensures.lookup in
    stops_exit g pt node found (storages_of c.add_overwritten.new.list.items) (subst (λ n. n ≤ pt.op) past h.3)
    (c.in_ok-add_overwritten-in-None.ensures ∙ ap (λ z. storages_of z ++ overwritten (numbered_exit node.exit)) c.new-list.ensures.items)
