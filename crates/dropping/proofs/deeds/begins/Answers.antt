use Rattle.std.proofs.Common.{◌≡◌, ◌<◌, ◌≤◌, length, Some, slice_get, refl, sym, ap, ◌∙◌, subst}
use Rattle.std.proofs.lemmas.Option.{slice_get_read}
use Rattle.liveness.proofs.Nodes.{left_some, left_none}
use Rattle.dropping.specs.Code.Marks.{begins}
use Rattle.dropping.proofs.deeds.begins.Goals as goal

pub returns-in-Some : goal.returns-in-Some
returns-in-Some c =
    let g = c.args.graph.now in
    let pt = c.args.point in
    let nodes = c.as_slice.result.now in
    let same = c.as_slice.ensures in
    let node = c.index-as_slice-point.result in
    let found : slice_get g.nodes pt.node ≡ Some node = ap (λ z. slice_get z pt.node) (sym same) ∙ slice_get_read nodes (length nodes) pt.node node refl (subst (λ z. pt.node < length z) (sym same) c.requires) c.index-as_slice-point.is in
    let ops = c.as_slice-2.result.now in
    let op = c.in-Some.op.now in
    let h = c.in-Some.ensures.lookup in
    let at : slice_get node.ops pt.op ≡ Some op = ap (λ z. slice_get z pt.op) (sym c.as_slice-2.ensures) ∙ slice_get_read ops (length ops) pt.op op refl h.3.0 h.1 in
    c.is_deed.ensures ∙ ap begins (sym (left_some g pt node found op at).1)

pub returns-in-None : goal.returns-in-None
returns-in-None c =
    let g = c.args.graph.now in
    let pt = c.args.point in
    let nodes = c.as_slice.result.now in
    let same = c.as_slice.ensures in
    let node = c.index-as_slice-point.result in
    let found : slice_get g.nodes pt.node ≡ Some node = ap (λ z. slice_get z pt.node) (sym same) ∙ slice_get_read nodes (length nodes) pt.node node refl (subst (λ z. pt.node < length z) (sym same) c.requires) c.index-as_slice-point.is in
    let past = ap length c.as_slice-2.ensures in
    let h = c.in-None.ensures.lookup in
    ap begins (sym (left_none g pt node found (subst (λ n. n ≤ pt.op) past h.3)))
