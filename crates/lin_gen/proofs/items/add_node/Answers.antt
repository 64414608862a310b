use Rattle.std.proofs.Common.{◌≡◌, ◌<◌, length, map, refl, sym, ap, ◌∙◌, ◌++◌, [], subst, slice_get}
use Rattle.std.proofs.lemmas.Option.{slice_get_read}
use Rattle.rtl.specs.Items as Item
use Rattle.lin_gen.specs.Ordering.{exit_items, node_items}
use Rattle.rtl.specs.Code.Views.{graph_of, item_of, node_of, op_of}
use Rattle.rtl.specs.Graphs.{node_at}
use Rattle.lin_gen.proofs.Laying.{if_ok, node_there, node_added}
use Rattle.lin_gen.proofs.items.add_node.Goals as goal

pub returns : goal.returns
returns c =
    let nodes = c.as_slice.result.now in
    let same = c.as_slice.ensures in
    let p = c.args.p in
    let node = c.index-as_slice-p.result in
    let found = ap (λ z. slice_get z p) (sym same) ∙ slice_get_read nodes (length nodes) p node refl (subst (λ z. p < length z) (sym same) c.requires) c.index-as_slice-p.is in
    let is = node_there c.args.graph.now p node found in
    let old = map item_of c.args.items.now in
    let ops = c.in_ok-add_ops.ensures ∙ ap (λ z. map item_of c.add.new.items ++ map Item.Op (map op_of z)) c.as_slice-2.ensures in
    if_ok (λ _. map item_of c.add_exit.new.items ≡ map item_of c.add_ops.new.items ++ exit_items node.exit c.args.next []) (λ _. map item_of c.add_exit.new.items ≡ old ++ node_items p (node_at (graph_of c.args.graph.now) p) c.args.next [])
    (λ _ last.
    node_added old (map item_of c.add.new.items) (map item_of c.add_ops.new.items) (map item_of c.add_exit.new.items) p (node_of node) c.args.next c.in_ok-add.ensures ops last
    ∙ ap (λ z. old ++ node_items p z c.args.next []) (sym is))
    c.add_exit.result c.add_exit.ensures
