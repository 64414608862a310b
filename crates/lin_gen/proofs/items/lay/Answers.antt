use Rattle.std.proofs.Common.{◌≡◌, ◌+◌, ◌<◌, ◌++◌, ◌∷◌, subst, get_or, drop, drop-cons, add-one, sym, ap, ◌∙◌}
use Rattle.std.proofs.lemmas.List.{length-map}
use Rattle.std.proofs.Common.{map}
use Rattle.lin_gen.specs.Ordering.{laid, node_items}
use Rattle.rtl.specs.Code.Views.{graph_of, item_of, node_of}
use Rattle.rtl.specs.Graphs.{node_at}
use Rattle.lin_gen.proofs.Lists.{in_at}
use Rattle.lin_gen.proofs.Laying.{laid_more}
use Rattle.lin_gen.proofs.items.lay.Goals as goal

pub add_node-requires : goal.add_node-requires
add_node-requires c =
    let lt = c.requires.only (get_or c.args.order.now c.loop-k.k 0) (in_at c.args.order.now c.loop-k.k c.loop-k-test.true) in
    subst (λ n. get_or c.args.order.now c.loop-k.k 0 < n) (length-map c.args.graph.now.nodes node_of) lt

pub loop-k-preserved : goal.loop-k-preserved
loop-k-preserved c =
    let G = graph_of c.args.graph.now in
    let lt = c.loop-k-test.true in
    let p = get_or c.args.order.now c.loop-k.k 0 in
    let rest = drop (c.loop-k.k + 1) c.args.order.now in
    let here : drop c.loop-k.k c.args.order.now ≡ p ∷ rest = drop-cons c.args.order.now c.loop-k.k 0 lt ∙ ap (λ n. p ∷ drop n c.args.order.now) (sym (add-one c.loop-k.k)) in
    laid_more G (map item_of c.loop-k.items) (map item_of c.add_node.new.items) p rest c.args.order.now
    (ap (λ z. map item_of c.loop-k.items ++ laid G z) (sym here) ∙ c.loop-k.invariant)
    (c.in_ok-add_node.ensures ∙ ap (λ z. map item_of c.loop-k.items ++ node_items p (node_at G p) z _) c.next_of.ensures)
