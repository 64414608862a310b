use Rattle.std.proofs.Common.{◌≡◌, ◌<◌, length, map, sym, ap, ◌∙◌, subst, arith}
use Rattle.std.proofs.lemmas.List.{length-map}
use Rattle.std.proofs.lemmas.Result.{on_ok_weaker}
use Rattle.rtl.specs.Code.Views.{op_of, node_of}
use Rattle.colouring.specs.Code.Neighbours.{HasAdded, AtOperations, VregsBelow, numbers}
use Rattle.colouring.proofs.NodePairs.{first_read, node_adds}
use Rattle.colouring.proofs.nodes.add_node.Goals as goal

pub add_start-requires : goal.add_start-requires
add_start-requires c =
    let many = c.requires.many in
    let some : 0 < length c.args.points.now = omega (arith, many) in
    subst (VregsBelow (length c.args.rows.now.items)) (sym (first_read c.args.points.now c.index-points-0.result c.as_slice.result.now some c.index-points-0.is c.as_slice.ensures)) (c.requires.points 0)

pub returns : goal.returns
returns c =
    let many = c.requires.many in
    let some : 0 < length c.args.points.now = omega (arith, many) in
    let first = first_read c.args.points.now c.index-points-0.result c.as_slice.result.now some c.index-points-0.is c.as_slice.ensures in
    let as_many : length c.as_slice-2.result.now ≡ length (map op_of c.args.node.now.ops) = ap length c.as_slice-2.ensures ∙ sym (length-map c.args.node.now.ops op_of) in
    on_ok_weaker c.add_after.result
    (λ after.
    node_adds c.args.covered (node_of c.args.node.now) c.args.points.now c.args.live.now (numbers c.as_slice.result.now) (length c.as_slice-2.result.now) c.args.rows.now.items c.add_start.new.rows.items c.add_ops.new.rows.items c.add_after.new.rows.items
    (ap numbers first) as_many c.in_ok-add_start.ensures
    (subst (λ ops. HasAdded (AtOperations (map op_of ops) c.args.points.now (length c.as_slice-2.result.now)) c.add_start.new.rows.items c.add_ops.new.rows.items) c.as_slice-2.ensures c.in_ok-add_ops.ensures) after)
    c.add_after.ensures
