use Rattle.std.proofs.Common.{length, map, sym, ap, ◌∙◌, subst, arith}
use Rattle.std.proofs.lemmas.List.{length-map}
use Rattle.rtl.specs.Code.Views.{op_of, node_of}
use Rattle.colouring.specs.Code.Rows.{mark_at}
use Rattle.colouring.specs.Code.Neighbours.{HasAdded, AtNode, PointsBelow, OpsBelow}
use Rattle.colouring.proofs.NodePairs.{node_read, points_of_node, node_more}
use Rattle.colouring.proofs.nodes.add_nodes.Goals as goal

pub add_node-requires-clause-many : goal.add_node-requires-clause-many
add_node-requires-clause-many c =
    let found = node_read c.args.nodes.now c.loop-p.p c.index-nodes-p.result c.loop-p-test.true c.index-nodes-p.is in
    let read = points_of_node c.args.nodes.now c.args.live.now c.loop-p.p c.as_slice.result.now c.index-as_slice-p.result c.as_slice-points.result.now c.requires.ready.many c.loop-p-test.true c.as_slice.ensures c.index-as_slice-p.is c.as_slice-points.ensures in
    let enough = c.requires.ready.points c.loop-p.p (node_of c.index-nodes-p.result) found in
    let ops = length-map c.index-nodes-p.result.ops op_of in
    let points = ap length read in
    omega (arith, enough, ops, points)

pub add_node-requires-clause-ops : goal.add_node-requires-clause-ops
add_node-requires-clause-ops c =
    let found = node_read c.args.nodes.now c.loop-p.p c.index-nodes-p.result c.loop-p-test.true c.index-nodes-p.is in
    subst (λ n. OpsBelow n (map op_of c.index-nodes-p.result.ops)) (sym c.loop-p.invariant.long) (c.requires.ready.ops c.loop-p.p (node_of c.index-nodes-p.result) found)

pub add_node-requires-clause-points : goal.add_node-requires-clause-points
add_node-requires-clause-points c =
    let read = points_of_node c.args.nodes.now c.args.live.now c.loop-p.p c.as_slice.result.now c.index-as_slice-p.result c.as_slice-points.result.now c.requires.ready.many c.loop-p-test.true c.as_slice.ensures c.index-as_slice-p.is c.as_slice-points.ensures in
    subst (λ n. PointsBelow n c.as_slice-points.result.now) (sym c.loop-p.invariant.long) (subst (PointsBelow (length c.args.rows.now.items)) (sym read) (c.requires.ready.live c.loop-p.p))

pub loop-p-preserved : goal.loop-p-preserved
loop-p-preserved c =
    let found = node_read c.args.nodes.now c.loop-p.p c.index-nodes-p.result c.loop-p-test.true c.index-nodes-p.is in
    let read = points_of_node c.args.nodes.now c.args.live.now c.loop-p.p c.as_slice.result.now c.index-as_slice-p.result c.as_slice-points.result.now c.requires.ready.many c.loop-p-test.true c.as_slice.ensures c.index-as_slice-p.is c.as_slice-points.ensures in
    record {
      long = c.in_ok-add_node.ensures.long ∙ c.loop-p.invariant.long;
      added =
          node_more c.args.covered.now (map node_of c.args.nodes.now) c.args.live.now c.loop-p.p (node_of c.index-nodes-p.result) c.args.rows.now.items c.loop-p.rows.items c.add_node.new.rows.items found c.loop-p.invariant.added
          (subst (λ points. HasAdded (AtNode (mark_at c.args.covered.now c.loop-p.p) (node_of c.index-nodes-p.result) points c.args.live.now) c.loop-p.rows.items c.add_node.new.rows.items) read c.in_ok-add_node.ensures);
    }
