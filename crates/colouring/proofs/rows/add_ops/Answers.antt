use Rattle.std.proofs.Common.{◌+◌, ◌<◌, length, map, refl, sym, ◌∙◌, subst, arith}
use Rattle.std.proofs.lemmas.Option.{slice_get_read}
use Rattle.rtl.specs.Code.Views.{op_of}
use Rattle.colouring.specs.Code.Neighbours.{written_by, numbers, HasAdded, AtOperation, VregsBelow}
use Rattle.colouring.proofs.Adding.{viewed, point_read, operation_more}
use Rattle.colouring.proofs.rows.add_ops.Goals as goal

pub add_op-requires-clause-op : goal.add_op-requires-clause-op
add_op-requires-clause-op c =
    let found = slice_get_read c.args.ops.now (length c.args.ops.now) c.loop-k.k c.index-ops-k.result refl c.loop-k-test.true c.index-ops-k.is in
    subst (λ n. VregsBelow n (written_by (op_of c.index-ops-k.result))) (sym c.loop-k.invariant.long) (c.requires.ops c.loop-k.k (op_of c.index-ops-k.result) (viewed op_of c.args.ops.now c.loop-k.k c.index-ops-k.result found))

pub add_op-requires-clause-after : goal.add_op-requires-clause-after
add_op-requires-clause-after c =
    let many = c.requires.many in
    let before = c.loop-k-test.true in
    let within : c.loop-k.k + 1 < length c.args.points.now = omega (arith, many, before) in
    let is = point_read c.args.points.now c.loop-k.k c.index-points-k.result c.as_slice.result.now within c.index-points-k.is c.as_slice.ensures in
    subst (λ n. VregsBelow n c.as_slice.result.now) (sym c.loop-k.invariant.long) (subst (VregsBelow (length c.args.rows.now.items)) (sym is) (c.requires.points _))

pub loop-k-preserved : goal.loop-k-preserved
loop-k-preserved c =
    let many = c.requires.many in
    let before = c.loop-k-test.true in
    let within : c.loop-k.k + 1 < length c.args.points.now = omega (arith, many, before) in
    let is = point_read c.args.points.now c.loop-k.k c.index-points-k.result c.as_slice.result.now within c.index-points-k.is c.as_slice.ensures in
    let found = slice_get_read c.args.ops.now (length c.args.ops.now) c.loop-k.k c.index-ops-k.result refl c.loop-k-test.true c.index-ops-k.is in
    record {
      long = c.in_ok-add_op.ensures.long ∙ c.loop-k.invariant.long;
      added =
          operation_more (map op_of c.args.ops.now) c.args.points.now c.loop-k.k (op_of c.index-ops-k.result) c.args.rows.now.items c.loop-k.rows.items c.add_op.new.rows.items
          (viewed op_of c.args.ops.now c.loop-k.k c.index-ops-k.result found) c.loop-k.invariant.added
          (subst (λ vs. HasAdded (AtOperation (op_of c.index-ops-k.result) (numbers vs)) c.loop-k.rows.items c.add_op.new.rows.items) is c.in_ok-add_op.ensures);
    }
