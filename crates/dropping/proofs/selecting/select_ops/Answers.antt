use Rattle.std.proofs.Common.{sym, ◌∙◌}
use Rattle.rtl.specs.Code.Views.{op_of}
use Rattle.dropping.specs.Code.Selecting.{marked_from}
use Rattle.dropping.proofs.Chosen.{selected_one, selected_none}
use Rattle.dropping.proofs.selecting.select_ops.Goals as goal
use Rattle.dropping.proofs.selecting.select_ops.Goals.{then-is_marked+in_ok-copy_op+in_ok-push, else-is_marked}

pub loop-k-preserved : goal.loop-k-preserved
loop-k-preserved c =
    let ops = c.args.ops.now in
    let test = marked_from c.args.marks.now c.args.from in
    let k = c.loop-k.k in
    let op = c.index-ops-k.result in
    elim c.if-is_marked.branch [
      | then-is_marked+in_ok-copy_op+in_ok-push w ↦
          selected_one op_of test ops k op c.loop-k.list c.if-is_marked.list w.in_ok-copy_op.field-0 c.loop-k.invariant (w.list-is ∙ w.in_ok-push.ensures.added) w.in_ok-copy_op.ensures (sym c.is_marked.ensures ∙ w.if-is_marked.true) c.loop-k-test.true c.index-ops-k.is
      | else-is_marked w ↦
          rw w.list-is (selected_none op_of test ops k op c.loop-k.list c.loop-k.invariant (sym c.is_marked.ensures ∙ w.if-is_marked.false) c.loop-k-test.true c.index-ops-k.is)
    ]
