use Rattle.std.proofs.Common.{◌∙◌}
use Rattle.std.proofs.lemmas.Result.{on_ok_weaker}
use Rattle.rtl.specs.Code.Views.{op_of}
use Rattle.colouring.specs.Code.Neighbours.{numbers}
use Rattle.colouring.proofs.Adding.{operation_adds}
use Rattle.colouring.proofs.rows.add_op.Goals as goal

pub returns : goal.returns
returns c =
    on_ok_weaker c.add_pairs-2.result
    (λ second.
    operation_adds (op_of c.args.op.now) (numbers c.args.after.now) c.deref.result.now c.deref-2.result.now c.deref-3.result.now c.args.rows.now.items c.add_pairs.new.rows.items c.add_pairs-2.new.rows.items
    (c.deref.ensures.value ∙ c.in_ok-written.ensures) (c.deref-2.ensures.value ∙ c.in_ok-written.ensures) (c.deref-3.ensures.value ∙ c.in_ok-written.ensures) c.in_ok-add_pairs.ensures second)
    c.add_pairs-2.ensures
