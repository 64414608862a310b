use Rattle.std.proofs.Common.{Err, sym, ap, subst}
use Rattle.std.proofs.lemmas.Result.{err_from_is_err_and}
use Rattle.clight_syntax.specs.Code.TypedViews.{labelled_of}
use Rattle.cerco_pipeline.specs.Compiled.{IsRead, IsAssembled}
use Rattle.cerco_pipeline.proofs.OtherOrder.{room_of_other}
use Rattle.cerco_pipeline.proofs.Unique.{sound_or_reason}
use Rattle.cerco_pipeline.proofs.Whole.{program_is_checked, program_is_numbered, program_is_within_limits, few, has_costs, is_compiled, same_reason, refused_first, refused_for_room}
use Rattle.cerco_pipeline.proofs.compile.Goals as goal

pub returns-in_err-labelled-clause-refused : goal.returns-in_err-labelled-clause-refused
returns-in_err-labelled-clause-refused c = λ reason is.
    let failed = err_from_is_err_and c.from_residual.result c.from_residual.ensures.1 in
    refused_first c.args.text.now reason (c.in_err-labelled.ensures.refused reason (ap Err (same_reason c.from_residual.result failed.0 _ reason failed.1 failed.2 is)))

pub returns-in_err-labelled-clause-complete : goal.returns-in_err-labelled-clause-complete
returns-in_err-labelled-clause-complete c = λ room reason is.
    let failed = err_from_is_err_and c.from_residual.result c.from_residual.ensures.1 in
    let p = room.is_program in
    sound_or_reason c.args.text.now p.tree p.laid_out reason p.is_tree p.sound (c.in_err-labelled.ensures.refused reason (ap Err (same_reason c.from_residual.result failed.0 _ reason failed.1 failed.2 is)))

pub assembled-requires-clause-checked : goal.assembled-requires-clause-checked
assembled-requires-clause-checked c =
    let read = subst (IsRead c.args.text.now) (sym c.deref.ensures) c.in_ok-labelled.ensures.read in
    program_is_checked c.args.text.now (labelled_of c.deref.result.now) read.program

pub assembled-requires-clause-numbered : goal.assembled-requires-clause-numbered
assembled-requires-clause-numbered c =
    let read = subst (IsRead c.args.text.now) (sym c.deref.ensures) c.in_ok-labelled.ensures.read in
    program_is_numbered c.args.text.now (labelled_of c.deref.result.now) read.program

pub assembled-requires-clause-limits : goal.assembled-requires-clause-limits
assembled-requires-clause-limits c =
    let read = subst (IsRead c.args.text.now) (sym c.deref.ensures) c.in_ok-labelled.ensures.read in
    program_is_within_limits c.args.text.now (labelled_of c.deref.result.now) read.program

pub returns-in_err-assembled-clause-refused : goal.returns-in_err-assembled-clause-refused
returns-in_err-assembled-clause-refused c = λ reason is.
    let failed = err_from_is_err_and c.from_residual-in_err-assembled.result c.from_residual-in_err-assembled.ensures.1 in
    let read = subst (IsRead c.args.text.now) (sym c.deref.ensures) c.in_ok-labelled.ensures.read in
    refused_for_room c.args.text.now (labelled_of c.deref.result.now) reason read.program (c.in_err-assembled.ensures.refused reason (ap Err (same_reason c.from_residual-in_err-assembled.result failed.0 _ reason failed.1 failed.2 is)))

pub returns-in_err-assembled-clause-complete : goal.returns-in_err-assembled-clause-complete
returns-in_err-assembled-clause-complete c = λ room reason is.
    let failed = err_from_is_err_and c.from_residual-in_err-assembled.result c.from_residual-in_err-assembled.ensures.1 in
    let read = subst (IsRead c.args.text.now) (sym c.deref.ensures) c.in_ok-labelled.ensures.read in
    let lacks = c.in_err-assembled.ensures.refused reason (ap Err (same_reason c.from_residual-in_err-assembled.result failed.0 _ reason failed.1 failed.2 is)) in
    lacks.not_by_bounds (room_of_other c.args.text.now (labelled_of c.deref.result.now) room.program read.program room.is_program room.room)

pub costs_of-requires-clause-few : goal.costs_of-requires-clause-few
costs_of-requires-clause-few c =
    let is = c.in_ok-assembled.ensures.assembled in
    few is.source c.in_ok-assembled.assembled is.chain

pub costs_of-requires-clause-costed : goal.costs_of-requires-clause-costed
costs_of-requires-clause-costed c =
    let is = c.in_ok-assembled.ensures.assembled in
    has_costs is.source c.in_ok-assembled.assembled is.chain

pub returns-clause-compiled : goal.returns-clause-compiled
returns-clause-compiled c =
    let values = c.in_ok-assembled.assembled in
    let is = subst (λ x. IsAssembled (labelled_of x) values) c.deref.ensures c.in_ok-assembled.ensures.assembled in
    is_compiled c.args.text.now _ c.in_ok-labelled.ensures.read is c.in_ok-start.ensures.costs c.in_ok-start.ensures.marks
