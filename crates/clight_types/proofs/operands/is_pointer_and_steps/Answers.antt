use Rattle.std.proofs.Common.{◌∙◌, ap, map}
use Rattle.c_types.specs.Types.{type_of}
use Rattle.clight_syntax.specs.Code.TypedViews.{expr_of}
use Rattle.clight_types.specs.Operands.{operand, steps_over}
use Rattle.clight_types.specs.Code.HeldStructs.{structs_of}
use Rattle.clight_types.proofs.Sizes.{steps_to}
use Rattle.clight_types.proofs.operands.is_pointer_and_steps.Goals as goal

pub returns-in-Some : goal.returns-in-Some
returns-in-Some c =
    c.steps_over.ensures
    ∙ (ap (steps_over (operand (expr_of c.args.steps.now))) c.capped_size.ensures
    ∙ steps_to (structs_of c.args.structs.now) (operand (expr_of c.args.pointer.now)) (operand (expr_of c.args.steps.now)) (type_of c.in-Some.element.now) c.in-Some.ensures)
