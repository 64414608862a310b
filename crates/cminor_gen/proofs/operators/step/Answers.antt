use Rattle.std.proofs.Common.{◌≡◌, IfOk, sym, subst}
use Rattle.cerco_middle.specs.Code.Views.{expr_of as cm_of}
use Rattle.cminor_gen.specs.Translation.Operators as t
use Rattle.cminor_gen.proofs.operators.step.Goals as goal

pub returns-in-Some-shift_for : goal.returns-in-Some-shift_for
returns-in-Some-shift_for c =
    subst (λ o. IfOk c.shift_step.result (λ e. cm_of e ≡ t.step o c.args.size c.args.back (cm_of c.args.pointer) (cm_of c.args.value))) (sym c.in_default.is)
    (subst (λ o. IfOk c.shift_step.result (λ e. cm_of e ≡ t.step_over o c.args.size c.args.back (cm_of c.args.pointer) (cm_of c.args.value))) c.in-Some-shift_for.ensures (c.shift_step.ensures c.args.size))
