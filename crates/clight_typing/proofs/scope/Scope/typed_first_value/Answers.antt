use Rattle.std.proofs.Common.{◌≡◌, ◌∙◌, ◌&&◌, Ok, Err, ap, sym, rules}
use Rattle.cerco_base.specs.declared.reasons.TypeKind.TheVariants as k
use Rattle.c_types.specs.Types.{type_of}
use Rattle.c_types.specs.Kinds.{is_scalar}
use Rattle.clight_source.specs.Code.Views.{expr_of as expr_source_of, local_initialiser_of as source_of}
use Rattle.clight_syntax.specs.TypedTrees.{LocalInitialiser, Value}
use Rattle.clight_syntax.specs.Code.TypedViews.{expr_of, local_initialiser_of}
use Rattle.clight_types.specs.Code.HeldJudged.{expr_in}
use Rattle.clight_types.specs.Operands.{is_assignable, operand}
use Rattle.clight_types.specs.TypedExpressions.{Checked}
use Rattle.clight_typing.specs.Code.HeldScopes.{scope_of}
use Rattle.clight_typing.specs.TypedPrograms.{asked, typed_first_value}
use Rattle.clight_typing.proofs.FirstValues.{first_value_goes}
use Rattle.clight_typing.proofs.Gives.{faulted}
use Rattle.clight_typing.proofs.scope.Scope.typed_first_value.Goals as goal

pub returns-in_err-asked-in-Value : goal.returns-in_err-asked-in-Value
returns-in_err-asked-in-Value c =
    let scope = scope_of c.args.self.now in
    let type = type_of c.args.ty.now in
    let takes = c.takes_first_value.ensures ∙ ap (λ x. is_scalar type && is_assignable (operand (expr_of x)) type) c.deref.ensures in
    let same : c.from_residual-in_err-asked-in-Value.result ≡ Err c.in_err-asked-in-Value.field-0.0 = first_of (search rules, cc) in
    (faulted same (λ (y : Unit {0}). y) local_initialiser_of (asked c.takes_first_value.result c.in-Value.equals.from k.Init) _ c.in_err-asked-in-Value.ensures
    (λ f h. ap (λ x. typed_first_value scope type (source_of x)) c.in-Value.is
    ∙ first_value_goes scope type c.in-Value.equals (expr_source_of c.in-Value.value) (expr_in c.in_ok-e-in-Value.e) c.takes_first_value.result (Err f) c.in_ok-e-in-Value.ensures takes h))

pub returns-in_ok-asked-in-Value : goal.returns-in_ok-asked-in-Value
returns-in_ok-asked-in-Value c =
    let scope = scope_of c.args.self.now in
    let type = type_of c.args.ty.now in
    let takes = c.takes_first_value.ensures ∙ ap (λ x. is_scalar type && is_assignable (operand (expr_of x)) type) c.deref.ensures in
    let ok : LocalInitialiser → Checked LocalInitialiser = λ x. Ok x in
    ap (λ x. typed_first_value scope type (source_of x)) c.in-Value.is
    ∙ (first_value_goes scope type c.in-Value.equals (expr_source_of c.in-Value.value) (expr_in c.in_ok-e-in-Value.e) c.takes_first_value.result (Ok tt) c.in_ok-e-in-Value.ensures takes c.in_ok-asked-in-Value.ensures
    ∙ ap (λ x. ok (Value c.in-Value.equals (expr_of x))) (sym c.into_inner.ensures))
