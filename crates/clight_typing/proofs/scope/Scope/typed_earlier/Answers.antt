use Rattle.std.proofs.Common.{◌≡◌, ◌∙◌, ◌+◌, Ok, Err, rules, List, [], ◌∷◌, ap, sym, map, drop}
use Rattle.std.proofs.lemmas.List.{map-append}
use Rattle.clight_source.specs.Code.Views.{earlier_argument_of as source_of, expr_of as expr_source_of}
use Rattle.clight_syntax.specs.Code.TypedViews.{earlier_argument_of, expr_of}
use Rattle.clight_typing.specs.Code.HeldScopes.{scope_of}
use Rattle.clight_syntax.specs.TypedTrees.{Expr}
use Rattle.clight_types.specs.Code.HeldJudged.{expr_in}
use Rattle.clight_types.specs.TypedExpressions.{Checked, typed_value}
use Rattle.clight_typing.specs.TypedStatements.{typed_earlier}
use Rattle.clight_typing.proofs.Gives.{faulted}
use Rattle.clight_typing.proofs.LocalSteps.{earlier_next, earlier_fail}
use Rattle.clight_typing.proofs.Walks.{ahead, from_here}
use Rattle.clight_typing.proofs.scope.Scope.typed_earlier.Goals as goal

pub loop-x-preserved : goal.loop-x-preserved
loop-x-preserved c =
    let scope = scope_of c.args.self.now in
    let i = c.loop-x.x-index in
    let x = c.x-item.result in
    let before = map earlier_argument_of c.loop-x.typed.items in
    let ok : Expr → Checked Expr = λ x. Ok x in
    c.loop-x.invariant
    ∙ (ap (λ rest. ahead before (typed_earlier scope (map source_of rest))) (from_here c.args.xs.now i x c.loop-x-test.true c.x-item.is)
    ∙ earlier_next scope (source_of x) (map source_of (drop (i + 1) c.args.xs.now)) before (map earlier_argument_of c.push.new.self.items) (expr_of c.into_inner.result) (c.in_ok-value.ensures ∙ ap (λ x. ok (expr_of x)) (sym c.into_inner.ensures))
    (ap (map earlier_argument_of) c.in_ok-push.ensures.items ∙ map-append earlier_argument_of c.loop-x.typed.items (_ ∷ [])))

pub returns-in_err-value : goal.returns-in_err-value
returns-in_err-value c =
    let scope = scope_of c.args.self.now in
    let i = c.loop-x.x-index in
    let x = c.x-item.result in
    let before = map earlier_argument_of c.loop-x.typed.items in
    let same : c.from_residual.result ≡ Err c.in_err-value.field-0.0 = first_of (search rules, cc) in
    (faulted same expr_in _ (typed_value scope (expr_source_of x.value)) _ c.in_err-value.ensures
    (λ f h. c.loop-x.invariant
    ∙ (ap (λ rest. ahead before (typed_earlier scope (map source_of rest))) (from_here c.args.xs.now i x c.loop-x-test.true c.x-item.is)
    ∙ earlier_fail scope (source_of x) (map source_of (drop (i + 1) c.args.xs.now)) before f h)))
