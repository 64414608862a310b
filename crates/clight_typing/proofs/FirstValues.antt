-- The first value of a local, where its expression is typed and it is asked whether the local takes it.
use Rattle.std.proofs.Common.{◌≡◌, ◌∙◌, Bool, ◌&&◌, Result, Ok, sym, ap}
use Rattle.cerco_base.specs.declared.reasons.TypeKind.TheVariants as k
use Rattle.clight_source.specs.declared.span.Span.{Span}
use Rattle.clight_source.specs.Trees as s
use Rattle.c_types.specs.Types.{CType}
use Rattle.c_types.specs.Kinds.{is_scalar}
use Rattle.clight_syntax.specs.TypedTrees.{Expr, LocalInitialiser, Value}
use Rattle.clight_types.specs.Operands.{is_assignable, operand}
use Rattle.clight_types.specs.Scopes.{Scope}
use Rattle.clight_types.specs.TypedExpressions.{Checked, ◌>>=◌, typed_value}
use Rattle.clight_typing.specs.TypedPrograms.{asked, typed_first_value}

pub first_value_goes : (scope : Scope) (type : CType) (equals : Span) (value : s.Expr) (e : Expr) (takes : Bool) (asks : Checked (Unit {0})) → typed_value scope value ≡ Ok e →
    takes ≡ (is_scalar type && is_assignable (operand e) type) → asked takes equals.from k.Init ≡ asks →
    typed_first_value scope type (s.Value equals value) ≡ (asks >>= λ one. let z : Checked LocalInitialiser = Ok (Value equals e) in z)
first_value_goes scope type equals value e takes asks typed holds answers =
    let next : Expr → Bool → Checked LocalInitialiser = λ e b. asked b equals.from k.Init >>= λ one. let z : Checked LocalInitialiser = Ok (Value equals e) in z in
    ap (λ x. x >>= λ e. next e (is_scalar type && is_assignable (operand e) type)) typed
    ∙ (ap (next e) (sym holds)
    ∙ ap (λ a. a >>= λ one. let z : Checked LocalInitialiser = Ok (Value equals e) in z) answers)
