-- Each well-typed statement is the one that its source is given: a statement is refused only where there is none.
use Rattle.std.proofs.Common.{◌≡◌, ◌∙◌, ℕ, Bool, true, false, ◌&&◌, ◌||◌, IsTrue, List, [], ◌∷◌, map, Option, Some, None, Result, Ok, Err, refl, sym, ap, subst}
use Rattle.std.specs.Prelude.{if◌then◌else◌, not}
use Rattle.clight_source.specs.declared.span.Span.{Span}
use Rattle.clight_source.specs.declared.tree.CallTarget.{CallTarget}
use Rattle.clight_syntax.specs.declared.typed.ResultTarget.{ResultTarget}
use Rattle.cerco_base.specs.declared.reasons.TypeKind.TheVariants as k
use Rattle.clight_source.specs.Trees as s
use Rattle.c_types.specs.Types.{CType, Void, Integer, Pointer, Array, Struct}
use Rattle.clight_syntax.specs.TypedTrees.{Expr, type_at, Cond, Assignment, Test, EarlierArgument, Arguments, NoArguments, Arguments', Call, ForHead, Stmt, Empty, Block, Assign, ReadPort, WritePort, CallOf, If, IfElse, While, Do, For, Break, Continue, Return, Stmts, NoStmts, Then}
use Rattle.c_types.specs.Kinds.{is_integer}
use Rattle.clight_types.specs.Operands.{is_assignable, is_value, operand}
use Rattle.clight_types.specs.Scopes.{Scope, Signature, Meaning, Object, Code, meaning_of}
use Rattle.clight_types.specs.Expressions.{HasType, HasValue, IsConditional}
use Rattle.clight_typing.specs.Functions.{is_void}
use Rattle.clight_types.specs.Assignable.{takes, values_of, values_onto, are_assignable}
use Rattle.clight_typing.specs.Statements.{Body, in_loop, IfThere, IsAssignment, HaveValues, takes_result, IsResultTarget, IsCall, reads_into, IsReturn, IsForHead, IsTyped, AreTyped}
use Rattle.clight_typing.specs.Sources.{expr_source, cond_source, optional_source, assignment_source, test_source, earlier_argument_source, arguments_source, target_source, call_source, for_source, stmt_source, stmts_source}
use Rattle.clight_types.specs.TypedExpressions.{Checked, fault, ◌>>=◌, typed_value, typed_condition, typed_place}
use Rattle.clight_typing.specs.TypedStatements.{optional, assigned, typed_assignment, typed_test, read_port, typed_reading, typed_writing, typed_earlier, typed_arguments, call_place, result_target, typed_target, call_of, typed_call, jump, typed_return, typed_for, typed_stmt, typed_stmts}
use Rattle.clight_typing.proofs.Checks.{if_true}
use Rattle.clight_typing.proofs.CompleteExpressions.{goes, typed_value_given, typed_condition_given, typed_place_given}

pub optional_given : {A B : Type 0} (Obeys : B → Type 0) (typed : A → Checked B) (source : B → A) → ((b : B) → Obeys b → typed (source b) ≡ Ok b) →
    (y : Option B) → IfThere Obeys y → optional typed (optional_source source y) ≡ Ok y
optional_given Obeys typed source given None h = refl
optional_given Obeys typed source given (Some b) h = goes (typed (source b)) b (λ y. Ok (Some y)) (given b h)

pub typed_assignment_given : (scope : Scope) (y : Assignment) → IsAssignment scope y → typed_assignment scope (assignment_source y) ≡ Ok y
typed_assignment_given scope y h =
    goes (typed_place scope (expr_source y.target)) (Some y.target) _ (typed_place_given scope y.target h.0)
    ∙ (goes (typed_value scope (expr_source y.value)) y.value _ (typed_value_given scope y.value h.1)
    ∙ if_true (takes y.target y.value) (Ok y) (fault y.equals.from k.Assign) h.2)

typed_test_given : (scope : Scope) (y : Test (Unit {0})) → IsConditional scope y.condition → typed_test scope (test_source y) ≡ Ok y
typed_test_given scope y h = goes (typed_condition scope (cond_source y.condition)) y.condition _ (typed_condition_given scope y.condition h)

reading_given : (body : Body) (target : Expr) (equals port semicolon : Span) → HasType body.scope target → IsTrue (reads_into body target) →
    typed_reading body (expr_source target) equals port semicolon ≡ Ok (ReadPort target equals port semicolon)
reading_given body target equals port semicolon h can =
    goes (typed_place body.scope (expr_source target)) (Some target) _ (typed_place_given body.scope target h)
    ∙ if_true (reads_into body target) (Ok (ReadPort target equals port semicolon)) (fault equals.from k.Port) can

writing_given : (body : Body) (port equals : Span) (value : Expr) (semicolon : Span) → HasValue body.scope value → IsTrue (is_integer (operand value).type) →
    typed_writing body.scope port equals (expr_source value) semicolon ≡ Ok (WritePort port equals value semicolon)
writing_given body port equals value semicolon h can =
    goes (typed_value body.scope (expr_source value)) value _ (typed_value_given body.scope value h)
    ∙ if_true (is_integer (operand value).type) (Ok (WritePort port equals value semicolon)) (fault equals.from k.Port) can

-- ---- calls

abbrev HaveEarlier : Scope → List EarlierArgument → Type 0
HaveEarlier scope [] = Unit {0}
HaveEarlier scope (x ∷ rest) = HasValue scope x.value × HaveEarlier scope rest

have_earlier : (scope : Scope) (earlier : List EarlierArgument) (last : Expr) → HaveValues scope (values_onto earlier last) → HaveEarlier scope earlier × HasValue scope last
have_earlier scope [] last h = (tt, h.0)
have_earlier scope (x ∷ rest) last h = let parts = have_earlier scope rest last h.1 in ((h.0, parts.0), parts.1)

earlier_given : (scope : Scope) (ys : List EarlierArgument) → HaveEarlier scope ys → typed_earlier scope (map earlier_argument_source ys) ≡ Ok ys
earlier_given scope [] h = refl
earlier_given scope (y ∷ rest) h =
    goes (typed_value scope (expr_source y.value)) y.value _ (typed_value_given scope y.value h.0)
    ∙ goes (typed_earlier scope (map earlier_argument_source rest)) rest (λ others. Ok ((let x : EarlierArgument = record { value = y.value; comma = y.comma } in x) ∷ others)) (earlier_given scope rest h.1)

arguments_given : (scope : Scope) (y : Arguments) → HaveValues scope (values_of y) → typed_arguments scope (arguments_source y) ≡ Ok y
arguments_given scope NoArguments h = refl
arguments_given scope (Arguments' earlier last) h =
    let parts = have_earlier scope earlier last h in
    goes (typed_earlier scope (map earlier_argument_source earlier)) earlier _ (earlier_given scope earlier parts.0)
    ∙ goes (typed_value scope (expr_source last)) last (λ e. Ok (Arguments' earlier e)) (typed_value_given scope last parts.1)

target_given : (body : Body) (signature : Signature) (y : ResultTarget) → IsResultTarget body signature y → typed_target body signature (target_source y) ≡ Ok y
target_given body signature y h =
    ap (λ meaning. result_target body signature meaning y.target) h.1
    ∙ if_true (takes_result body signature y.variable h.0) (Ok y) (fault y.target.equals.from k.Call) h.2

typed_call_given : (body : Body) (y : Call) → IsCall body y → typed_call body (call_source y) ≡ Ok y
typed_call_given body y h =
    goes (typed_arguments body.scope (arguments_source y.arguments)) y.arguments _ (arguments_given body.scope y.arguments h.2)
    ∙ (ap (λ meaning. call_of body (call_source y) y.arguments meaning) h.1
    ∙ (if_true (are_assignable (values_of y.arguments) h.0.parameters) _ (fault (call_place (call_source y)) k.Call) h.3
    ∙ goes (optional (typed_target body h.0) (optional_source target_source y.target)) y.target (λ target. Ok (record y { target = target }))
    (optional_given (IsResultTarget body h.0) (typed_target body h.0) target_source (target_given body h.0) y.target h.4)))

-- ---- the other statements

is_void_given : (type : CType) → type ≡ CType.Void → IsTrue (is_void type)
is_void_given type h = ap is_void h

return_given : (body : Body) (keyword : Span) (value : Option Expr) (semicolon : Span) → IsReturn body value →
    typed_return body keyword (optional_source expr_source value) semicolon ≡ Ok (Return keyword value semicolon)
return_given body keyword None semicolon h =
    if_true (is_void body.result) (Ok (Return keyword None semicolon)) (fault keyword.from k.Return) (is_void_given body.result h)
return_given body keyword (Some value) semicolon h =
    goes (typed_value body.scope (expr_source value)) value _ (typed_value_given body.scope value h.0)
    ∙ if_true (is_assignable (operand value) body.result) (Ok (Return keyword (Some value) semicolon)) (fault keyword.from k.Return) h.1

for_given : (scope : Scope) (y : ForHead (Unit {0})) → IsForHead scope y → typed_for scope (for_source y) ≡ Ok y
for_given scope y h =
    goes (optional (typed_assignment scope) (optional_source assignment_source y.first)) y.first _
    (optional_given (IsAssignment scope) (typed_assignment scope) assignment_source (typed_assignment_given scope) y.first h.0)
    ∙ (goes (optional (typed_condition scope) (optional_source cond_source y.condition)) y.condition _
    (optional_given (IsConditional scope) (typed_condition scope) cond_source (typed_condition_given scope) y.condition h.1)
    ∙ goes (optional (typed_assignment scope) (optional_source assignment_source y.step)) y.step (λ step. Ok (record y { step = step }))
    (optional_given (IsAssignment scope) (typed_assignment scope) assignment_source (typed_assignment_given scope) y.step h.2))

mutual
  pub typed_stmt_given : (body : Body) (y : Stmt (Unit {0})) → IsTyped body y → typed_stmt body (stmt_source y) ≡ Ok y
  typed_stmt_given body (Empty a) h = refl
  typed_stmt_given body (Block left inner right) h = goes (typed_stmts body (stmts_source inner)) inner (λ xs. Ok (Block left xs right)) (typed_stmts_given body inner h)
  typed_stmt_given body (Assign y a) h = goes (typed_assignment body.scope (assignment_source y)) y (λ y. Ok (Assign y a)) (typed_assignment_given body.scope y h)
  typed_stmt_given body (ReadPort target equals port a) h = reading_given body target equals port a h.0 h.1
  typed_stmt_given body (WritePort port equals value a) h = writing_given body port equals value a h.0 h.1
  typed_stmt_given body (CallOf y a back) h = goes (typed_call body (call_source y)) y (λ y. Ok (CallOf y a tt)) (typed_call_given body y h)
  typed_stmt_given body (If test one arm other) h =
      goes (typed_test body.scope (test_source test)) test _ (typed_test_given body.scope test h.0)
      ∙ goes (typed_stmt body (stmt_source arm)) arm (λ x. Ok (If test tt x tt)) (typed_stmt_given body arm h.1)
  typed_stmt_given body (IfElse test one arm at other otherwise) h =
      goes (typed_test body.scope (test_source test)) test _ (typed_test_given body.scope test h.0)
      ∙ (goes (typed_stmt body (stmt_source arm)) arm _ (typed_stmt_given body arm h.1)
      ∙ goes (typed_stmt body (stmt_source otherwise)) otherwise (λ y. Ok (IfElse test tt arm at tt y)) (typed_stmt_given body otherwise h.2))
  typed_stmt_given body (While test turn inner after) h =
      goes (typed_test body.scope (test_source test)) test _ (typed_test_given body.scope test h.0)
      ∙ goes (typed_stmt (in_loop body) (stmt_source inner)) inner (λ x. Ok (While test tt x tt)) (typed_stmt_given (in_loop body) inner h.1)
  typed_stmt_given body (Do keyword inner test again a after) h =
      goes (typed_stmt (in_loop body) (stmt_source inner)) inner _ (typed_stmt_given (in_loop body) inner h.0)
      ∙ goes (typed_test body.scope (test_source test)) test (λ t. Ok (Do keyword inner t tt a tt)) (typed_test_given body.scope test h.1)
  typed_stmt_given body (For head turn inner after) h =
      goes (typed_for body.scope (for_source head)) head _ (for_given body.scope head h.0)
      ∙ goes (typed_stmt (in_loop body) (stmt_source inner)) inner (λ x. Ok (For head tt x tt)) (typed_stmt_given (in_loop body) inner h.1)
  typed_stmt_given body (Break keyword a) h = if_true body.in_loop (Ok (Break keyword a)) (fault keyword.from k.Jump) h
  typed_stmt_given body (Continue keyword a) h = if_true body.in_loop (Ok (Continue keyword a)) (fault keyword.from k.Jump) h
  typed_stmt_given body (Return keyword value a) h = return_given body keyword value a h

  pub typed_stmts_given : (body : Body) (y : Stmts (Unit {0})) → AreTyped body y → typed_stmts body (stmts_source y) ≡ Ok y
  typed_stmts_given body NoStmts h = refl
  typed_stmts_given body (Then earlier last) h =
      goes (typed_stmts body (stmts_source earlier)) earlier _ (typed_stmts_given body earlier h.0)
      ∙ goes (typed_stmt body (stmt_source last)) last (λ x. Ok (Then earlier x)) (typed_stmt_given body last h.1)
