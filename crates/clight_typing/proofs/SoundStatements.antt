-- Where a statement is given a typed tree, that tree is well typed, and the statement is its source.
use Rattle.std.proofs.Common.{◌≡◌, ◌∙◌, ℕ, Bool, true, false, ◌&&◌, ◌||◌, IsTrue, List, [], ◌∷◌, map, Option, Some, None, Result, Ok, Err, refl, sym, ap, subst}
use Rattle.std.specs.Prelude.{IfOk, IfSome, if◌then◌else◌, not}
use Rattle.std.proofs.lemmas.Bool.{and_parts}
use Rattle.clight_source.specs.declared.span.Span.{Span}
use Rattle.clight_source.specs.declared.tree.CallTarget.{CallTarget}
use Rattle.clight_syntax.specs.declared.typed.ResultTarget.{ResultTarget}
use Rattle.cerco_base.specs.declared.reasons.TypeKind.TheVariants as k
use Rattle.clight_source.specs.Trees as s
use Rattle.c_types.specs.Types.{CType, Void, Integer, Pointer, Array, Struct}
use Rattle.clight_syntax.specs.TypedTrees.{Expr, type_at, Cond, Assignment, Test, EarlierArgument, Arguments, NoArguments, Arguments', Call, ForHead, Stmt, Empty, Block, Assign, ReadPort, WritePort, CallOf, If, IfElse, While, Do, For, Break, Continue, Return, Stmts, NoStmts, Then}
use Rattle.c_types.specs.Kinds.{is_integer}
use Rattle.clight_types.specs.Operands.{is_assignable, is_value, operand}
use Rattle.clight_types.specs.Scopes.{Scope, Signature, Meaning, Object, Code, meaning_of}
use Rattle.clight_types.specs.Expressions.{HasType, HasValue, IsConditional}
use Rattle.clight_typing.specs.Functions.{is_void}
use Rattle.clight_types.specs.Assignable.{takes, values_of, values_onto, are_assignable}
use Rattle.clight_typing.specs.Statements.{Body, in_loop, IfThere, IsAssignment, HaveValues, takes_result, IsResultTarget, IsCall, reads_into, IsReturn, IsForHead, IsTyped, AreTyped}
use Rattle.clight_typing.specs.Sources.{expr_source, cond_source, optional_source, assignment_source, test_source, earlier_argument_source, arguments_source, target_source, call_source, for_source, stmt_source, stmts_source}
use Rattle.clight_types.specs.TypedExpressions.{Checked, fault, ◌>>=◌, typed_value, typed_condition, typed_place}
use Rattle.clight_typing.specs.TypedStatements.{optional, assigned, typed_assignment, typed_test, read_port, typed_reading, typed_writing, typed_earlier, typed_arguments, call_place, result_target, typed_target, call_of, typed_call, jump, typed_return, typed_for, typed_stmt, typed_stmts}
use Rattle.clight_typing.proofs.Checks.{then_holds, if_holds}
use Rattle.clight_typing.proofs.SoundExpressions.{IsValueOf, IsConditionOf, IsPlaceOf, typed_value_right, typed_condition_right, typed_place_right}

-- what is there, if it is, obeys the rule and has this source
abbrev pub IfThereOf : {A B : Type 0} → (A → B → Type 0) → Option A → Option B → Type 0
IfThereOf Is None None = Unit {0}
IfThereOf Is (Some e) (Some t) = Is e t
IfThereOf Is e t = ⊥

pub optional_right : {A B : Type 0} (Is : A → B → Type 0) (typed : A → Checked B) (x : Option A) → ((a : A) → IfOk (typed a) (Is a)) → IfOk (optional typed x) (IfThereOf Is x)
optional_right Is typed None h = tt
optional_right Is typed (Some a) h = then_holds (Is a) (IfThereOf Is (Some a)) (typed a) (λ y. Ok (Some y)) (h a) (λ b hb. hb)

-- the rule and the source of what is there
there : {A B : Type 0} (Is : A → B → Type 0) (Obeys : B → Type 0) (source : B → A) → ((a : A) (b : B) → Is a b → Obeys b × (source b ≡ a)) →
    (x : Option A) (y : Option B) → IfThereOf Is x y → IfThere Obeys y × (optional_source source y ≡ x)
there Is Obeys source parts None None h = (tt, refl)
there Is Obeys source parts None (Some b) h = absurd h
there Is Obeys source parts (Some a) None h = absurd h
there Is Obeys source parts (Some a) (Some b) h = ((parts a b h).0, ap Some (parts a b h).1)

-- ---- assignments, tests and ports

abbrev pub IsAssignmentOf : Scope → s.Assignment → Assignment → Type 0
IsAssignmentOf scope x y = IsAssignment scope y × (assignment_source y ≡ x)

assigned_right : (scope : Scope) (x : s.Assignment) (target : Option Expr) (value : Expr) → IsPlaceOf scope x.target target → IsValueOf scope x.value value →
    IfOk (assigned x.equals target value) (IsAssignmentOf scope x)
assigned_right scope x None value h g = tt
assigned_right scope x (Some target) value h g =
    if_holds (IsAssignmentOf scope x) (takes target value) (Ok (record { target = target; equals = x.equals; value = value })) x.equals.from k.Assign
    (λ can. (
      (h.0, (g.0, g.1), can),
      ap (λ target. let y : s.Assignment = record { target = target; equals = x.equals; value = expr_source value } in y) h.1
          ∙ ap (λ value. let y : s.Assignment = record { target = x.target; equals = x.equals; value = value } in y) g.2,
    ))

pub typed_assignment_right : (scope : Scope) (x : s.Assignment) → IfOk (typed_assignment scope x) (IsAssignmentOf scope x)
typed_assignment_right scope x =
    then_holds (IsPlaceOf scope x.target) (IsAssignmentOf scope x) (typed_place scope x.target) _ (typed_place_right scope x.target)
    (λ target h. then_holds (IsValueOf scope x.value) (IsAssignmentOf scope x) (typed_value scope x.value) _ (typed_value_right scope x.value)
    (λ value g. assigned_right scope x target value h g))

abbrev pub IsTestOf : Scope → s.Test → Test (Unit {0}) → Type 0
IsTestOf scope x y = IsConditional scope y.condition × (test_source y ≡ x)

pub typed_test_right : (scope : Scope) (x : s.Test) → IfOk (typed_test scope x) (IsTestOf scope x)
typed_test_right scope x =
    then_holds (IsConditionOf scope x.condition) (IsTestOf scope x) (typed_condition scope x.condition) _ (typed_condition_right scope x.condition)
    (λ c h. (h.0, ap (λ c. let y : s.Test = record { keyword = x.keyword; left = x.left; condition = c; right = x.right } in y) h.1))

abbrev pub IsStmtOf : Body → s.Stmt → Stmt (Unit {0}) → Type 0
IsStmtOf body x y = IsTyped body y × (stmt_source y ≡ x)

abbrev pub AreStmtsOf : Body → s.Stmts → Stmts (Unit {0}) → Type 0
AreStmtsOf body x y = AreTyped body y × (stmts_source y ≡ x)

read_port_right : (body : Body) (target : s.Expr) (t : Option Expr) (equals port semicolon : Span) → IsPlaceOf body.scope target t →
    IfOk (read_port body t equals port semicolon) (IsStmtOf body (s.ReadPort target equals port semicolon))
read_port_right body target None equals port semicolon h = tt
read_port_right body target (Some t) equals port semicolon h =
    if_holds (IsStmtOf body (s.ReadPort target equals port semicolon)) (reads_into body t) (Ok (ReadPort t equals port semicolon)) equals.from k.Port
    (λ can. ((h.0, can), ap (λ target. s.ReadPort target equals port semicolon) h.1))

reading_right : (body : Body) (target : s.Expr) (equals port semicolon : Span) →
    IfOk (typed_reading body target equals port semicolon) (IsStmtOf body (s.ReadPort target equals port semicolon))
reading_right body target equals port semicolon =
    then_holds (IsPlaceOf body.scope target) (IsStmtOf body (s.ReadPort target equals port semicolon)) (typed_place body.scope target) _ (typed_place_right body.scope target)
    (λ t h. read_port_right body target t equals port semicolon h)

writing_right : (body : Body) (port equals : Span) (value : s.Expr) (semicolon : Span) →
    IfOk (typed_writing body.scope port equals value semicolon) (IsStmtOf body (s.WritePort port equals value semicolon))
writing_right body port equals value semicolon =
    then_holds (IsValueOf body.scope value) (IsStmtOf body (s.WritePort port equals value semicolon)) (typed_value body.scope value) _ (typed_value_right body.scope value)
    (λ t h. if_holds (IsStmtOf body (s.WritePort port equals value semicolon)) (is_integer (operand t).type) (Ok (WritePort port equals t semicolon)) equals.from k.Port
    (λ can. (((h.0, h.1), can), ap (λ value. s.WritePort port equals value semicolon) h.2)))

-- ---- calls

-- the values of some arguments
abbrev earlier_values : List EarlierArgument → List Expr
earlier_values [] = []
earlier_values (x ∷ rest) = x.value ∷ earlier_values rest

abbrev HaveEarlier : Scope → List EarlierArgument → Type 0
HaveEarlier scope [] = Unit {0}
HaveEarlier scope (x ∷ rest) = HasValue scope x.value × HaveEarlier scope rest

abbrev AreEarlierOf : Scope → List s.EarlierArgument → List EarlierArgument → Type 0
AreEarlierOf scope xs ys = HaveEarlier scope ys × (map earlier_argument_source ys ≡ xs)

earlier_right : (scope : Scope) (xs : List s.EarlierArgument) → IfOk (typed_earlier scope xs) (AreEarlierOf scope xs)
earlier_right scope [] = (tt, refl)
earlier_right scope (x ∷ rest) =
    then_holds (IsValueOf scope x.value) (AreEarlierOf scope (x ∷ rest)) (typed_value scope x.value) _ (typed_value_right scope x.value)
    (λ e h. then_holds (AreEarlierOf scope rest) (AreEarlierOf scope (x ∷ rest)) (typed_earlier scope rest) _ (earlier_right scope rest)
    (λ ys g. (
      ((h.0, h.1), g.0),
      ap (λ value. (let y : s.EarlierArgument = record { value = value; comma = x.comma } in y) ∷ map earlier_argument_source ys) h.2
          ∙ ap (λ ys. x ∷ ys) g.1,
    )))

have_onto : (scope : Scope) (earlier : List EarlierArgument) (last : Expr) → HaveEarlier scope earlier → HasValue scope last → HaveValues scope (values_onto earlier last)
have_onto scope [] last h g = (g, tt)
have_onto scope (x ∷ rest) last h g = (h.0, have_onto scope rest last h.1 g)

abbrev AreArgumentsOf : Scope → s.Arguments → Arguments → Type 0
AreArgumentsOf scope x y = HaveValues scope (values_of y) × (arguments_source y ≡ x)

arguments_right : (scope : Scope) (x : s.Arguments) → IfOk (typed_arguments scope x) (AreArgumentsOf scope x)
arguments_right scope s.NoArguments = (tt, refl)
arguments_right scope (s.Arguments' earlier last) =
    then_holds (AreEarlierOf scope earlier) (AreArgumentsOf scope (s.Arguments' earlier last)) (typed_earlier scope earlier) _ (earlier_right scope earlier)
    (λ ys h. then_holds (IsValueOf scope last) (AreArgumentsOf scope (s.Arguments' earlier last)) (typed_value scope last) _ (typed_value_right scope last)
    (λ e g. (have_onto scope ys e h.0 (g.0, g.1), ap (λ ys. s.Arguments' ys (expr_source e)) h.1 ∙ ap (λ e. s.Arguments' earlier e) g.2)))

abbrev IsTargetOf : Body → Signature → CallTarget → ResultTarget → Type 0
IsTargetOf body signature x y = IsResultTarget body signature y × (target_source y ≡ x)

target_right : (body : Body) (signature : Signature) (x : CallTarget) (meaning : Option Meaning) → meaning_of body.scope x.name.number ≡ meaning →
    IfOk (result_target body signature meaning x) (IsTargetOf body signature x)
target_right body signature x (Some (Object variable type)) is =
    if_holds (IsTargetOf body signature x) (takes_result body signature variable type) (Ok (record { variable = variable; target = x })) x.equals.from k.Call
    (λ can. ((type, is, can), refl))
target_right body signature x (Some (Code function other)) is = tt
target_right body signature x None is = tt

abbrev IsCallOf : Body → s.Call → Call → Type 0
IsCallOf body x y = IsCall body y × (call_source y ≡ x)

call_right : (body : Body) (x : s.Call) (arguments : Arguments) (meaning : Option Meaning) → AreArgumentsOf body.scope x.arguments arguments →
    meaning_of body.scope x.function.number ≡ meaning → IfOk (call_of body x arguments meaning) (IsCallOf body x)
call_right body x values (Some (Object variable type)) h is = tt
call_right body x values None h is = tt
call_right body x arguments (Some (Code function signature)) h is =
    if_holds (IsCallOf body x) (are_assignable (values_of arguments) signature.parameters) _ (call_place x) k.Call
    (λ can. then_holds (IfThereOf (IsTargetOf body signature) x.target) (IsCallOf body x) (optional (typed_target body signature) x.target) _
    (optional_right (IsTargetOf body signature) (typed_target body signature) x.target (λ t. target_right body signature t (meaning_of body.scope t.name.number) refl))
    (λ target g. let g' = there (IsTargetOf body signature) (IsResultTarget body signature) target_source (λ a b h. h) x.target target g in (
      (signature, is, h.0, can, g'.0),
      ap (λ target. let y : s.Call = record { target = target; function = x.function; left = x.left; arguments = arguments_source arguments; right = x.right } in y) g'.1
          ∙ ap (λ arguments. let y : s.Call = record { target = x.target; function = x.function; left = x.left; arguments = arguments; right = x.right } in y) h.1,
    )))

typed_call_right : (body : Body) (x : s.Call) → IfOk (typed_call body x) (IsCallOf body x)
typed_call_right body x =
    then_holds (AreArgumentsOf body.scope x.arguments) (IsCallOf body x) (typed_arguments body.scope x.arguments) _ (arguments_right body.scope x.arguments)
    (λ arguments h. call_right body x arguments (meaning_of body.scope x.function.number) h refl)

-- ---- the other statements

jump_right : (body : Body) (keyword : Span) (x : s.Stmt) (y : Stmt (Unit {0})) → (IsTrue body.in_loop → IsStmtOf body x y) → IfOk (jump body keyword y) (IsStmtOf body x)
jump_right body keyword x y h = if_holds (IsStmtOf body x) body.in_loop (Ok y) keyword.from k.Jump h

void_is : (type : CType) → IsTrue (is_void type) → type ≡ CType.Void
void_is Void h = refl
void_is (Integer size signed) h = absurd cc
void_is (Pointer target) h = absurd cc
void_is (Array element count) h = absurd cc
void_is (Struct number) h = absurd cc

return_right : (body : Body) (keyword : Span) (value : Option s.Expr) (semicolon : Span) → IfOk (typed_return body keyword value semicolon) (IsStmtOf body (s.Return keyword value semicolon))
return_right body keyword None semicolon =
    if_holds (IsStmtOf body (s.Return keyword None semicolon)) (is_void body.result) (Ok (Return keyword None semicolon)) keyword.from k.Return (λ h. (void_is body.result h, refl))
return_right body keyword (Some value) semicolon =
    then_holds (IsValueOf body.scope value) (IsStmtOf body (s.Return keyword (Some value) semicolon)) (typed_value body.scope value) _ (typed_value_right body.scope value)
    (λ e h. if_holds (IsStmtOf body (s.Return keyword (Some value) semicolon)) (is_assignable (operand e) body.result) (Ok (Return keyword (Some e) semicolon)) keyword.from k.Return
    (λ can. (((h.0, h.1), can), ap (λ e. s.Return keyword (Some e) semicolon) h.2)))

abbrev IsForHeadOf : Scope → s.ForHead → ForHead (Unit {0}) → Type 0
IsForHeadOf scope x y = IsForHead scope y × (for_source y ≡ x)

for_right : (scope : Scope) (x : s.ForHead) → IfOk (typed_for scope x) (IsForHeadOf scope x)
for_right scope x =
    then_holds (IfThereOf (IsAssignmentOf scope) x.first) (IsForHeadOf scope x) (optional (typed_assignment scope) x.first) _
    (optional_right (IsAssignmentOf scope) (typed_assignment scope) x.first (typed_assignment_right scope))
    (λ first hf. then_holds (IfThereOf (IsConditionOf scope) x.condition) (IsForHeadOf scope x) (optional (typed_condition scope) x.condition) _
    (optional_right (IsConditionOf scope) (typed_condition scope) x.condition (typed_condition_right scope))
    (λ condition hc. then_holds (IfThereOf (IsAssignmentOf scope) x.step) (IsForHeadOf scope x) (optional (typed_assignment scope) x.step) _
    (optional_right (IsAssignmentOf scope) (typed_assignment scope) x.step (typed_assignment_right scope))
    (λ step hs.
    let f = there (IsAssignmentOf scope) (IsAssignment scope) assignment_source (λ a b h. h) x.first first hf in
    let c = there (IsConditionOf scope) (IsConditional scope) cond_source (λ a b h. h) x.condition condition hc in
    let t = there (IsAssignmentOf scope) (IsAssignment scope) assignment_source (λ a b h. h) x.step step hs in (
      (f.0, c.0, t.0),
      ap (λ first. head first (optional_source cond_source condition) (optional_source assignment_source step)) f.1
          ∙ (ap (λ condition. head x.first condition (optional_source assignment_source step)) c.1
          ∙ ap (λ step. head x.first x.condition step) t.1),
    ))))
  where
    head : Option s.Assignment → Option s.Expr → Option s.Assignment → s.ForHead
    head first condition step = record {
      keyword = x.keyword;
      left = x.left;
      first = first;
      first_semicolon = x.first_semicolon;
      condition = condition;
      second_semicolon = x.second_semicolon;
      step = step;
      right = x.right;
    }

-- a part, and the statement that it makes
wrapped : {A B : Type 0} (P : A → Type 0) (Q : B → Type 0) (x : Checked A) (make : A → B) → IfOk x P → ((a : A) → P a → Q (make a)) → IfOk (x >>= λ a. Ok (make a)) Q
wrapped P Q x make h f = then_holds P Q x (λ a. Ok (make a)) h f

mutual
  pub typed_stmt_right : (body : Body) (x : s.Stmt) → IfOk (typed_stmt body x) (IsStmtOf body x)
  typed_stmt_right body (s.Empty a) = (tt, refl)
  typed_stmt_right body (s.Block left inner right) =
      wrapped (AreStmtsOf body inner) (IsStmtOf body (s.Block left inner right)) (typed_stmts body inner) _ (typed_stmts_right body inner)
      (λ xs h. (h.0, ap (λ inner. s.Block left inner right) h.1))
  typed_stmt_right body (s.Assign x a) =
      wrapped (IsAssignmentOf body.scope x) (IsStmtOf body (s.Assign x a)) (typed_assignment body.scope x) _ (typed_assignment_right body.scope x)
      (λ y h. (h.0, ap (λ x. s.Assign x a) h.1))
  typed_stmt_right body (s.ReadPort target equals port a) = reading_right body target equals port a
  typed_stmt_right body (s.WritePort port equals value a) = writing_right body port equals value a
  typed_stmt_right body (s.CallOf x a) =
      wrapped (IsCallOf body x) (IsStmtOf body (s.CallOf x a)) (typed_call body x) _ (typed_call_right body x) (λ y h. (h.0, ap (λ x. s.CallOf x a) h.1))
  typed_stmt_right body (s.If test arm) =
      then_holds (IsTestOf body.scope test) (IsStmtOf body (s.If test arm)) (typed_test body.scope test) _ (typed_test_right body.scope test)
      (λ t h. wrapped (IsStmtOf body arm) (IsStmtOf body (s.If test arm)) (typed_stmt body arm) _ (typed_stmt_right body arm)
      (λ x g. ((h.0, g.0), ap (λ test. s.If test (stmt_source x)) h.1 ∙ ap (λ arm. s.If test arm) g.1)))
  typed_stmt_right body (s.IfElse test arm at otherwise) =
      then_holds (IsTestOf body.scope test) (IsStmtOf body (s.IfElse test arm at otherwise)) (typed_test body.scope test) _ (typed_test_right body.scope test)
      (λ t h. then_holds (IsStmtOf body arm) (IsStmtOf body (s.IfElse test arm at otherwise)) (typed_stmt body arm) _ (typed_stmt_right body arm)
      (λ x g. wrapped (IsStmtOf body otherwise) (IsStmtOf body (s.IfElse test arm at otherwise)) (typed_stmt body otherwise) _ (typed_stmt_right body otherwise)
      (λ y f. (
        (h.0, g.0, f.0),
        ap (λ test. s.IfElse test (stmt_source x) at (stmt_source y)) h.1 ∙ (ap (λ arm. s.IfElse test arm at (stmt_source y)) g.1 ∙ ap (λ otherwise. s.IfElse test arm at otherwise) f.1),
      ))))
  typed_stmt_right body (s.While test inner) =
      then_holds (IsTestOf body.scope test) (IsStmtOf body (s.While test inner)) (typed_test body.scope test) _ (typed_test_right body.scope test)
      (λ t h. wrapped (IsStmtOf (in_loop body) inner) (IsStmtOf body (s.While test inner)) (typed_stmt (in_loop body) inner) _ (typed_stmt_right (in_loop body) inner)
      (λ x g. ((h.0, g.0), ap (λ test. s.While test (stmt_source x)) h.1 ∙ ap (λ inner. s.While test inner) g.1)))
  typed_stmt_right body (s.Do keyword inner test a) =
      then_holds (IsStmtOf (in_loop body) inner) (IsStmtOf body (s.Do keyword inner test a)) (typed_stmt (in_loop body) inner) _ (typed_stmt_right (in_loop body) inner)
      (λ x g. wrapped (IsTestOf body.scope test) (IsStmtOf body (s.Do keyword inner test a)) (typed_test body.scope test) _ (typed_test_right body.scope test)
      (λ t h. ((g.0, h.0), ap (λ inner. s.Do keyword inner (test_source t) a) g.1 ∙ ap (λ test. s.Do keyword inner test a) h.1)))
  typed_stmt_right body (s.For head inner) =
      then_holds (IsForHeadOf body.scope head) (IsStmtOf body (s.For head inner)) (typed_for body.scope head) _ (for_right body.scope head)
      (λ t h. wrapped (IsStmtOf (in_loop body) inner) (IsStmtOf body (s.For head inner)) (typed_stmt (in_loop body) inner) _ (typed_stmt_right (in_loop body) inner)
      (λ x g. ((h.0, g.0), ap (λ head. s.For head (stmt_source x)) h.1 ∙ ap (λ inner. s.For head inner) g.1)))
  typed_stmt_right body (s.Break keyword a) = jump_right body keyword (s.Break keyword a) (Break keyword a) (λ h. (h, refl))
  typed_stmt_right body (s.Continue keyword a) = jump_right body keyword (s.Continue keyword a) (Continue keyword a) (λ h. (h, refl))
  typed_stmt_right body (s.Return keyword value a) = return_right body keyword value a

  pub typed_stmts_right : (body : Body) (x : s.Stmts) → IfOk (typed_stmts body x) (AreStmtsOf body x)
  typed_stmts_right body s.NoStmts = (tt, refl)
  typed_stmts_right body (s.Then earlier last) =
      then_holds (AreStmtsOf body earlier) (AreStmtsOf body (s.Then earlier last)) (typed_stmts body earlier) _ (typed_stmts_right body earlier)
      (λ xs h. wrapped (IsStmtOf body last) (AreStmtsOf body (s.Then earlier last)) (typed_stmt body last) _ (typed_stmt_right body last)
      (λ x g. ((h.0, g.0), ap (λ earlier. s.Then earlier (stmt_source x)) h.1 ∙ ap (λ last. s.Then earlier last) g.1)))
