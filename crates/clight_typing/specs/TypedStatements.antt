-- The typed tree of a statement, or the first node of it that has no type (ISO/IEC 9899:1999, 6.5.2.2, 6.5.16 and 6.8). The parts of
-- a node are judged before the node itself, in the order of the text. The place of an assignment, of a port statement and of a call
-- with a target is its `=`, that of another statement its first token.
use Rattle.std.specs.Prelude.{◌≡◌, ℕ, Bool, true, false, ◌&&◌, not, List, [], ◌∷◌, ◌++◌, Option, Some, None, Result, Ok, Err, if◌then◌else◌}
use Rattle.cerco_base.specs.declared.reasons.TypeKind.{TypeKind}
use Rattle.cerco_base.specs.declared.reasons.TypeKind.TheVariants as k
use Rattle.clight_source.specs.declared.span.Span.{Span}
use Rattle.clight_source.specs.declared.tree.PrefixOperator.{PrefixOperator}
use Rattle.clight_source.specs.declared.tree.PrefixOperator.TheVariants.{AddressOf}
use Rattle.clight_source.specs.declared.tree.Name.{Name}
use Rattle.clight_source.specs.declared.tree.CallTarget.{CallTarget}
use Rattle.clight_syntax.specs.declared.typed.ResultTarget.{ResultTarget}
use Rattle.clight_source.specs.Trees as s
use Rattle.c_types.specs.Types.{CType, Void}
use Rattle.clight_syntax.specs.TypedTrees.{Expr, Cond, Assignment, Test, EarlierArgument, Arguments, NoArguments, Arguments', Call, ForHead, Stmt, Empty, Block, Assign, ReadPort, WritePort, CallOf, If, IfElse, While, Do, For, Break, Continue, Return, Stmts, NoStmts, Then}
use Rattle.c_types.specs.Kinds.{is_integer}
use Rattle.clight_types.specs.Operands.{is_assignable, operand}
use Rattle.clight_types.specs.Scopes.{Scope, Signature, Meaning, Object, Code, meaning_of}
use Rattle.clight_typing.specs.Functions.{is_void}
use Rattle.clight_types.specs.Assignable.{takes, values_of, are_assignable}
use Rattle.clight_typing.specs.Statements.{Body, in_loop, option_list, takes_result, reads_into}
use Rattle.clight_types.specs.TypedExpressions.{Checked, fault, ◌>>=◌, typed_value, typed_condition, typed_place}

-- ---- variables whose address is taken

-- the variable that an expression is, in any parentheses
abbrev pub object_number : Option Meaning → Option ℕ
object_number (Some (Object variable type)) = Some variable
object_number (Some (Code function signature)) = None
object_number None = None

abbrev pub variable_at : Scope → s.Expr → Option ℕ
variable_at scope (s.Variable name) = object_number (meaning_of scope name.number)
variable_at scope (s.Parenthesis left e right) = variable_at scope e
variable_at scope e = None

abbrev pub taken_at : Scope → PrefixOperator → s.Expr → List ℕ
taken_at scope AddressOf e = option_list (variable_at scope e)
taken_at scope operator e = []

-- 6.5.3.2: the variables to which `&` is applied
abbrev pub taken_in : Scope → s.Expr → List ℕ
taken_in scope (s.Variable name) = []
taken_in scope (s.Number number span) = []
taken_in scope (s.Parenthesis left e right) = taken_in scope e
taken_in scope (s.Binary l operator at r) = taken_in scope l ++ taken_in scope r
taken_in scope (s.Prefix operator at e) = taken_at scope operator e ++ taken_in scope e
taken_in scope (s.Cast left words right e) = taken_in scope e
taken_in scope (s.Index base left index right) = taken_in scope base ++ taken_in scope index
taken_in scope (s.Select e operator at member) = taken_in scope e

abbrev pub optional_taken : {A : Type 0} → (A → List ℕ) → Option A → List ℕ
optional_taken of None = []
optional_taken of (Some x) = of x

abbrev pub assignment_taken : Scope → s.Assignment → List ℕ
assignment_taken scope x = taken_in scope x.target ++ taken_in scope x.value

abbrev pub earlier_taken : Scope → List s.EarlierArgument → List ℕ
earlier_taken scope [] = []
earlier_taken scope (x ∷ rest) = taken_in scope x.value ++ earlier_taken scope rest

abbrev pub arguments_taken : Scope → s.Arguments → List ℕ
arguments_taken scope s.NoArguments = []
arguments_taken scope (s.Arguments' earlier last) = earlier_taken scope earlier ++ taken_in scope last

abbrev pub for_taken : Scope → s.ForHead → List ℕ
for_taken scope x =
    optional_taken (assignment_taken scope) x.first ++ (optional_taken (taken_in scope) x.condition ++ optional_taken (assignment_taken scope) x.step)

abbrev mutual
  pub stmt_taken : Scope → s.Stmt → List ℕ
  stmt_taken scope (s.Empty a) = []
  stmt_taken scope (s.Block left body right) = stmts_taken scope body
  stmt_taken scope (s.Assign x a) = assignment_taken scope x
  stmt_taken scope (s.ReadPort target equals port a) = taken_in scope target
  stmt_taken scope (s.WritePort port equals value a) = taken_in scope value
  stmt_taken scope (s.CallOf x a) = arguments_taken scope x.arguments
  stmt_taken scope (s.If test arm) = taken_in scope test.condition ++ stmt_taken scope arm
  stmt_taken scope (s.IfElse test arm at otherwise) = taken_in scope test.condition ++ (stmt_taken scope arm ++ stmt_taken scope otherwise)
  stmt_taken scope (s.While test body) = taken_in scope test.condition ++ stmt_taken scope body
  stmt_taken scope (s.Do keyword body test a) = stmt_taken scope body ++ taken_in scope test.condition
  stmt_taken scope (s.For head body) = for_taken scope head ++ stmt_taken scope body
  stmt_taken scope (s.Break keyword a) = []
  stmt_taken scope (s.Continue keyword a) = []
  stmt_taken scope (s.Return keyword value a) = optional_taken (taken_in scope) value

  pub stmts_taken : Scope → s.Stmts → List ℕ
  stmts_taken scope s.NoStmts = []
  stmts_taken scope (s.Then earlier last) = stmts_taken scope earlier ++ stmt_taken scope last

-- ---- assignments, conditions and ports

abbrev pub optional : {A B : Type 0} → (A → Checked B) → Option A → Checked (Option B)
optional typed None = Ok None
optional typed (Some x) = typed x >>= λ y. Ok (Some y)

abbrev pub assigned : Span → Option Expr → Expr → Checked Assignment
assigned equals (Some target) value =
    if takes target value then Ok (record { target = target; equals = equals; value = value }) else fault equals.from k.Assign
assigned equals None value = fault equals.from k.Assign

abbrev pub typed_assignment : Scope → s.Assignment → Checked Assignment
typed_assignment scope x = do
  target ← typed_place scope x.target
  value ← typed_value scope x.value
  assigned x.equals target value

abbrev pub typed_test : Scope → s.Test → Checked (Test (Unit {0}))
typed_test scope x = do
  condition ← typed_condition scope x.condition
  Ok (record { keyword = x.keyword; left = x.left; condition = condition; right = x.right })

abbrev pub read_port : Body → Option Expr → Span → Span → Span → Checked (Stmt (Unit {0}))
read_port body (Some target) equals port semicolon =
    if reads_into body target then Ok (ReadPort target equals port semicolon) else fault equals.from k.Port
read_port body None equals port semicolon = fault equals.from k.Port

abbrev pub typed_reading : Body → s.Expr → Span → Span → Span → Checked (Stmt (Unit {0}))
typed_reading body target equals port semicolon = do
  e ← typed_place body.scope target
  read_port body e equals port semicolon

abbrev pub typed_writing : Scope → Span → Span → s.Expr → Span → Checked (Stmt (Unit {0}))
typed_writing scope port equals value semicolon = do
  e ← typed_value scope value
  if is_integer (operand e).type then Ok (WritePort port equals e semicolon) else fault equals.from k.Port

-- ---- calls

abbrev pub typed_earlier : Scope → List s.EarlierArgument → Checked (List EarlierArgument)
typed_earlier scope [] = Ok []
typed_earlier scope (x ∷ rest) = do
  e ← typed_value scope x.value
  others ← typed_earlier scope rest
  Ok (record { value = e; comma = x.comma } ∷ others)

abbrev pub typed_arguments : Scope → s.Arguments → Checked Arguments
typed_arguments scope s.NoArguments = Ok NoArguments
typed_arguments scope (s.Arguments' earlier last) = do
  others ← typed_earlier scope earlier
  e ← typed_value scope last
  Ok (Arguments' others e)

abbrev pub call_place : s.Call → ℕ
call_place x = elim x.target [ None ↦ x.function.span.from | Some target ↦ target.equals.from ]

-- the variable that takes the result
abbrev pub result_target : Body → Signature → Option Meaning → CallTarget → Checked ResultTarget
result_target body signature (Some (Object variable type)) x =
    if takes_result body signature variable type then Ok (record { variable = variable; target = x }) else fault x.equals.from k.Call
result_target body signature (Some (Code function other)) x = fault x.equals.from k.Call
result_target body signature None x = fault x.equals.from k.Call

abbrev pub typed_target : Body → Signature → CallTarget → Checked ResultTarget
typed_target body signature x = result_target body signature (meaning_of body.scope x.name.number) x

abbrev pub call_of : Body → s.Call → Arguments → Option Meaning → Checked Call
call_of body x arguments (Some (Code function signature)) =
    if are_assignable (values_of arguments) signature.parameters
    then (do
      target ← optional (typed_target body signature) x.target
      Ok (record { target = target; function = function; name = x.function; left = x.left; arguments = arguments; right = x.right }))
    else fault (call_place x) k.Call
call_of body x values (Some (Object variable type)) = fault (call_place x) k.Call
call_of body x values None = fault (call_place x) k.Call

abbrev pub typed_call : Body → s.Call → Checked Call
typed_call body x = do
  arguments ← typed_arguments body.scope x.arguments
  call_of body x arguments (meaning_of body.scope x.function.number)

-- ---- jumps and returns

abbrev pub jump : Body → Span → Stmt (Unit {0}) → Checked (Stmt (Unit {0}))
jump body keyword x = if body.in_loop then Ok x else fault keyword.from k.Jump

abbrev pub typed_return : Body → Span → Option s.Expr → Span → Checked (Stmt (Unit {0}))
typed_return body keyword None semicolon = if is_void body.result then Ok (Return keyword None semicolon) else fault keyword.from k.Return
typed_return body keyword (Some value) semicolon = do
  e ← typed_value body.scope value
  if is_assignable (operand e) body.result then Ok (Return keyword (Some e) semicolon) else fault keyword.from k.Return

-- ---- statements

abbrev pub typed_for : Scope → s.ForHead → Checked (ForHead (Unit {0}))
typed_for scope x = do
  first ← optional (typed_assignment scope) x.first
  condition ← optional (typed_condition scope) x.condition
  step ← optional (typed_assignment scope) x.step
  Ok (record {
    keyword = x.keyword;
    left = x.left;
    first = first;
    first_semicolon = x.first_semicolon;
    condition = condition;
    second_semicolon = x.second_semicolon;
    step = step;
    right = x.right;
  })

abbrev mutual
  pub typed_stmt : Body → s.Stmt → Checked (Stmt (Unit {0}))
  typed_stmt body (s.Empty a) = Ok (Empty a)
  typed_stmt body (s.Block left inner right) = typed_stmts body inner >>= λ xs. Ok (Block left xs right)
  typed_stmt body (s.Assign x a) = typed_assignment body.scope x >>= λ y. Ok (Assign y a)
  typed_stmt body (s.ReadPort target equals port a) = typed_reading body target equals port a
  typed_stmt body (s.WritePort port equals value a) = typed_writing body.scope port equals value a
  typed_stmt body (s.CallOf x a) = typed_call body x >>= λ y. Ok (CallOf y a tt)
  typed_stmt body (s.If test arm) = typed_test body.scope test >>= λ t. typed_stmt body arm >>= λ x. Ok (If t tt x tt)
  typed_stmt body (s.IfElse test arm at otherwise) =
      typed_test body.scope test >>= λ t. typed_stmt body arm >>= λ x. typed_stmt body otherwise >>= λ y. Ok (IfElse t tt x at tt y)
  typed_stmt body (s.While test inner) = typed_test body.scope test >>= λ t. typed_stmt (in_loop body) inner >>= λ x. Ok (While t tt x tt)
  typed_stmt body (s.Do keyword inner test a) =
      typed_stmt (in_loop body) inner >>= λ x. typed_test body.scope test >>= λ t. Ok (Do keyword x t tt a tt)
  typed_stmt body (s.For head inner) = typed_for body.scope head >>= λ h. typed_stmt (in_loop body) inner >>= λ x. Ok (For h tt x tt)
  typed_stmt body (s.Break keyword a) = jump body keyword (Break keyword a)
  typed_stmt body (s.Continue keyword a) = jump body keyword (Continue keyword a)
  typed_stmt body (s.Return keyword value a) = typed_return body keyword value a

  pub typed_stmts : Body → s.Stmts → Checked (Stmts (Unit {0}))
  typed_stmts body s.NoStmts = Ok NoStmts
  typed_stmts body (s.Then earlier last) = typed_stmts body earlier >>= λ xs. typed_stmt body last >>= λ x. Ok (Then xs x)
