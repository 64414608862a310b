-- Which statements are well typed (ISO/IEC 9899:1999, 6.5.2.2, 6.5.16 and 6.8), in the compiler's profile.
use Rattle.std.specs.Prelude.{◌≡◌, ℕ, ◌≤◌, Bool, true, false, ◌&&◌, not, IsTrue, List, [], ◌∷◌, ◌++◌, map, nat_eq, nat_le, Option, Some, None}
use Rattle.clight_source.specs.declared.tree.PrefixOperator.{PrefixOperator}
use Rattle.clight_source.specs.declared.tree.PrefixOperator.TheVariants.{AddressOf}
use Rattle.clight_syntax.specs.declared.typed.ResultTarget.{ResultTarget}
use Rattle.c_types.specs.Types.{CType, Void}
use Rattle.clight_syntax.specs.TypedTrees.{Expr, Variable, Number, Parenthesis, Binary, Prefix, Cast, Index, Select, type_at, Cond, Truth, InParentheses, Not, Both, Either, Assignment, Test, EarlierArgument, Arguments, NoArguments, Arguments', Call, ForHead, Stmt, Empty, Block, Assign, ReadPort, WritePort, CallOf, If, IfElse, While, Do, For, Break, Continue, Return, Stmts, NoStmts, Then}
use Rattle.c_types.specs.Kinds.{is_integer, is_scalar}
use Rattle.clight_types.specs.Assignable.{variable_of, takes, values_of, are_assignable, result_operand}
use Rattle.clight_types.specs.Operands.{is_assignable, operand}
use Rattle.clight_types.specs.Scopes.{Scope, Signature, Object, Code, meaning_of}
use Rattle.clight_types.specs.Expressions.{HasValue, HasType, IsConditional}

-- ---- what stands around the statements of a function

pub record Body : Type 0 where
  pub scope : Scope
  -- the type of the function's result
  pub result : CType
  -- the number of the function's first variable: those from here on that are visible are its parameters and locals
  pub first_variable : ℕ
  -- which of its variables have their address taken anywhere in it
  pub addressed : ℕ → Bool
  -- whether the statements stand in a loop
  pub in_loop : Bool

abbrev pub in_loop : Body → Body
in_loop body = record body { in_loop = true }

abbrev pub is_among : List ℕ → ℕ → Bool
is_among [] n = false
is_among (x ∷ rest) n = elim (nat_eq x n) [ true ↦ true | false ↦ is_among rest n ]

-- a parameter or local whose address isn't taken
abbrev pub is_own : Body → ℕ → Bool
is_own body variable = nat_le body.first_variable variable && not (body.addressed variable)

-- ---- variables whose address is taken

abbrev pub option_list : {A : Type 0} → Option A → List A
option_list None = []
option_list (Some x) = x ∷ []

abbrev pub taken : PrefixOperator → Expr → List ℕ
taken AddressOf e = option_list (variable_of e)
taken operator e = []

-- 6.5.3.2: the variables to which `&` is applied
abbrev pub addressed : Expr → List ℕ
addressed (Variable type variable name) = []
addressed (Number type number span) = []
addressed (Parenthesis type left e right) = addressed e
addressed (Binary type l operator at r) = addressed l ++ addressed r
addressed (Prefix type operator at e) = taken operator e ++ addressed e
addressed (Cast type left words right e) = addressed e
addressed (Index type base left index right) = addressed base ++ addressed index
addressed (Select type e operator at member offset) = addressed e

abbrev pub cond_addressed : {L : Type 0} → Cond L → List ℕ
cond_addressed (Truth e) = addressed e
cond_addressed (InParentheses left c right) = cond_addressed c
cond_addressed (Not at c) = cond_addressed c
cond_addressed (Both l at on_true on_false r) = cond_addressed l ++ cond_addressed r
cond_addressed (Either l at on_true on_false r) = cond_addressed l ++ cond_addressed r

abbrev pub optional_addressed : {A : Type 0} → (A → List ℕ) → Option A → List ℕ
optional_addressed of None = []
optional_addressed of (Some x) = of x

abbrev pub assignment_addressed : Assignment → List ℕ
assignment_addressed x = addressed x.target ++ addressed x.value

abbrev pub earlier_addressed : List EarlierArgument → List ℕ
earlier_addressed [] = []
earlier_addressed (x ∷ rest) = addressed x.value ++ earlier_addressed rest

abbrev pub arguments_addressed : Arguments → List ℕ
arguments_addressed NoArguments = []
arguments_addressed (Arguments' earlier last) = earlier_addressed earlier ++ addressed last

abbrev pub for_addressed : {L : Type 0} → ForHead L → List ℕ
for_addressed x =
    optional_addressed assignment_addressed x.first ++ (optional_addressed cond_addressed x.condition ++ optional_addressed assignment_addressed x.step)

abbrev mutual
  pub stmt_addressed : {L : Type 0} → Stmt L → List ℕ
  stmt_addressed (Empty a) = []
  stmt_addressed (Block left body right) = stmts_addressed body
  stmt_addressed (Assign x a) = assignment_addressed x
  stmt_addressed (ReadPort target equals port a) = addressed target
  stmt_addressed (WritePort port equals value a) = addressed value
  stmt_addressed (CallOf x a back) = arguments_addressed x.arguments
  stmt_addressed (If test one arm other) = cond_addressed test.condition ++ stmt_addressed arm
  stmt_addressed (IfElse test one arm at other otherwise) = cond_addressed test.condition ++ (stmt_addressed arm ++ stmt_addressed otherwise)
  stmt_addressed (While test turn body after) = cond_addressed test.condition ++ stmt_addressed body
  stmt_addressed (Do keyword body test again a after) = stmt_addressed body ++ cond_addressed test.condition
  stmt_addressed (For head turn body after) = for_addressed head ++ stmt_addressed body
  stmt_addressed (Break keyword a) = []
  stmt_addressed (Continue keyword a) = []
  stmt_addressed (Return keyword value a) = optional_addressed addressed value

  pub stmts_addressed : {L : Type 0} → Stmts L → List ℕ
  stmts_addressed NoStmts = []
  stmts_addressed (Then earlier last) = stmts_addressed earlier ++ stmt_addressed last

-- ---- the rules

-- what is there, if it is, obeys the rule
abbrev pub IfThere : {A : Type 0} → (A → Type 0) → Option A → Type 0
IfThere Obeys None = Unit {0}
IfThere Obeys (Some x) = Obeys x

abbrev pub IsAssignment : Scope → Assignment → Type 0
IsAssignment scope x = HasType scope x.target × HasValue scope x.value × IsTrue (takes x.target x.value)

abbrev pub HaveValues : Scope → List Expr → Type 0
HaveValues scope [] = Unit {0}
HaveValues scope (e ∷ rest) = HasValue scope e × HaveValues scope rest

-- the variable that takes a value of this kind: a scalar parameter or local whose address isn't taken
abbrev pub takes_result : Body → Signature → ℕ → CType → Bool
takes_result body signature variable type =
    is_own body variable && (is_scalar type && is_assignable (result_operand signature.result) type)

abbrev pub IsResultTarget : Body → Signature → ResultTarget → Type 0
IsResultTarget body signature x =
    (type : CType) × (meaning_of body.scope x.target.name.number ≡ Some (Object x.variable type)) × IsTrue (takes_result body signature x.variable type)

abbrev pub IsCall : Body → Call → Type 0
IsCall body x =
    (signature : Signature)
    × (meaning_of body.scope x.name.number ≡ Some (Code x.function signature))
    × HaveValues body.scope (values_of x.arguments)
    × IsTrue (are_assignable (values_of x.arguments) signature.parameters)
    × IfThere (IsResultTarget body signature) x.target

-- `x = P1` asks for an integer parameter or local whose address isn't taken
abbrev pub reads_into : Body → Expr → Bool
reads_into body target = elim (variable_of target) [ Some variable ↦ is_own body variable && is_integer (type_at target) | None ↦ false ]

-- 6.8.6.4: a value where the function has a result, and none where it has not
abbrev pub IsReturn : Body → Option Expr → Type 0
IsReturn body None = body.result ≡ Void
IsReturn body (Some e) = HasValue body.scope e × IsTrue (is_assignable (operand e) body.result)

abbrev pub IsForHead : {L : Type 0} → Scope → ForHead L → Type 0
IsForHead scope x =
    IfThere (IsAssignment scope) x.first × IfThere (IsConditional scope) x.condition × IfThere (IsAssignment scope) x.step

abbrev mutual
  pub IsTyped : {L : Type 0} → Body → Stmt L → Type 0
  IsTyped body (Empty a) = Unit {0}
  IsTyped body (Block left inner right) = AreTyped body inner
  IsTyped body (Assign x a) = IsAssignment body.scope x
  IsTyped body (ReadPort target equals port a) = HasType body.scope target × IsTrue (reads_into body target)
  IsTyped body (WritePort port equals value a) = HasValue body.scope value × IsTrue (is_integer (operand value).type)
  IsTyped body (CallOf x a back) = IsCall body x
  IsTyped body (If test one arm other) = IsConditional body.scope test.condition × IsTyped body arm
  IsTyped body (IfElse test one arm at other otherwise) = IsConditional body.scope test.condition × IsTyped body arm × IsTyped body otherwise
  IsTyped body (While test turn inner after) = IsConditional body.scope test.condition × IsTyped (in_loop body) inner
  IsTyped body (Do keyword inner test again a after) = IsTyped (in_loop body) inner × IsConditional body.scope test.condition
  IsTyped body (For head turn inner after) = IsForHead body.scope head × IsTyped (in_loop body) inner
  IsTyped body (Break keyword a) = IsTrue body.in_loop
  IsTyped body (Continue keyword a) = IsTrue body.in_loop
  IsTyped body (Return keyword value a) = IsReturn body value

  pub AreTyped : {L : Type 0} → Body → Stmts L → Type 0
  AreTyped body NoStmts = Unit {0}
  AreTyped body (Then earlier last) = AreTyped body earlier × IsTyped body last
