-- Statements whose expressions are typed and whose calls fit (ISO/IEC 9899:1999, 6.5.2.2, 6.5.16 and 6.8), and what the layout and the call
-- paths keep at each call.
use Rattle.std.specs.Prelude.{◌≡◌, ℕ, ◌<◌, ◌≤◌, List, [], ◌∷◌, length, Option, Some, None, slice_get}
use Rattle.c_types.specs.Types.{CType}
use Rattle.clight_syntax.specs.declared.typed.Home.{Home}
use Rattle.clight_syntax.specs.declared.typed.Home.TheVariants as h
use Rattle.clight_syntax.specs.declared.typed.ResultTarget.{ResultTarget}
use Rattle.clight_syntax.specs.TypedTrees.{Expr, Variable, Parenthesis, type_at, Cond, Assignment, Call, Stmt, Empty, Block, Assign, ReadPort, WritePort, CallOf, If, IfElse, While, Do, For, Break, Continue, Return, Stmts, NoStmts, Then, Function, Variable', TypedProgram}
use Rattle.clight_meaning.specs.Meaning.{argument_list}
use Rattle.clight_programs.specs.Scopes.{IsShort, IsShortScalar, IsVariable}
use Rattle.clight_programs.specs.Expressions.{IsTyped, IsTypedCond}

-- what is known of functions by number besides their code: where their frames begin and end, and how deep they are called
pub record Paths : Type 0 where
  pub begin : ℕ → ℕ
  pub end : ℕ → ℕ
  pub depth : ℕ → ℕ

abbrev pub IsOwnScalar : Home → Type 0
IsOwnScalar (h.Global b) = ⊥
IsOwnScalar (h.Block b) = ⊥
IsOwnScalar (h.Scalar n) = Unit {0}

abbrev pub IsScalarIn : Option Variable' → Type 0
IsScalarIn None = ⊥
IsScalarIn (Some x) = IsOwnScalar x.home

-- a place is a scalar that lives in no block
abbrev pub IsScalarPlace : {L : Type 0} → TypedProgram L → Expr → Type 0
IsScalarPlace p (Variable T n name) = IsScalarIn (slice_get p.variables n)
IsScalarPlace p (Parenthesis T left e right) = IsScalarPlace p e
IsScalarPlace p e = ⊥

abbrev pub AssignmentFits : {L : Type 0} → TypedProgram L → Function L → Assignment → Type 0
AssignmentFits p f a = IsTyped p f a.target × IsTyped p f a.value × IsShort (type_at a.target)

abbrev pub AssignmentFitsIfAny : {L : Type 0} → TypedProgram L → Function L → Option Assignment → Type 0
AssignmentFitsIfAny p f None = Unit {0}
AssignmentFitsIfAny p f (Some a) = AssignmentFits p f a

abbrev pub AllTyped : {L : Type 0} → TypedProgram L → Function L → List Expr → Type 0
AllTyped p f [] = Unit {0}
AllTyped p f (e ∷ es) = IsTyped p f e × AllTyped p f es

-- a result goes into a scalar that lives in no block
pub record TargetFits {L : Type 0} (p : TypedProgram L) (f g : Function L) (target : ResultTarget) : Type 0 where
  pub type : CType
  pub variable : IsVariable p f target.variable type
  pub scalar : IsScalarIn (slice_get p.variables target.variable)
  pub short : IsShort type
  pub result : IsShortScalar g.result

abbrev pub TargetFitsIfAny : {L : Type 0} → TypedProgram L → Function L → Function L → Option ResultTarget → Type 0
TargetFitsIfAny p f g None = Unit {0}
TargetFitsIfAny p f g (Some target) = TargetFits p f g target

-- a call in the function with number h: its callee's frame begins where the caller's ends or later, and its callee is deeper
pub record CallFits {L : Type 0} (p : TypedProgram L) (paths : Paths) (h : ℕ) (f : Function L) (c : Call) : Type 0 where
  pub callee : Function L
  pub is : slice_get p.functions c.function ≡ Some callee
  pub typed : AllTyped p f (argument_list c.arguments)
  pub many : length (argument_list c.arguments) ≡ callee.parameters
  pub target : TargetFitsIfAny p f callee c.target
  pub after : paths.end h ≤ paths.begin c.function
  pub deeper : paths.depth h < paths.depth c.function

abbrev pub CondFitsIfAny : {L : Type 0} → TypedProgram L → Function L → Option (Cond L) → Type 0
CondFitsIfAny p f None = Unit {0}
CondFitsIfAny p f (Some c) = IsTypedCond p f c

abbrev pub ValueFitsIfAny : {L : Type 0} → TypedProgram L → Function L → Option Expr → Type 0
ValueFitsIfAny p f None = Unit {0}
ValueFitsIfAny p f (Some e) = IsTyped p f e

abbrev mutual
  pub StmtFits : {L : Type 0} → TypedProgram L → Paths → ℕ → Function L → Stmt L → Type 0
  StmtFits p paths h f (Empty semicolon) = Unit {0}
  StmtFits p paths h f (Block left body right) = StmtsFit p paths h f body
  StmtFits p paths h f (Assign a semicolon) = AssignmentFits p f a
  StmtFits p paths h f (ReadPort target equals port semicolon) = IsTyped p f target × IsShort (type_at target) × IsScalarPlace p target
  StmtFits p paths h f (WritePort port equals e semicolon) = IsTyped p f e
  StmtFits p paths h f (CallOf c semicolon back) = CallFits p paths h f c
  StmtFits p paths h f (If test one arm other) = IsTypedCond p f test.condition × StmtFits p paths h f arm
  StmtFits p paths h f (IfElse test one arm keyword other otherwise) = IsTypedCond p f test.condition × StmtFits p paths h f arm × StmtFits p paths h f otherwise
  StmtFits p paths h f (While test turn body after) = IsTypedCond p f test.condition × StmtFits p paths h f body
  StmtFits p paths h f (Do keyword body test again semicolon after) = StmtFits p paths h f body × IsTypedCond p f test.condition
  StmtFits p paths h f (For head turn body after) =
      AssignmentFitsIfAny p f head.first × CondFitsIfAny p f head.condition × AssignmentFitsIfAny p f head.step × StmtFits p paths h f body
  StmtFits p paths h f (Break keyword semicolon) = Unit {0}
  StmtFits p paths h f (Continue keyword semicolon) = Unit {0}
  StmtFits p paths h f (Return keyword e semicolon) = ValueFitsIfAny p f e

  pub StmtsFit : {L : Type 0} → TypedProgram L → Paths → ℕ → Function L → Stmts L → Type 0
  StmtsFit p paths h f NoStmts = Unit {0}
  StmtsFit p paths h f (Then earlier last) = StmtsFit p paths h f earlier × StmtFits p paths h f last
