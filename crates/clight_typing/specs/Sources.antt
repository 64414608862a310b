-- The syntax tree of a typed program: what is left where types, numbers and labels are forgotten.
use Rattle.std.specs.Prelude.{ℕ, List, [], ◌∷◌, ◌++◌, map, Option, Some, None, slice_get}
use Rattle.std.specs.List.{flat_map}
use Rattle.clight_source.specs.declared.tree.BinaryOperator.TheVariants as b
use Rattle.clight_source.specs.declared.tree.PrefixOperator.TheVariants as p
use Rattle.clight_source.specs.declared.tree.CallTarget.{CallTarget}
use Rattle.clight_syntax.specs.declared.typed.ResultTarget.{ResultTarget}
use Rattle.clight_source.specs.Trees as s
use Rattle.clight_syntax.specs.TypedTrees.{Expr, Variable, Number, Parenthesis, Binary, Prefix, Cast, Index, Select, Cond, Truth, InParentheses, Not, Both, Either, Assignment, Test, EarlierArgument, Arguments, NoArguments, Arguments', Call, ForHead, Stmt, Empty, Block, Assign, ReadPort, WritePort, CallOf, If, IfElse, While, Do, For, Break, Continue, Return, Stmts, NoStmts, Then, LocalInitialiser, NoValue, Value, Local, Function, Item, StructItem, GlobalItem, PrototypeItem, FunctionItem, TypedProgram}

abbrev pub expr_source : Expr → s.Expr
expr_source (Variable type variable name) = s.Variable name
expr_source (Number type number span) = s.Number number span
expr_source (Parenthesis type left e right) = s.Parenthesis left (expr_source e) right
expr_source (Binary type l operator at r) = s.Binary (expr_source l) operator at (expr_source r)
expr_source (Prefix type operator at e) = s.Prefix operator at (expr_source e)
expr_source (Cast type left words right e) = s.Cast left words right (expr_source e)
expr_source (Index type base left index right) = s.Index (expr_source base) left (expr_source index) right
expr_source (Select type e operator at member offset) = s.Select (expr_source e) operator at member

abbrev pub cond_source : {L : Type 0} → Cond L → s.Expr
cond_source (Truth e) = expr_source e
cond_source (InParentheses left c right) = s.Parenthesis left (cond_source c) right
cond_source (Not at c) = s.Prefix p.Not at (cond_source c)
cond_source (Both l at on_true on_false r) = s.Binary (cond_source l) b.LogicalAnd at (cond_source r)
cond_source (Either l at on_true on_false r) = s.Binary (cond_source l) b.LogicalOr at (cond_source r)

abbrev pub optional_source : {A B : Type 0} → (A → B) → Option A → Option B
optional_source source None = None
optional_source source (Some x) = Some (source x)

abbrev pub assignment_source : Assignment → s.Assignment
assignment_source x = record { target = expr_source x.target; equals = x.equals; value = expr_source x.value }

abbrev pub test_source : {L : Type 0} → Test L → s.Test
test_source x = record { keyword = x.keyword; left = x.left; condition = cond_source x.condition; right = x.right }

abbrev pub earlier_argument_source : EarlierArgument → s.EarlierArgument
earlier_argument_source x = record { value = expr_source x.value; comma = x.comma }

abbrev pub arguments_source : Arguments → s.Arguments
arguments_source NoArguments = s.NoArguments
arguments_source (Arguments' earlier last) = s.Arguments' (map earlier_argument_source earlier) (expr_source last)

abbrev pub target_source : ResultTarget → CallTarget
target_source x = x.target

abbrev pub call_source : Call → s.Call
call_source x = record {
  target = optional_source target_source x.target;
  function = x.name;
  left = x.left;
  arguments = arguments_source x.arguments;
  right = x.right;
}

abbrev pub for_source : {L : Type 0} → ForHead L → s.ForHead
for_source x = record {
  keyword = x.keyword;
  left = x.left;
  first = optional_source assignment_source x.first;
  first_semicolon = x.first_semicolon;
  condition = optional_source cond_source x.condition;
  second_semicolon = x.second_semicolon;
  step = optional_source assignment_source x.step;
  right = x.right;
}

abbrev mutual
  pub stmt_source : {L : Type 0} → Stmt L → s.Stmt
  stmt_source (Empty a) = s.Empty a
  stmt_source (Block left body right) = s.Block left (stmts_source body) right
  stmt_source (Assign x a) = s.Assign (assignment_source x) a
  stmt_source (ReadPort target equals port a) = s.ReadPort (expr_source target) equals port a
  stmt_source (WritePort port equals value a) = s.WritePort port equals (expr_source value) a
  stmt_source (CallOf x a back) = s.CallOf (call_source x) a
  stmt_source (If test one arm other) = s.If (test_source test) (stmt_source arm)
  stmt_source (IfElse test one arm at other otherwise) = s.IfElse (test_source test) (stmt_source arm) at (stmt_source otherwise)
  stmt_source (While test turn body after) = s.While (test_source test) (stmt_source body)
  stmt_source (Do keyword body test again a after) = s.Do keyword (stmt_source body) (test_source test) a
  stmt_source (For head turn body after) = s.For (for_source head) (stmt_source body)
  stmt_source (Break keyword a) = s.Break keyword a
  stmt_source (Continue keyword a) = s.Continue keyword a
  stmt_source (Return keyword value a) = s.Return keyword (optional_source expr_source value) a

  pub stmts_source : {L : Type 0} → Stmts L → s.Stmts
  stmts_source NoStmts = s.NoStmts
  stmts_source (Then earlier last) = s.Then (stmts_source earlier) (stmt_source last)

abbrev pub initialiser_source : LocalInitialiser → s.LocalInitialiser
initialiser_source NoValue = s.NoValue
initialiser_source (Value equals e) = s.Value equals (expr_source e)

abbrev pub local_source : Local → s.Local
local_source x = record { declaration = x.declaration; initialiser = initialiser_source x.initialiser; semicolon = x.semicolon }

abbrev pub function_source : {L : Type 0} → Function L → s.Function
function_source x = record {
  header = x.header;
  left = x.left;
  locals = map local_source x.locals;
  body = stmts_source x.body;
  right = x.right;
}

-- a function is there by its number
abbrev pub item_source : {L : Type 0} → List (Function L) → Item → List s.Item
item_source functions (StructItem x) = s.StructItem x ∷ []
item_source functions (GlobalItem x variable) = s.GlobalItem x ∷ []
item_source functions (PrototypeItem x) = s.PrototypeItem x ∷ []
item_source functions (FunctionItem number) =
    elim (slice_get functions number) [ Some f ↦ s.FunctionItem (function_source f) ∷ [] | None ↦ [] ]

abbrev pub program_source : {L : Type 0} → TypedProgram L → s.Program
program_source x = record { names = x.names; items = flat_map (item_source x.functions) x.items; span = x.span }
