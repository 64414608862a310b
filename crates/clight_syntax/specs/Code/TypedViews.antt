-- The typed program that the program holds, as definitions speak of it: without its pointers.
use Rattle.std.specs.Prelude.{List, [], ◌∷◌, map, option_map}
use Rattle.clight_syntax.specs.TypedTrees as p
use Rattle.c_types.specs.Types.{type_of, struct_type_of}
use Rattle.clight_source.specs.Code.Views.{declaration_of, global_of, header_of, prototype_of, struct_of}
use Rattle.clight_syntax.specs.declared.typed.Expr.{Expr}
use Rattle.clight_syntax.specs.declared.typed.Expr.TheVariants as e
use Rattle.clight_syntax.specs.declared.typed.Cond.{Cond}
use Rattle.clight_syntax.specs.declared.typed.Cond.TheVariants as c
use Rattle.clight_syntax.specs.declared.typed.Assignment.{Assignment}
use Rattle.clight_syntax.specs.declared.typed.Test.{Test}
use Rattle.clight_syntax.specs.declared.typed.EarlierArgument.{EarlierArgument}
use Rattle.clight_syntax.specs.declared.typed.Arguments.{Arguments}
use Rattle.clight_syntax.specs.declared.typed.Arguments.TheVariants as a
use Rattle.clight_syntax.specs.declared.typed.Call.{Call}
use Rattle.clight_syntax.specs.declared.typed.ForHead.{ForHead}
use Rattle.clight_syntax.specs.declared.typed.Stmt.{Stmt, Row_of-Stmt, end_of-Stmt, more_of-Stmt}
use Rattle.clight_syntax.specs.declared.typed.Stmt.TheVariants as s
use Rattle.clight_syntax.specs.declared.typed.LocalInitialiser.{LocalInitialiser}
use Rattle.clight_syntax.specs.declared.typed.LocalInitialiser.TheVariants as l
use Rattle.clight_syntax.specs.declared.typed.Local.{Local}
use Rattle.clight_syntax.specs.declared.typed.Function.{Function}
use Rattle.clight_syntax.specs.declared.typed.Item.{Item}
use Rattle.clight_syntax.specs.declared.typed.Item.TheVariants as t
use Rattle.clight_syntax.specs.declared.typed.Variable.{Variable}
use Rattle.clight_syntax.specs.declared.typed.TypedProgram.{TypedProgram}
use Rattle.clight_syntax.specs.declared.typed.Labelled.{Labelled}
use Rattle.cerco_base.specs.declared.events.Label.{Label}

abbrev pub expr_of : Expr → p.Expr
expr_of (e.Variable type variable name) = p.Variable (type_of type) variable name
expr_of (e.Number type number at) = p.Number (type_of type) number at
expr_of (e.Parenthesis' type left q x right) = p.Parenthesis (type_of type) left (expr_of x) right
expr_of (e.Binary' type q x operator at r y) = p.Binary (type_of type) (expr_of x) operator at (expr_of y)
expr_of (e.Prefix' type operator at q x) = p.Prefix (type_of type) operator at (expr_of x)
expr_of (e.Cast' type left words right q x) = p.Cast (type_of type) left words right (expr_of x)
expr_of (e.Index' type q x left r y right) = p.Index (type_of type) (expr_of x) left (expr_of y) right
expr_of (e.Member' type q x operator at member offset) = p.Select (type_of type) (expr_of x) operator at member offset

abbrev pub cond_of : {L : Type 0} → Cond L → p.Cond L
cond_of (c.Value x) = p.Truth (expr_of x)
cond_of (c.Parenthesis' left q x right) = p.InParentheses left (cond_of x) right
cond_of (c.Not' at q x) = p.Not at (cond_of x)
cond_of (c.Both' q x at on_true on_false r y) = p.Both (cond_of x) at on_true on_false (cond_of y)
cond_of (c.Either' q x at on_true on_false r y) = p.Either (cond_of x) at on_true on_false (cond_of y)

abbrev pub assignment_of : Assignment → p.Assignment
assignment_of x = record { target = expr_of x.target; equals = x.equals; value = expr_of x.value }

abbrev pub test_of : {L : Type 0} → Test L → p.Test L
test_of x = record { keyword = x.keyword; left = x.left; condition = cond_of x.condition; right = x.right }

abbrev pub earlier_argument_of : EarlierArgument → p.EarlierArgument
earlier_argument_of x = record { value = expr_of x.value; comma = x.comma }

abbrev pub arguments_of : Arguments → p.Arguments
arguments_of a.Nothing = p.NoArguments
arguments_of (a.Listed earlier last) = p.Arguments' (map earlier_argument_of earlier.items) (expr_of last)

abbrev pub call_of : Call → p.Call
call_of x = record { target = x.target; function = x.function; name = x.name; left = x.left; arguments = arguments_of x.arguments; right = x.right }

abbrev pub for_head_of : {L : Type 0} → ForHead L → p.ForHead L
for_head_of x = record {
  keyword = x.keyword;
  left = x.left;
  first = option_map assignment_of x.first;
  first_semicolon = x.first_semicolon;
  condition = option_map cond_of x.condition;
  second_semicolon = x.second_semicolon;
  step = option_map assignment_of x.step;
  right = x.right;
}

abbrev mutual
  pub stmt_of : {L : Type 0} → Stmt L → p.Stmt L
  stmt_of (s.Empty a) = p.Empty a
  stmt_of (s.Block' left shape row right) = p.Block left (row_onto row p.NoStmts) right
  stmt_of (s.Assign x a) = p.Assign (assignment_of x) a
  stmt_of (s.ReadPort target q port a) = p.ReadPort (expr_of target) q port a
  stmt_of (s.WritePort port q value a) = p.WritePort port q (expr_of value) a
  stmt_of (s.Call x a back) = p.CallOf (call_of x) a back
  stmt_of (s.If' test one q x other) = p.If (test_of test) one (stmt_of x) other
  stmt_of (s.IfElse' test one q x a other r y) = p.IfElse (test_of test) one (stmt_of x) a other (stmt_of y)
  stmt_of (s.While' test turn q x after) = p.While (test_of test) turn (stmt_of x) after
  stmt_of (s.Do' k q x test again a after) = p.Do k (stmt_of x) (test_of test) again a after
  stmt_of (s.For' head turn q x after) = p.For (for_head_of head) turn (stmt_of x) after
  stmt_of (s.Break k a) = p.Break k a
  stmt_of (s.Continue k a) = p.Continue k a
  stmt_of (s.Return k value a) = p.Return k (option_map expr_of value) a

  -- the statements of a row behind some earlier ones
  pub row_onto : {L : Type 0} {n : _} → Row_of-Stmt L n → p.Stmts L → p.Stmts L
  row_onto end_of-Stmt earlier = earlier
  row_onto (more_of-Stmt x rest) earlier = row_onto rest (p.Then earlier (stmt_of x))

-- statements behind some earlier ones
abbrev pub stmts_onto : {L : Type 0} → List (Stmt L) → p.Stmts L → p.Stmts L
stmts_onto [] earlier = earlier
stmts_onto (x ∷ rest) earlier = stmts_onto rest (p.Then earlier (stmt_of x))

abbrev pub stmts_of : {L : Type 0} → List (Stmt L) → p.Stmts L
stmts_of xs = stmts_onto xs p.NoStmts

abbrev pub local_initialiser_of : LocalInitialiser → p.LocalInitialiser
local_initialiser_of l.Nothing = p.NoValue
local_initialiser_of (l.Value q x) = p.Value q (expr_of x)

abbrev pub local_of : Local → p.Local
local_of x = record { declaration = declaration_of x.declaration; initialiser = local_initialiser_of x.initialiser; semicolon = x.semicolon }

abbrev pub function_of : {L : Type 0} → Function L → p.Function L
function_of x = record {
  header = header_of x.header;
  result = type_of x.result;
  first_variable = x.first_variable;
  parameters = x.parameters;
  left = x.left;
  label = x.label;
  locals = map local_of x.locals.items;
  body = stmts_of x.body.items;
  right = x.right;
}

abbrev pub item_of : Item → p.Item
item_of (t.Struct x) = p.StructItem (struct_of x)
item_of (t.Global x variable) = p.GlobalItem (global_of x) variable
item_of (t.Prototype x) = p.PrototypeItem (prototype_of x)
item_of (t.Function number) = p.FunctionItem number

abbrev pub variable_of : Variable → p.Variable'
variable_of x = record { name = x.name; type = type_of x.ty; home = x.home; address = x.address }

abbrev pub program_of : {L : Type 0} → TypedProgram L → p.TypedProgram L
program_of x = record {
  names = x.names;
  items = map item_of x.items.items;
  span = x.span;
  structs = map struct_type_of x.structs.items;
  variables = map variable_of x.variables.items;
  functions = map function_of x.functions.items;
  main = x.main;
  frames = x.frames.items;
  data_bytes = x.data_bytes;
  calls = x.calls;
}

abbrev pub labelled_of : Labelled → p.TypedProgram Label
labelled_of x = program_of x.program
