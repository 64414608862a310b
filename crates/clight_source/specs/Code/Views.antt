-- The syntax tree that the program holds, as definitions speak of it: without its pointers.
use Rattle.std.specs.Prelude.{List, [], ◌∷◌, map, option_map}
use Rattle.clight_source.specs.Trees as p
use Rattle.clight_source.specs.declared.tree.Expr.{Expr}
use Rattle.clight_source.specs.declared.tree.Expr.TheVariants as e
use Rattle.clight_source.specs.declared.tree.Assignment.{Assignment}
use Rattle.clight_source.specs.declared.tree.Test.{Test}
use Rattle.clight_source.specs.declared.tree.EarlierArgument.{EarlierArgument}
use Rattle.clight_source.specs.declared.tree.Arguments.{Arguments}
use Rattle.clight_source.specs.declared.tree.Arguments.TheVariants as a
use Rattle.clight_source.specs.declared.tree.Call.{Call}
use Rattle.clight_source.specs.declared.tree.ForHead.{ForHead}
use Rattle.clight_source.specs.declared.tree.Stmt.{Stmt, Row_of-Stmt, end_of-Stmt, more_of-Stmt}
use Rattle.clight_source.specs.declared.tree.Stmt.TheVariants as s
use Rattle.clight_source.specs.declared.tree.Declared.{Declared}
use Rattle.clight_source.specs.declared.tree.Declaration.{Declaration}
use Rattle.clight_source.specs.declared.tree.Member.{Member}
use Rattle.clight_source.specs.declared.tree.StructDefinition.{StructDefinition}
use Rattle.clight_source.specs.declared.tree.Initialiser.{Initialiser}
use Rattle.clight_source.specs.declared.tree.Initialiser.TheVariants as i
use Rattle.clight_source.specs.declared.tree.Global.{Global}
use Rattle.clight_source.specs.declared.tree.EarlierParameter.{EarlierParameter}
use Rattle.clight_source.specs.declared.tree.Parameters.{Parameters}
use Rattle.clight_source.specs.declared.tree.Parameters.TheVariants as r
use Rattle.clight_source.specs.declared.tree.Header.{Header}
use Rattle.clight_source.specs.declared.tree.Prototype.{Prototype}
use Rattle.clight_source.specs.declared.tree.LocalInitialiser.{LocalInitialiser}
use Rattle.clight_source.specs.declared.tree.LocalInitialiser.TheVariants as l
use Rattle.clight_source.specs.declared.tree.Local.{Local}
use Rattle.clight_source.specs.declared.tree.Function.{Function}
use Rattle.clight_source.specs.declared.tree.Item.{Item}
use Rattle.clight_source.specs.declared.tree.Item.TheVariants as t
use Rattle.clight_source.specs.declared.tree.Program.{Program}

abbrev pub expr_of : Expr → p.Expr
expr_of (e.Name name) = p.Variable name
expr_of (e.Number number at) = p.Number number at
expr_of (e.Parenthesis' left q x right) = p.Parenthesis left (expr_of x) right
expr_of (e.Binary' q x operator at r y) = p.Binary (expr_of x) operator at (expr_of y)
expr_of (e.Prefix' operator at q x) = p.Prefix operator at (expr_of x)
expr_of (e.Cast' left type right q x) = p.Cast left type right (expr_of x)
expr_of (e.Index' q x left r y right) = p.Index (expr_of x) left (expr_of y) right
expr_of (e.Member' q x operator at member) = p.Select (expr_of x) operator at member

abbrev pub assignment_of : Assignment → p.Assignment
assignment_of x = record { target = expr_of x.target; equals = x.equals; value = expr_of x.value }

abbrev pub test_of : Test → p.Test
test_of x = record { keyword = x.keyword; left = x.left; condition = expr_of x.condition; right = x.right }

abbrev pub earlier_argument_of : EarlierArgument → p.EarlierArgument
earlier_argument_of x = record { value = expr_of x.value; comma = x.comma }

abbrev pub arguments_of : Arguments → p.Arguments
arguments_of a.Nothing = p.NoArguments
arguments_of (a.Listed earlier last) = p.Arguments' (map earlier_argument_of earlier.items) (expr_of last)

abbrev pub call_of : Call → p.Call
call_of x = record { target = x.target; function = x.function; left = x.left; arguments = arguments_of x.arguments; right = x.right }

abbrev pub for_head_of : ForHead → p.ForHead
for_head_of x = record {
  keyword = x.keyword;
  left = x.left;
  first = option_map assignment_of x.first;
  first_semicolon = x.first_semicolon;
  condition = option_map expr_of x.condition;
  second_semicolon = x.second_semicolon;
  step = option_map assignment_of x.step;
  right = x.right;
}

abbrev mutual
  pub stmt_of : Stmt → p.Stmt
  stmt_of (s.Empty a) = p.Empty a
  stmt_of (s.Block' left shape row right) = p.Block left (row_onto row p.NoStmts) right
  stmt_of (s.Assign x a) = p.Assign (assignment_of x) a
  stmt_of (s.ReadPort target q port a) = p.ReadPort (expr_of target) q port a
  stmt_of (s.WritePort port q value a) = p.WritePort port q (expr_of value) a
  stmt_of (s.Call x a) = p.CallOf (call_of x) a
  stmt_of (s.If' test q x) = p.If (test_of test) (stmt_of x)
  stmt_of (s.IfElse' test q x a r y) = p.IfElse (test_of test) (stmt_of x) a (stmt_of y)
  stmt_of (s.While' test q x) = p.While (test_of test) (stmt_of x)
  stmt_of (s.Do' k q x test a) = p.Do k (stmt_of x) (test_of test) a
  stmt_of (s.For' head q x) = p.For (for_head_of head) (stmt_of x)
  stmt_of (s.Break k a) = p.Break k a
  stmt_of (s.Continue k a) = p.Continue k a
  stmt_of (s.Return k value a) = p.Return k (option_map expr_of value) a

  -- the statements of a row behind some earlier ones
  pub row_onto : {n : _} → Row_of-Stmt n → p.Stmts → p.Stmts
  row_onto end_of-Stmt earlier = earlier
  row_onto (more_of-Stmt x rest) earlier = row_onto rest (p.Then earlier (stmt_of x))

-- statements behind some earlier ones
abbrev pub stmts_onto : List Stmt → p.Stmts → p.Stmts
stmts_onto [] earlier = earlier
stmts_onto (x ∷ rest) earlier = stmts_onto rest (p.Then earlier (stmt_of x))

abbrev pub stmts_of : List Stmt → p.Stmts
stmts_of xs = stmts_onto xs p.NoStmts

abbrev pub declared_of : Declared → p.Declared
declared_of x = record { specifiers = x.specifiers; stars = x.stars.items; name = x.name }

abbrev pub declaration_of : Declaration → p.Declaration
declaration_of x = record { declared = declared_of x.declared; lengths = x.lengths.items }

abbrev pub member_of : Member → p.Member
member_of x = record { declaration = declaration_of x.declaration; semicolon = x.semicolon }

abbrev pub struct_of : StructDefinition → p.Struct
struct_of x = record { keyword = x.keyword; tag = x.tag; left = x.left; members = map member_of x.members.items; right = x.right; semicolon = x.semicolon }

abbrev pub initialiser_of : Initialiser → p.Initialiser
initialiser_of i.Nothing = p.NoInitialiser
initialiser_of (i.Single q number) = p.Single q number
initialiser_of (i.Listed q left earlier last right) = p.Listed q left earlier.items last right

abbrev pub global_of : Global → p.Global
global_of x = record { declaration = declaration_of x.declaration; initialiser = initialiser_of x.initialiser; semicolon = x.semicolon }

abbrev pub earlier_parameter_of : EarlierParameter → p.EarlierParameter
earlier_parameter_of x = record { parameter = declared_of x.parameter; comma = x.comma }

abbrev pub parameters_of : Parameters → p.Parameters
parameters_of (r.Void a) = p.NoParameters a
parameters_of (r.Listed earlier last) = p.Parameters' (map earlier_parameter_of earlier.items) (declared_of last)

abbrev pub header_of : Header → p.Header
header_of x = record { declared = declared_of x.declared; left = x.left; parameters = parameters_of x.parameters; right = x.right }

abbrev pub prototype_of : Prototype → p.Prototype
prototype_of x = record { header = header_of x.header; semicolon = x.semicolon }

abbrev pub local_initialiser_of : LocalInitialiser → p.LocalInitialiser
local_initialiser_of l.Nothing = p.NoValue
local_initialiser_of (l.Value q x) = p.Value q (expr_of x)

abbrev pub local_of : Local → p.Local
local_of x = record { declaration = declaration_of x.declaration; initialiser = local_initialiser_of x.initialiser; semicolon = x.semicolon }

abbrev pub function_of : Function → p.Function
function_of x = record { header = header_of x.header; left = x.left; locals = map local_of x.locals.items; body = stmts_of x.body.items; right = x.right }

abbrev pub item_of : Item → p.Item
item_of (t.Struct x) = p.StructItem (struct_of x)
item_of (t.Global x) = p.GlobalItem (global_of x)
item_of (t.Prototype x) = p.PrototypeItem (prototype_of x)
item_of (t.Function x) = p.FunctionItem (function_of x)

abbrev pub program_of : Program → p.Program
program_of x = record { names = x.names; items = map item_of x.items.items; span = x.span }
