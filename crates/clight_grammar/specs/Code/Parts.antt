-- The parts of a tree that aren't trees of the grammar: what is there in the middle of a `for`, of a struct and of a function.
use Rattle.std.specs.Prelude.{List, [], ◌∷◌, ◌++◌, Option, Some, None, false}
use Rattle.clight_source.specs.declared.span.Span.{Span}
use Rattle.clight_source.specs.declared.symbol.Literal.{Literal}
use Rattle.clight_source.specs.declared.symbol.Radix.TheVariants.{Decimal}
use Rattle.clight_source.specs.declared.tree.Name.{Name}
use Rattle.clight_source.specs.declared.tree.Specifiers.{Specifiers}
use Rattle.clight_source.specs.declared.tree.CallTarget.{CallTarget}
use Rattle.clight_source.specs.Trees.{Expr, Variable, Assignment, Test, Arguments, Call, ForHead, Stmts, Declared, Declaration, Member, Initialiser, Parameters, Header, LocalInitialiser, Local, Item, StructItem, GlobalItem, PrototypeItem, FunctionItem}
use Rattle.clight_nodes.specs.declared.modes.StructFront.{StructFront}

-- what is there in the places of a program that a theorem makes up
abbrev pub no_span : Span
no_span = record { from = 0; to = 0 }

abbrev pub no_literal : Literal
no_literal = record { value = 0; radix = Decimal; unsigned = false }

-- the name that an expression is, where it is one
abbrev pub name_of : Expr → Option Name
name_of (Variable name) = Some name
name_of e = None

abbrev pub assignment : Expr → (equals : Span) → Expr → Assignment
assignment target equals value = record { target = target; equals = equals; value = value }

abbrev pub test : (keyword left : Span) → Expr → (right : Span) → Test
test keyword left e right = record { keyword = keyword; left = left; condition = e; right = right }

abbrev pub call : Option CallTarget → (function : Name) (left : Span) → Arguments → (right : Span) → Call
call target function left arguments right = record { target = target; function = function; left = left; arguments = arguments; right = right }

-- ---- the parts of `for (first; condition; step)`

-- `for (first;`
pub record ForStart : Type 0 where
  pub keyword : Span
  pub left : Span
  pub first : Option Assignment
  pub semicolon : Span

-- `for (first; condition;`
pub record ForMiddle : Type 0 where
  pub start : ForStart
  pub condition : Option Expr
  pub semicolon : Span

abbrev pub for_start : (keyword left : Span) → Option Assignment → (semicolon : Span) → ForStart
for_start keyword left first semicolon = record { keyword = keyword; left = left; first = first; semicolon = semicolon }

abbrev pub for_middle : ForStart → Option Expr → (semicolon : Span) → ForMiddle
for_middle start condition semicolon = record { start = start; condition = condition; semicolon = semicolon }

abbrev pub make_head : ForMiddle → Option Assignment → (right : Span) → ForHead
make_head x step right = record {
  keyword = x.start.keyword;
  left = x.start.left;
  first = x.start.first;
  first_semicolon = x.start.semicolon;
  condition = x.condition;
  second_semicolon = x.semicolon;
  step = step;
  right = right;
}

-- ---- declarations

abbrev pub make_declared : Specifiers → (stars : List Span) → Name → Declared
make_declared type stars name = record { specifiers = type; stars = stars; name = name }

abbrev pub more_members : List Member → Declaration → (semicolon : Span) → List Member
more_members members x semicolon = members ++ record { declaration = x; semicolon = semicolon } ∷ []

abbrev pub struct_item : StructFront → List Member → (right semicolon : Span) → Item
struct_item x members right semicolon =
    StructItem (record { keyword = x.keyword; tag = x.tag; left = x.left; members = members; right = right; semicolon = semicolon })

abbrev pub global_item : Declaration → Initialiser → (semicolon : Span) → Item
global_item x initialiser semicolon = GlobalItem (record { declaration = x; initialiser = initialiser; semicolon = semicolon })

abbrev pub header : Declared → (left : Span) → Parameters → (right : Span) → Header
header x left parameters right = record { declared = x; left = left; parameters = parameters; right = right }

abbrev pub prototype_item : Header → (semicolon : Span) → Item
prototype_item x semicolon = PrototypeItem (record { header = x; semicolon = semicolon })

-- a function up to its first statement
pub record FunctionFront : Type 0 where
  pub header : Header
  pub left : Span
  pub locals : List Local

abbrev pub no_locals : Header → (left : Span) → FunctionFront
no_locals x left = record { header = x; left = left; locals = [] }

abbrev pub make_local : Declaration → LocalInitialiser → (semicolon : Span) → Local
make_local x initialiser semicolon = record { declaration = x; initialiser = initialiser; semicolon = semicolon }

abbrev pub with_local : FunctionFront → Local → FunctionFront
with_local front x = record { header = front.header; left = front.left; locals = front.locals ++ x ∷ [] }

abbrev pub function_item : FunctionFront → Stmts → (right : Span) → Item
function_item front xs right = FunctionItem (record { header = front.header; left = front.left; locals = front.locals; body = xs; right = right })
