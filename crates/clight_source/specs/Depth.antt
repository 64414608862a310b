-- How deep a syntax tree is. (The compiler's own: C99 asks that 63 levels of nested parentheses and 127 of nested blocks can
-- be translated at least, ISO/IEC 9899:1999, 5.2.4.1; the compiler's limit is 64 for each kind of node.)
use Rattle.std.specs.Prelude.{◌≤◌, ◌<◌, ℕ, ◌+◌, List, [], ◌∷◌, ◌++◌, Option, Some, None, All, Contains, length, max}
use Rattle.std.specs.List.{flat_map}
use Rattle.clight_source.specs.Trees.{Expr, Variable, Number, Parenthesis, Binary, Prefix, Cast, Index, Select, Assignment, EarlierArgument, Arguments, NoArguments, Arguments', Call, ForHead, Stmt, Empty, Block, Assign, ReadPort, WritePort, CallOf, If, IfElse, While, Do, For, Break, Continue, Return, Stmts, NoStmts, Then, Declared, Declaration, Member, EarlierParameter, Parameters, NoParameters, Parameters', Header, LocalInitialiser, NoValue, Value, Local, Item, StructItem, GlobalItem, PrototypeItem, FunctionItem}

-- ---- depths

-- a name and a number have depth 0, and every other expression one more than its deepest part
abbrev pub depth : Expr → ℕ
depth (Variable name) = 0
depth (Number number a) = 0
depth (Parenthesis o e c) = 1 + depth e
depth (Binary l operator a r) = 1 + max (depth l) (depth r)
depth (Prefix operator a e) = 1 + depth e
depth (Cast o type c e) = 1 + depth e
depth (Index e o i c) = 1 + max (depth e) (depth i)
depth (Select e operator a member) = 1 + depth e

-- how many nodes an expression has
abbrev pub size : Expr → ℕ
size (Variable name) = 1
size (Number number a) = 1
size (Parenthesis o e c) = 1 + size e
size (Binary l operator a r) = 1 + (size l + size r)
size (Prefix operator a e) = 1 + size e
size (Cast o type c e) = 1 + size e
size (Index e o i c) = 1 + (size e + size i)
size (Select e operator a member) = 1 + size e

-- a simple statement has depth 0; a block, an `if` and a loop have one more than the deepest statement in them
abbrev mutual
  pub stmt_depth : Stmt → ℕ
  stmt_depth (Block o body c) = 1 + stmts_depth body
  stmt_depth (If test x) = 1 + stmt_depth x
  stmt_depth (IfElse test x a y) = 1 + max (stmt_depth x) (stmt_depth y)
  stmt_depth (While test x) = 1 + stmt_depth x
  stmt_depth (Do k x test a) = 1 + stmt_depth x
  stmt_depth (For head x) = 1 + stmt_depth x
  stmt_depth x = 0

  pub stmts_depth : Stmts → ℕ
  stmts_depth NoStmts = 0
  stmts_depth (Then xs x) = max (stmts_depth xs) (stmt_depth x)

-- the stars and the lengths of a declared thing
abbrev pub declaration_depth : Declaration → ℕ
declaration_depth x = length x.declared.stars + length x.lengths

-- ---- where a node begins

abbrev pub expr_start : Expr → ℕ
expr_start (Variable name) = name.span.from
expr_start (Number number a) = a.from
expr_start (Parenthesis o e c) = o.from
expr_start (Binary l operator a r) = expr_start l
expr_start (Prefix operator a e) = a.from
expr_start (Cast o type c e) = o.from
expr_start (Index e o i c) = expr_start e
expr_start (Select e operator a member) = expr_start e

-- where a call begins: at its target, where it has one
abbrev pub call_start : Call → ℕ
call_start x = elim x.target [ None ↦ x.function.span.from | Some target ↦ target.name.span.from ]

abbrev pub stmt_start : Stmt → ℕ
stmt_start (Empty a) = a.from
stmt_start (Block o body c) = o.from
stmt_start (Assign x a) = expr_start x.target
stmt_start (ReadPort target q port a) = expr_start target
stmt_start (WritePort port q value a) = port.from
stmt_start (CallOf x a) = call_start x
stmt_start (If test x) = test.keyword.from
stmt_start (IfElse test x a y) = test.keyword.from
stmt_start (While test x) = test.keyword.from
stmt_start (Do k x test a) = k.from
stmt_start (For head x) = head.keyword.from
stmt_start (Break k a) = k.from
stmt_start (Continue k a) = k.from
stmt_start (Return k value a) = k.from

-- a declared thing begins at its first star, or at its name
abbrev pub declared_start : Declared → ℕ
declared_start x = elim x.stars [ [] ↦ x.name.span.from | a ∷ stars ↦ a.from ]

-- ---- the nodes of a tree

pub record Node : Type 0 where
  pub start : ℕ
  pub depth : ℕ

abbrev pub node : ℕ → ℕ → Node
node start depth = record { start = start; depth = depth }

-- the node of an expression, before those of its parts
abbrev pub expr_node : Expr → List Node → List Node
expr_node e parts = node (expr_start e) (depth e) ∷ parts

-- all nodes of an expression, the whole first
abbrev pub expr_nodes : Expr → List Node
expr_nodes (Variable name) = expr_node (Variable name) []
expr_nodes (Number number a) = expr_node (Number number a) []
expr_nodes (Parenthesis o e c) = expr_node (Parenthesis o e c) (expr_nodes e)
expr_nodes (Binary l operator a r) = expr_node (Binary l operator a r) (expr_nodes l ++ expr_nodes r)
expr_nodes (Prefix operator a e) = expr_node (Prefix operator a e) (expr_nodes e)
expr_nodes (Cast o type c e) = expr_node (Cast o type c e) (expr_nodes e)
expr_nodes (Index e o i c) = expr_node (Index e o i c) (expr_nodes e ++ expr_nodes i)
expr_nodes (Select e operator a member) = expr_node (Select e operator a member) (expr_nodes e)

-- the nodes of what may be missing
abbrev pub optional_nodes : {A : Type 0} → (A → List Node) → Option A → List Node
optional_nodes nodes None = []
optional_nodes nodes (Some x) = nodes x

abbrev pub assignment_nodes : Assignment → List Node
assignment_nodes x = expr_nodes x.target ++ expr_nodes x.value

abbrev pub earlier_argument_nodes : EarlierArgument → List Node
earlier_argument_nodes x = expr_nodes x.value

abbrev pub arguments_nodes : Arguments → List Node
arguments_nodes NoArguments = []
arguments_nodes (Arguments' earlier last) = flat_map earlier_argument_nodes earlier ++ expr_nodes last

abbrev pub for_nodes : ForHead → List Node
for_nodes x = optional_nodes assignment_nodes x.first ++ (optional_nodes expr_nodes x.condition ++ optional_nodes assignment_nodes x.step)

-- the node of a statement, before those of its parts
abbrev pub stmt_node : Stmt → List Node → List Node
stmt_node x parts = node (stmt_start x) (stmt_depth x) ∷ parts

abbrev mutual
  -- all nodes of a statement, the whole first
  pub stmt_nodes : Stmt → List Node
  stmt_nodes (Empty a) = stmt_node (Empty a) []
  stmt_nodes (Block o body c) = stmt_node (Block o body c) (stmts_nodes body)
  stmt_nodes (Assign x a) = stmt_node (Assign x a) (assignment_nodes x)
  stmt_nodes (ReadPort target q port a) = stmt_node (ReadPort target q port a) (expr_nodes target)
  stmt_nodes (WritePort port q value a) = stmt_node (WritePort port q value a) (expr_nodes value)
  stmt_nodes (CallOf x a) = stmt_node (CallOf x a) (arguments_nodes x.arguments)
  stmt_nodes (If test x) = stmt_node (If test x) (expr_nodes test.condition ++ stmt_nodes x)
  stmt_nodes (IfElse test x a y) = stmt_node (IfElse test x a y) (expr_nodes test.condition ++ (stmt_nodes x ++ stmt_nodes y))
  stmt_nodes (While test x) = stmt_node (While test x) (expr_nodes test.condition ++ stmt_nodes x)
  stmt_nodes (Do k x test a) = stmt_node (Do k x test a) (stmt_nodes x ++ expr_nodes test.condition)
  stmt_nodes (For head x) = stmt_node (For head x) (for_nodes head ++ stmt_nodes x)
  stmt_nodes (Break k a) = stmt_node (Break k a) []
  stmt_nodes (Continue k a) = stmt_node (Continue k a) []
  stmt_nodes (Return k value a) = stmt_node (Return k value a) (optional_nodes expr_nodes value)

  pub stmts_nodes : Stmts → List Node
  stmts_nodes NoStmts = []
  stmts_nodes (Then xs x) = stmts_nodes xs ++ stmt_nodes x

-- the one node of a declared thing
abbrev pub declared_nodes : Declared → List Node
declared_nodes x = node (declared_start x) (length x.stars) ∷ []

abbrev pub declaration_nodes : Declaration → List Node
declaration_nodes x = node (declared_start x.declared) (declaration_depth x) ∷ []

abbrev pub member_nodes : Member → List Node
member_nodes x = declaration_nodes x.declaration

abbrev pub earlier_parameter_nodes : EarlierParameter → List Node
earlier_parameter_nodes x = declared_nodes x.parameter

abbrev pub parameters_nodes : Parameters → List Node
parameters_nodes (NoParameters void) = []
parameters_nodes (Parameters' earlier last) = flat_map earlier_parameter_nodes earlier ++ declared_nodes last

abbrev pub header_nodes : Header → List Node
header_nodes x = declared_nodes x.declared ++ parameters_nodes x.parameters

abbrev pub local_initialiser_nodes : LocalInitialiser → List Node
local_initialiser_nodes NoValue = []
local_initialiser_nodes (Value q e) = expr_nodes e

abbrev pub local_nodes : Local → List Node
local_nodes x = declaration_nodes x.declaration ++ local_initialiser_nodes x.initialiser

abbrev pub item_nodes : Item → List Node
item_nodes (StructItem x) = flat_map member_nodes x.members
item_nodes (GlobalItem x) = declaration_nodes x.declaration
item_nodes (PrototypeItem x) = header_nodes x.header
item_nodes (FunctionItem x) = header_nodes x.header ++ (flat_map local_nodes x.locals ++ stmts_nodes x.body)

-- all nodes of a program. Its own braces are no node of a function, and its numbers outside expressions are none
abbrev pub nodes : List Item → List Node
nodes items = flat_map item_nodes items

-- ---- the limit

abbrev pub depth_limit : ℕ
depth_limit = 64

-- no node is deeper than the limit
abbrev pub IsShallow : List Item → Type 0
IsShallow items = All (λ n. n.depth ≤ depth_limit) (nodes items)

-- a node deeper than the limit starts here, and no such node starts before
pub record IsFirstDeep (items : List Item) (at : ℕ) : Type 0 where
  pub deep : (d : ℕ) × (depth_limit < d) × Contains (nodes items) (node at d)
  pub least : All (λ n. depth_limit < n.depth → at ≤ n.start) (nodes items)
