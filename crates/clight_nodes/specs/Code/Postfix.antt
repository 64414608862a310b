-- A tree's nodes in postfix order, put on top of those before them, the newest first: a node for each constructor, after the
-- nodes of its parts. Statements, stars, members and the like join the list that began before them.
use Rattle.std.specs.Prelude.{List, [], ◌∷◌, Option, Some, None}
use Rattle.clight_source.specs.declared.span.Span.{Span}
use Rattle.clight_source.specs.declared.tree.Length.{Length}
use Rattle.clight_source.specs.declared.tree.EarlierNumber.{EarlierNumber}
use Rattle.clight_source.specs.Trees.{Expr, Variable, Number, Parenthesis, Binary, Prefix, Cast, Index, Select, Assignment, EarlierArgument, NoArguments, Arguments', Call, ForHead, Stmt, Empty, Block, Assign, ReadPort, WritePort, CallOf, If, IfElse, While, Do, For, Break, Continue, Return, Stmts, NoStmts, Then, Declared, Declaration, Member, Struct, Initialiser, NoInitialiser, Single, Listed, Global, EarlierParameter, Parameters, NoParameters, Parameters', Header, LocalInitialiser, NoValue, Value, Local, Function, Item, StructItem, GlobalItem, PrototypeItem, FunctionItem}
use Rattle.clight_nodes.specs.declared.forms.ForMiddle.{ForMiddle}
use Rattle.clight_nodes.specs.declared.nodes.Node.{Node}
use Rattle.clight_nodes.specs.declared.nodes.Node.TheVariants as n
use Rattle.clight_nodes.specs.Code.Statements.{make_start, make_middle}
use Rattle.clight_nodes.specs.Code.Declarations.{make_front}

-- the elements of a list one after the other
abbrev pub onto : {N X : Type 0} → (N → X → N) → N → List X → N
onto f z [] = z
onto f z (x ∷ l) = onto f (f z x) l

-- ---- expressions

abbrev pub out_expr : Expr → List Node → List Node
out_expr (Variable name) z = n.Name name ∷ z
out_expr (Number number a) z = n.Number number a ∷ z
out_expr (Parenthesis left e right) z = n.Parenthesis left right ∷ out_expr e z
out_expr (Binary l operator a r) z = n.Binary operator a ∷ out_expr r (out_expr l z)
out_expr (Prefix operator a e) z = n.Prefix operator a ∷ out_expr e z
out_expr (Cast left type right e) z = n.Cast left type right ∷ out_expr e z
out_expr (Index e left i right) z = n.Index left right ∷ out_expr i (out_expr e z)
out_expr (Select e operator a member) z = n.Select operator a member ∷ out_expr e z

-- ---- statements

abbrev pub add_argument : List Node → EarlierArgument → List Node
add_argument z x = n.Argument x.comma ∷ out_expr x.value z

abbrev pub out_earlier : List EarlierArgument → List Node → List Node
out_earlier l z = onto add_argument (n.NoArguments ∷ z) l

abbrev pub out_call : Call → (semicolon : Span) → List Node → List Node
out_call x a z = elim x.arguments [
  | NoArguments ↦ n.CallAlone x.target x.function x.left x.right a ∷ z
  | Arguments' earlier last ↦ n.Call x.target x.function x.left x.right a ∷ out_expr last (out_earlier earlier z)
]

abbrev pub out_return : (word : Span) → Option Expr → (semicolon : Span) → List Node → List Node
out_return word None a z = n.Return word a ∷ z
out_return word (Some e) a z = n.ReturnValue word a ∷ out_expr e z

-- an assignment of a `for`
abbrev pub out_assignment : Option Assignment → List Node → List Node
out_assignment None z = n.NoAssignment ∷ z
out_assignment (Some x) z = n.Assignment x.equals ∷ out_expr x.value (out_expr x.target z)

abbrev pub out_condition : Option Expr → List Node → List Node
out_condition None z = n.NoCondition ∷ z
out_condition (Some e) z = n.Condition ∷ out_expr e z

abbrev pub out_head : ForHead → List Node → List Node
out_head x z = out_assignment x.step (out_condition x.condition (out_assignment x.first z))

-- the places of a `for` up to its second semicolon
abbrev pub middle_of : ForHead → ForMiddle
middle_of x = make_middle (make_start x.keyword x.left x.first_semicolon) x.second_semicolon

abbrev mutual
  pub out_stmt : Stmt → List Node → List Node
  out_stmt (Empty a) z = n.Empty a ∷ z
  out_stmt (Block left xs right) z = n.Block left right ∷ out_stmts xs (n.NoStatements ∷ z)
  out_stmt (Assign x a) z = n.Assign x.equals a ∷ out_expr x.value (out_expr x.target z)
  out_stmt (ReadPort target equals port a) z = n.ReadPort equals port a ∷ out_expr target z
  out_stmt (WritePort port equals value a) z = n.WritePort port equals a ∷ out_expr value z
  out_stmt (CallOf x a) z = out_call x a z
  out_stmt (If t x) z = n.If t.keyword t.left t.right ∷ out_stmt x (out_expr t.condition z)
  out_stmt (IfElse t x a y) z = n.IfElse t.keyword t.left t.right a ∷ out_stmt y (out_stmt x (out_expr t.condition z))
  out_stmt (While t x) z = n.While t.keyword t.left t.right ∷ out_stmt x (out_expr t.condition z)
  out_stmt (Do k x t a) z = n.Do k t.keyword t.left t.right a ∷ out_expr t.condition (out_stmt x z)
  out_stmt (For head x) z = n.For (middle_of head) head.right ∷ out_stmt x (out_head head z)
  out_stmt (Break k a) z = n.Break k a ∷ z
  out_stmt (Continue k a) z = n.Continue k a ∷ z
  out_stmt (Return k value a) z = out_return k value a z

  pub out_stmts : Stmts → List Node → List Node
  out_stmts NoStmts z = z
  out_stmts (Then xs x) z = n.Then ∷ out_stmt x (out_stmts xs z)

-- ---- declarations

abbrev pub add_star : List Node → Span → List Node
add_star z a = n.Star a ∷ z

abbrev pub out_declared : Declared → List Node → List Node
out_declared x z = n.Declared x.specifiers x.name ∷ onto add_star (n.NoStars ∷ z) x.stars

abbrev pub add_length : List Node → Length → List Node
add_length z x = n.Length x ∷ z

abbrev pub out_declaration : Declaration → List Node → List Node
out_declaration x z = onto add_length (n.NoLengths ∷ out_declared x.declared z) x.lengths

abbrev pub add_member : List Node → Member → List Node
add_member z x = n.Member x.semicolon ∷ out_declaration x.declaration z

abbrev pub out_members : List Member → List Node → List Node
out_members l z = onto add_member (n.NoMembers ∷ z) l

abbrev pub out_struct : Struct → List Node → List Node
out_struct x z = n.Struct (make_front x.keyword x.tag x.left) x.right x.semicolon ∷ out_members x.members z

abbrev pub add_number : List Node → EarlierNumber → List Node
add_number z x = n.EarlierNumber x.number x.comma ∷ z

abbrev pub out_numbers : List EarlierNumber → List Node → List Node
out_numbers l z = onto add_number (n.NoNumbers ∷ z) l

abbrev pub out_initialiser : Initialiser → List Node → List Node
out_initialiser NoInitialiser z = n.NoInitialiser ∷ z
out_initialiser (Single equals number) z = n.Single equals number ∷ z
out_initialiser (Listed equals left earlier last right) z = n.Listed equals left last right ∷ out_numbers earlier z

abbrev pub out_global : Global → List Node → List Node
out_global x z = n.Global x.semicolon ∷ out_initialiser x.initialiser (out_declaration x.declaration z)

abbrev pub add_parameter : List Node → EarlierParameter → List Node
add_parameter z x = n.Parameter x.comma ∷ out_declared x.parameter z

-- the parameters, over what is declared
abbrev pub out_parameters : (left : Span) → Parameters → (right : Span) → List Node → List Node
out_parameters left (NoParameters void) right z = n.VoidHeader left void right ∷ (n.NoParameters ∷ z)
out_parameters left (Parameters' earlier last) right z = n.Header left right ∷ out_declared last (onto add_parameter (n.NoParameters ∷ z) earlier)

abbrev pub out_header : Header → List Node → List Node
out_header x z = out_parameters x.left x.parameters x.right (out_declared x.declared z)

abbrev pub out_local : Declaration → LocalInitialiser → (semicolon : Span) → List Node → List Node
out_local x NoValue a z = n.Local a ∷ out_declaration x z
out_local x (Value equals e) a z = n.LocalValue equals a ∷ out_expr e (out_declaration x z)

abbrev pub add_local : List Node → Local → List Node
add_local z x = out_local x.declaration x.initialiser x.semicolon z

-- a function up to its first statement; the list of its statements begins before its locals
abbrev pub out_front : Header → List Local → List Node → List Node
out_front x locals z = onto add_local (n.NoStatements ∷ (n.NoLocals ∷ out_header x z)) locals

abbrev pub out_function : Function → List Node → List Node
out_function x z = n.Function x.left x.right ∷ out_stmts x.body (out_front x.header x.locals z)

-- ---- items

abbrev pub out_item : Item → List Node → List Node
out_item (StructItem x) z = out_struct x z
out_item (GlobalItem x) z = out_global x z
out_item (PrototypeItem x) z = n.Prototype x.semicolon ∷ out_header x.header z
out_item (FunctionItem x) z = out_function x z

abbrev pub add_item : List Node → Item → List Node
add_item z x = out_item x z

abbrev pub out_items : List Item → List Node
out_items l = onto add_item [] l
