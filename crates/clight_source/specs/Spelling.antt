-- What a syntax tree spells: the terminal symbols that it has, in order, with their places; and which trees the grammar has.
-- (ISO/IEC 9899:1999, 6.5 to 6.9, in the compiler's profile of C: `docs/language.md`.)
use Rattle.std.specs.Prelude.{◌≡◌, ◌≤◌, ◌<◌, ℕ, ◌+◌, List, [], ◌∷◌, ◌++◌, Option, Some, None, All, length, map}
use Rattle.std.specs.List.{flat_map}
use Rattle.clight_source.specs.declared.span.Span.{Span}
use Rattle.clight_source.specs.declared.symbol.Symbol.{Symbol}
use Rattle.clight_source.specs.declared.symbol.Symbol.TheVariants as s
use Rattle.clight_source.specs.declared.symbol.Terminal.{Terminal}
use Rattle.clight_source.specs.declared.tree.Name.{Name}
use Rattle.clight_source.specs.declared.tree.BinaryOperator.{BinaryOperator}
use Rattle.clight_source.specs.declared.tree.BinaryOperator.TheVariants as b
use Rattle.clight_source.specs.declared.tree.PrefixOperator.{PrefixOperator}
use Rattle.clight_source.specs.declared.tree.PrefixOperator.TheVariants as p
use Rattle.clight_source.specs.declared.tree.MemberOperator.{MemberOperator}
use Rattle.clight_source.specs.declared.tree.MemberOperator.TheVariants as m
use Rattle.clight_source.specs.declared.tree.Specifiers.{Specifiers}
use Rattle.clight_source.specs.declared.tree.Specifiers.TheVariants as t
use Rattle.clight_source.specs.declared.tree.CallTarget.{CallTarget}
use Rattle.clight_source.specs.declared.tree.Length.{Length}
use Rattle.clight_source.specs.declared.tree.SignedNumber.{SignedNumber}
use Rattle.clight_source.specs.declared.tree.EarlierNumber.{EarlierNumber}
use Rattle.clight_source.specs.Trees.{Expr, Variable, Number, Parenthesis, Binary, Prefix, Cast, Index, Select, Assignment, Test, EarlierArgument, Arguments, NoArguments, Arguments', Call, ForHead, Stmt, Empty, Block, Assign, ReadPort, WritePort, CallOf, If, IfElse, While, Do, For, Break, Continue, Return, Stmts, NoStmts, Then, Declared, Declaration, Member, Struct, Initialiser, NoInitialiser, Single, Listed, Global, EarlierParameter, Parameters, NoParameters, Parameters', Header, LocalInitialiser, NoValue, Value, Local, Function, Item, StructItem, GlobalItem, PrototypeItem, FunctionItem}

-- ---- the terminal symbols of a tree

abbrev pub terminal : Symbol → Span → Terminal
terminal symbol span = record { symbol = symbol; span = span }

abbrev pub name_terminal : Name → Terminal
name_terminal name = terminal (s.Name name.number) name.span

abbrev pub binary_symbol : BinaryOperator → Symbol
binary_symbol b.LogicalOr = s.OrOr
binary_symbol b.LogicalAnd = s.AndAnd
binary_symbol b.BitOr = s.Bar
binary_symbol b.BitXor = s.Caret
binary_symbol b.BitAnd = s.Ampersand
binary_symbol b.Equal = s.EqualTo
binary_symbol b.NotEqual = s.NotEqualTo
binary_symbol b.Less = s.Less
binary_symbol b.Greater = s.Greater
binary_symbol b.LessOrEqual = s.LessOrEqual
binary_symbol b.GreaterOrEqual = s.GreaterOrEqual
binary_symbol b.ShiftLeft = s.ShiftLeft
binary_symbol b.ShiftRight = s.ShiftRight
binary_symbol b.Add = s.Plus
binary_symbol b.Subtract = s.Minus
binary_symbol b.Multiply = s.Star
binary_symbol b.Divide = s.Slash
binary_symbol b.Remainder = s.Percent

abbrev pub prefix_symbol : PrefixOperator → Symbol
prefix_symbol p.Negate = s.Minus
prefix_symbol p.Complement = s.Tilde
prefix_symbol p.Not = s.Exclamation
prefix_symbol p.Dereference = s.Star
prefix_symbol p.AddressOf = s.Ampersand

abbrev pub member_symbol : MemberOperator → Symbol
member_symbol m.Dot = s.Dot
member_symbol m.Arrow = s.Arrow

abbrev pub type_terminals : Specifiers → List Terminal
type_terminals (t.Void a) = terminal s.Void a ∷ []
type_terminals (t.Struct a tag) = terminal s.Struct a ∷ name_terminal tag ∷ []
type_terminals (t.Char a) = terminal s.Char a ∷ []
type_terminals (t.SignedChar a c) = terminal s.Signed a ∷ terminal s.Char c ∷ []
type_terminals (t.UnsignedChar a c) = terminal s.Unsigned a ∷ terminal s.Char c ∷ []
type_terminals (t.Int a) = terminal s.Int a ∷ []
type_terminals (t.Signed a) = terminal s.Signed a ∷ []
type_terminals (t.SignedInt a c) = terminal s.Signed a ∷ terminal s.Int c ∷ []
type_terminals (t.Unsigned a) = terminal s.Unsigned a ∷ []
type_terminals (t.UnsignedInt a c) = terminal s.Unsigned a ∷ terminal s.Int c ∷ []
type_terminals (t.Long a) = terminal s.Long a ∷ []
type_terminals (t.LongInt a c) = terminal s.Long a ∷ terminal s.Int c ∷ []
type_terminals (t.SignedLong a c) = terminal s.Signed a ∷ terminal s.Long c ∷ []
type_terminals (t.SignedLongInt a c d) = terminal s.Signed a ∷ terminal s.Long c ∷ terminal s.Int d ∷ []
type_terminals (t.UnsignedLong a c) = terminal s.Unsigned a ∷ terminal s.Long c ∷ []
type_terminals (t.UnsignedLongInt a c d) = terminal s.Unsigned a ∷ terminal s.Long c ∷ terminal s.Int d ∷ []

abbrev pub expr_terminals : Expr → List Terminal
expr_terminals (Variable name) = name_terminal name ∷ []
expr_terminals (Number number a) = terminal (s.Number number) a ∷ []
expr_terminals (Parenthesis o e c) = terminal s.LeftParenthesis o ∷ (expr_terminals e ++ terminal s.RightParenthesis c ∷ [])
expr_terminals (Binary l operator a r) = expr_terminals l ++ (terminal (binary_symbol operator) a ∷ expr_terminals r)
expr_terminals (Prefix operator a e) = terminal (prefix_symbol operator) a ∷ expr_terminals e
expr_terminals (Cast o type c e) = terminal s.LeftParenthesis o ∷ (type_terminals type ++ (terminal s.RightParenthesis c ∷ expr_terminals e))
expr_terminals (Index e o i c) = expr_terminals e ++ (terminal s.LeftBracket o ∷ (expr_terminals i ++ terminal s.RightBracket c ∷ []))
expr_terminals (Select e operator a member) = expr_terminals e ++ (terminal (member_symbol operator) a ∷ name_terminal member ∷ [])

abbrev pub assignment_terminals : Assignment → List Terminal
assignment_terminals x = expr_terminals x.target ++ (terminal s.Assign x.equals ∷ expr_terminals x.value)

-- the terminals of what may be missing
abbrev pub optional : {A : Type 0} → (A → List Terminal) → Option A → List Terminal
optional terminals None = []
optional terminals (Some x) = terminals x

-- the keyword of a statement and its condition in parentheses
abbrev pub test_terminals : Symbol → Test → List Terminal
test_terminals keyword x =
    terminal keyword x.keyword ∷ (terminal s.LeftParenthesis x.left ∷ (expr_terminals x.condition ++ terminal s.RightParenthesis x.right ∷ []))

abbrev pub earlier_argument_terminals : EarlierArgument → List Terminal
earlier_argument_terminals x = expr_terminals x.value ++ terminal s.Comma x.comma ∷ []

abbrev pub arguments_terminals : Arguments → List Terminal
arguments_terminals NoArguments = []
arguments_terminals (Arguments' earlier last) = flat_map earlier_argument_terminals earlier ++ expr_terminals last

abbrev pub target_terminals : CallTarget → List Terminal
target_terminals x = name_terminal x.name ∷ terminal s.Assign x.equals ∷ []

abbrev pub call_terminals : Call → List Terminal
call_terminals x =
    optional target_terminals x.target
    ++ (name_terminal x.function ∷ (terminal s.LeftParenthesis x.left ∷ (arguments_terminals x.arguments ++ terminal s.RightParenthesis x.right ∷ [])))

abbrev pub for_terminals : ForHead → List Terminal
for_terminals x =
    terminal s.For x.keyword ∷ (terminal s.LeftParenthesis x.left
    ∷ (optional assignment_terminals x.first ++ (terminal s.Semicolon x.first_semicolon
    ∷ (optional expr_terminals x.condition ++ (terminal s.Semicolon x.second_semicolon
    ∷ (optional assignment_terminals x.step ++ terminal s.RightParenthesis x.right ∷ []))))))

abbrev mutual
  pub stmt_terminals : Stmt → List Terminal
  stmt_terminals (Empty a) = terminal s.Semicolon a ∷ []
  stmt_terminals (Block o body c) = terminal s.LeftBrace o ∷ (stmts_terminals body ++ terminal s.RightBrace c ∷ [])
  stmt_terminals (Assign x a) = assignment_terminals x ++ terminal s.Semicolon a ∷ []
  stmt_terminals (ReadPort target q port a) = expr_terminals target ++ (terminal s.Assign q ∷ terminal s.PortOne port ∷ terminal s.Semicolon a ∷ [])
  stmt_terminals (WritePort port q value a) = terminal s.PortOne port ∷ (terminal s.Assign q ∷ (expr_terminals value ++ terminal s.Semicolon a ∷ []))
  stmt_terminals (CallOf x a) = call_terminals x ++ terminal s.Semicolon a ∷ []
  stmt_terminals (If test x) = test_terminals s.If test ++ stmt_terminals x
  stmt_terminals (IfElse test x a y) = test_terminals s.If test ++ (stmt_terminals x ++ (terminal s.Else a ∷ stmt_terminals y))
  stmt_terminals (While test x) = test_terminals s.While test ++ stmt_terminals x
  stmt_terminals (Do k x test a) = terminal s.Do k ∷ (stmt_terminals x ++ (test_terminals s.While test ++ terminal s.Semicolon a ∷ []))
  stmt_terminals (For head x) = for_terminals head ++ stmt_terminals x
  stmt_terminals (Break k a) = terminal s.Break k ∷ terminal s.Semicolon a ∷ []
  stmt_terminals (Continue k a) = terminal s.Continue k ∷ terminal s.Semicolon a ∷ []
  stmt_terminals (Return k value a) = terminal s.Return k ∷ (optional expr_terminals value ++ terminal s.Semicolon a ∷ [])

  pub stmts_terminals : Stmts → List Terminal
  stmts_terminals NoStmts = []
  stmts_terminals (Then xs x) = stmts_terminals xs ++ stmt_terminals x

abbrev pub length_terminals : Length → List Terminal
length_terminals x = terminal s.LeftBracket x.left ∷ terminal (s.Number x.number) x.span ∷ terminal s.RightBracket x.right ∷ []

abbrev pub declared_terminals : Declared → List Terminal
declared_terminals x = type_terminals x.specifiers ++ (map (terminal s.Star) x.stars ++ name_terminal x.name ∷ [])

abbrev pub declaration_terminals : Declaration → List Terminal
declaration_terminals x = declared_terminals x.declared ++ flat_map length_terminals x.lengths

abbrev pub member_terminals : Member → List Terminal
member_terminals x = declaration_terminals x.declaration ++ terminal s.Semicolon x.semicolon ∷ []

abbrev pub struct_terminals : Struct → List Terminal
struct_terminals x =
    terminal s.Struct x.keyword ∷ (name_terminal x.tag ∷ (terminal s.LeftBrace x.left
    ∷ (flat_map member_terminals x.members ++ (terminal s.RightBrace x.right ∷ terminal s.Semicolon x.semicolon ∷ []))))

abbrev pub minus_terminals : Span → List Terminal
minus_terminals a = terminal s.Minus a ∷ []

abbrev pub number_terminals : SignedNumber → List Terminal
number_terminals x = optional minus_terminals x.minus ++ terminal (s.Number x.number) x.span ∷ []

abbrev pub earlier_number_terminals : EarlierNumber → List Terminal
earlier_number_terminals x = number_terminals x.number ++ terminal s.Comma x.comma ∷ []

abbrev pub initialiser_terminals : Initialiser → List Terminal
initialiser_terminals NoInitialiser = []
initialiser_terminals (Single q number) = terminal s.Assign q ∷ number_terminals number
initialiser_terminals (Listed q o earlier last c) =
    terminal s.Assign q ∷ (terminal s.LeftBrace o ∷ (flat_map earlier_number_terminals earlier ++ (number_terminals last ++ terminal s.RightBrace c ∷ [])))

abbrev pub global_terminals : Global → List Terminal
global_terminals x = declaration_terminals x.declaration ++ (initialiser_terminals x.initialiser ++ terminal s.Semicolon x.semicolon ∷ [])

abbrev pub earlier_parameter_terminals : EarlierParameter → List Terminal
earlier_parameter_terminals x = declared_terminals x.parameter ++ terminal s.Comma x.comma ∷ []

abbrev pub parameters_terminals : Parameters → List Terminal
parameters_terminals (NoParameters a) = terminal s.Void a ∷ []
parameters_terminals (Parameters' earlier last) = flat_map earlier_parameter_terminals earlier ++ declared_terminals last

abbrev pub header_terminals : Header → List Terminal
header_terminals x =
    declared_terminals x.declared ++ (terminal s.LeftParenthesis x.left ∷ (parameters_terminals x.parameters ++ terminal s.RightParenthesis x.right ∷ []))

abbrev pub local_initialiser_terminals : LocalInitialiser → List Terminal
local_initialiser_terminals NoValue = []
local_initialiser_terminals (Value q e) = terminal s.Assign q ∷ expr_terminals e

abbrev pub local_terminals : Local → List Terminal
local_terminals x = declaration_terminals x.declaration ++ (local_initialiser_terminals x.initialiser ++ terminal s.Semicolon x.semicolon ∷ [])

abbrev pub function_terminals : Function → List Terminal
function_terminals x =
    header_terminals x.header ++ (terminal s.LeftBrace x.left
    ∷ (flat_map local_terminals x.locals ++ (stmts_terminals x.body ++ terminal s.RightBrace x.right ∷ [])))

abbrev pub item_terminals : Item → List Terminal
item_terminals (StructItem x) = struct_terminals x
item_terminals (GlobalItem x) = global_terminals x
item_terminals (PrototypeItem x) = header_terminals x.header ++ terminal s.Semicolon x.semicolon ∷ []
item_terminals (FunctionItem x) = function_terminals x

abbrev pub items_terminals : List Item → List Terminal
items_terminals items = flat_map item_terminals items

-- ---- the trees of the grammar

-- How tightly an operator binds. Its left operand binds as tightly at least, its right one more tightly: operators join to
-- the left. A whole expression has level 1 at least, the operand of a prefix operator or a cast 12, the left side of an index
-- or a member 13.
abbrev pub level : BinaryOperator → ℕ
level b.LogicalOr = 2
level b.LogicalAnd = 3
level b.BitOr = 4
level b.BitXor = 5
level b.BitAnd = 6
level b.Equal = 7
level b.NotEqual = 7
level b.Less = 8
level b.Greater = 8
level b.LessOrEqual = 8
level b.GreaterOrEqual = 8
level b.ShiftLeft = 9
level b.ShiftRight = 9
level b.Add = 10
level b.Subtract = 10
level b.Multiply = 11
level b.Divide = 11
level b.Remainder = 11

abbrev pub unary_level : ℕ
unary_level = 12

abbrev pub postfix_level : ℕ
postfix_level = 13

-- the grammar has the expression, and it may stand where one of level n is asked for
abbrev pub HasLevel : Expr → ℕ → Type 0
HasLevel (Variable name) n = Unit {0}
HasLevel (Number number a) n = Unit {0}
HasLevel (Parenthesis o e c) n = HasLevel e 1
HasLevel (Binary l operator a r) n = (n ≤ level operator) × HasLevel l (level operator) × HasLevel r (1 + level operator)
HasLevel (Prefix operator a e) n = (n ≤ unary_level) × HasLevel e unary_level
HasLevel (Cast o type c e) n = (n ≤ unary_level) × HasLevel e unary_level
HasLevel (Index e o i c) n = HasLevel e postfix_level × HasLevel i 1
HasLevel (Select e operator a member) n = HasLevel e postfix_level

abbrev pub IsExpression : Expr → Type 0
IsExpression e = HasLevel e 1

abbrev pub IsUnary : Expr → Type 0
IsUnary e = HasLevel e unary_level

abbrev pub IsAssignment : Assignment → Type 0
IsAssignment x = IsUnary x.target × IsExpression x.value

-- what is there, if it is, obeys the grammar
abbrev pub IfThere : {A : Type 0} → (A → Type 0) → Option A → Type 0
IfThere Obeys None = Unit {0}
IfThere Obeys (Some x) = Obeys x

abbrev pub AreArguments : Arguments → Type 0
AreArguments NoArguments = Unit {0}
AreArguments (Arguments' earlier last) = All (λ x. IsExpression x.value) earlier × IsExpression last

abbrev pub IsForHead : ForHead → Type 0
IsForHead x = IfThere IsAssignment x.first × IfThere IsExpression x.condition × IfThere IsAssignment x.step

-- no `if` without an `else` stands at the statement's end
abbrev pub EndsClosed : Stmt → Type 0
EndsClosed (If test x) = ⊥
EndsClosed (IfElse test x a y) = EndsClosed y
EndsClosed (While test x) = EndsClosed x
EndsClosed (For head x) = EndsClosed x
EndsClosed x = Unit {0}

-- the grammar has the statement; an `else` belongs to the nearest `if` that has none
abbrev mutual
  pub IsStatement : Stmt → Type 0
  IsStatement (Empty a) = Unit {0}
  IsStatement (Block o body c) = AreStatements body
  IsStatement (Assign x a) = IsAssignment x
  IsStatement (ReadPort target q port a) = IsUnary target
  IsStatement (WritePort port q value a) = IsExpression value
  IsStatement (CallOf x a) = AreArguments x.arguments
  IsStatement (If test x) = IsExpression test.condition × IsStatement x
  IsStatement (IfElse test x a y) = IsExpression test.condition × IsStatement x × EndsClosed x × IsStatement y
  IsStatement (While test x) = IsExpression test.condition × IsStatement x
  IsStatement (Do k x test a) = IsStatement x × IsExpression test.condition
  IsStatement (For head x) = IsForHead head × IsStatement x
  IsStatement (Break k a) = Unit {0}
  IsStatement (Continue k a) = Unit {0}
  IsStatement (Return k value a) = IfThere IsExpression value

  pub AreStatements : Stmts → Type 0
  AreStatements NoStmts = Unit {0}
  AreStatements (Then xs x) = AreStatements xs × IsStatement x

abbrev pub IsLocalInitialiser : LocalInitialiser → Type 0
IsLocalInitialiser NoValue = Unit {0}
IsLocalInitialiser (Value q e) = IsExpression e

abbrev pub IsLocal : Local → Type 0
IsLocal x = IsLocalInitialiser x.initialiser

abbrev pub IsFunction : Function → Type 0
IsFunction x = All IsLocal x.locals × AreStatements x.body

-- a struct has a member at least
abbrev pub IsItem : Item → Type 0
IsItem (StructItem x) = 0 < length x.members
IsItem (GlobalItem x) = Unit {0}
IsItem (PrototypeItem x) = Unit {0}
IsItem (FunctionItem x) = IsFunction x

abbrev pub AreItems : List Item → Type 0
AreItems items = All IsItem items

-- ---- spelling

-- the terminals spell the items
abbrev pub Spells : List Item → List Terminal → Type 0
Spells items l = AreItems items × (items_terminals items ≡ l)

-- some items begin with these terminals
abbrev pub Begins : List Terminal → Type 0
Begins l = (items : List Item) × (more : List Terminal) × Spells items (l ++ more)
