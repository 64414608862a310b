-- A program whose expressions have types and whose names have meanings, as definitions speak of it: without the pointers of the
-- program's own tree. L is what stands at each place of a cost label: nothing, or the label.
use Rattle.std.specs.Prelude.{ℕ, ◌+◌, List, length, take, drop, Option, Some, None, slice_get}
use Rattle.cerco_base.specs.CallOrder.{Called}
use Rattle.clight_source.specs.declared.span.Span.{Span}
use Rattle.clight_source.specs.declared.symbol.Literal.{Literal}
use Rattle.clight_source.specs.declared.tree.Name.{Name}
use Rattle.clight_source.specs.declared.tree.BinaryOperator.{BinaryOperator}
use Rattle.clight_source.specs.declared.tree.PrefixOperator.{PrefixOperator}
use Rattle.clight_source.specs.declared.tree.MemberOperator.{MemberOperator}
use Rattle.clight_source.specs.declared.tree.Specifiers.{Specifiers}
use Rattle.clight_syntax.specs.declared.typed.ResultTarget.{ResultTarget}
use Rattle.clight_syntax.specs.declared.typed.Home.{Home}
use Rattle.clight_source.specs.Trees.{Declaration, Global, Header, Prototype, Struct}
use Rattle.c_types.specs.Types.{CType, StructType}

-- each form carries its type
pub data Expr : Type 0 where
  Variable : (type : CType) (variable : ℕ) (name : Name) → Expr
  Number : (type : CType) (number : Literal) (span : Span) → Expr
  Parenthesis : (type : CType) (left : Span) (e : Expr) (right : Span) → Expr
  Binary : (type : CType) (l : Expr) (operator : BinaryOperator) (at : Span) (r : Expr) → Expr
  Prefix : (type : CType) (operator : PrefixOperator) (at : Span) (e : Expr) → Expr
  Cast : (type : CType) (left : Span) (words : Specifiers) (right : Span) (e : Expr) → Expr
  Index : (type : CType) (base : Expr) (left : Span) (index : Expr) (right : Span) → Expr
  Select : (type : CType) (e : Expr) (operator : MemberOperator) (at : Span) (member : Name) (offset : ℕ) → Expr

-- the type that an expression carries
abbrev pub type_at : Expr → CType
type_at (Variable type variable name) = type
type_at (Number type number span) = type
type_at (Parenthesis type left e right) = type
type_at (Binary type l operator at r) = type
type_at (Prefix type operator at e) = type
type_at (Cast type left words right e) = type
type_at (Index type base left index right) = type
type_at (Select type e operator at member offset) = type

pub data Cond (L : Type 0) : Type 0 where
  Truth : (e : Expr) → Cond L
  InParentheses : (left : Span) (c : Cond L) (right : Span) → Cond L
  Not : (at : Span) (c : Cond L) → Cond L
  -- the labels stand behind the left operand, where it is true and where it is false
  Both : (l : Cond L) (at : Span) (on_true on_false : L) (r : Cond L) → Cond L
  Either : (l : Cond L) (at : Span) (on_true on_false : L) (r : Cond L) → Cond L

pub record Assignment : Type 0 where
  pub target : Expr
  pub equals : Span
  pub value : Expr

pub record Test (L : Type 0) : Type 0 where
  pub keyword : Span
  pub left : Span
  pub condition : Cond L
  pub right : Span

pub record EarlierArgument : Type 0 where
  pub value : Expr
  pub comma : Span

pub data Arguments : Type 0 where
  NoArguments : Arguments
  Arguments' : (earlier : List EarlierArgument) (last : Expr) → Arguments

pub record Call : Type 0 where
  pub target : Option ResultTarget
  pub function : ℕ
  pub name : Name
  pub left : Span
  pub arguments : Arguments
  pub right : Span

pub record ForHead (L : Type 0) : Type 0 where
  pub keyword : Span
  pub left : Span
  pub first : Option Assignment
  pub first_semicolon : Span
  pub condition : Option (Cond L)
  pub second_semicolon : Span
  pub step : Option Assignment
  pub right : Span

mutual
  pub data Stmt (L : Type 0) : Type 0 where
    Empty : (semicolon : Span) → Stmt L
    Block : (left : Span) (body : Stmts L) (right : Span) → Stmt L
    Assign : (assignment : Assignment) (semicolon : Span) → Stmt L
    ReadPort : (target : Expr) (equals port semicolon : Span) → Stmt L
    WritePort : (port equals : Span) (value : Expr) (semicolon : Span) → Stmt L
    -- the label stands behind the call
    CallOf : (call : Call) (semicolon : Span) (back : L) → Stmt L
    -- the second label is that of the missing arm
    If : (test : Test L) (one : L) (arm : Stmt L) (other : L) → Stmt L
    IfElse : (test : Test L) (one : L) (arm : Stmt L) (else : Span) (other : L) (otherwise : Stmt L) → Stmt L
    -- of a loop: a label at each turn's body, and a label behind the loop
    While : (test : Test L) (turn : L) (body : Stmt L) (after : L) → Stmt L
    -- the label of the way back to the body, and the label behind the loop
    Do : (keyword : Span) (body : Stmt L) (test : Test L) (again : L) (semicolon : Span) (after : L) → Stmt L
    For : (head : ForHead L) (turn : L) (body : Stmt L) (after : L) → Stmt L
    Break : (keyword semicolon : Span) → Stmt L
    Continue : (keyword semicolon : Span) → Stmt L
    Return : (keyword : Span) (value : Option Expr) (semicolon : Span) → Stmt L

  -- statements one after the other, the last one outermost
  pub data Stmts (L : Type 0) : Type 0 where
    NoStmts : Stmts L
    Then : (earlier : Stmts L) (last : Stmt L) → Stmts L

pub data LocalInitialiser : Type 0 where
  NoValue : LocalInitialiser
  Value : (equals : Span) (value : Expr) → LocalInitialiser

pub record Local : Type 0 where
  pub declaration : Declaration
  pub initialiser : LocalInitialiser
  pub semicolon : Span

pub record Function (L : Type 0) : Type 0 where
  pub header : Header
  pub result : CType
  -- the number of its first variable: its parameters and then its locals, in order
  pub first_variable : ℕ
  pub parameters : ℕ
  pub left : Span
  -- the label at its start
  pub label : L
  pub locals : List Local
  pub body : Stmts L
  pub right : Span

pub data Item : Type 0 where
  StructItem : Struct → Item
  -- with the variable's number
  GlobalItem : Global → ℕ → Item
  PrototypeItem : Prototype → Item
  -- by the function's number
  FunctionItem : ℕ → Item

pub record Variable' : Type 0 where
  pub name : Name
  pub type : CType
  pub home : Home
  pub address : ℕ

-- how many parameters and locals a function has
abbrev pub own_count : {L : Type 0} → Function L → ℕ
own_count f = f.parameters + length f.locals

-- a function's parameters and locals, where these are the variables of its program
abbrev pub own_variables : {L : Type 0} → Function L → List Variable' → List Variable'
own_variables f variables = take (own_count f) (drop f.first_variable variables)

pub record TypedProgram (L : Type 0) : Type 0 where
  pub names : List (List ℕ)
  pub items : List Item
  pub span : Span
  pub structs : List StructType
  pub variables : List Variable'
  pub functions : List (Function L)
  pub main : ℕ
  pub frames : List ℕ
  pub data_bytes : ℕ
  -- the functions in the order of their calls
  pub calls : List Called

abbrev pub variable_address : Option Variable' → ℕ
variable_address (Some x) = x.address
variable_address None = 0

-- the first address of a variable's block, 0 where it has none
abbrev pub address_at : {L : Type 0} → TypedProgram L → ℕ → ℕ
address_at p v = variable_address (slice_get p.variables v)
