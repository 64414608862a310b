-- The syntax tree of a source as definitions speak of it: one constructor or field for each form of the grammar, without the
-- pointers of the program's own tree. (The forms are those of ISO/IEC 9899:1999, 6.5 to 6.9, that the compiler's profile of C
-- has.) Each form has the places of its own tokens.
use Rattle.std.specs.Prelude.{ℕ, List, Option}
use Rattle.clight_source.specs.declared.span.Span.{Span}
use Rattle.clight_source.specs.declared.symbol.Literal.{Literal}
use Rattle.clight_source.specs.declared.tree.Name.{Name}
use Rattle.clight_source.specs.declared.tree.BinaryOperator.{BinaryOperator}
use Rattle.clight_source.specs.declared.tree.PrefixOperator.{PrefixOperator}
use Rattle.clight_source.specs.declared.tree.MemberOperator.{MemberOperator}
use Rattle.clight_source.specs.declared.tree.Specifiers.{Specifiers}
use Rattle.clight_source.specs.declared.tree.CallTarget.{CallTarget}
use Rattle.clight_source.specs.declared.tree.Length.{Length}
use Rattle.clight_source.specs.declared.tree.SignedNumber.{SignedNumber}
use Rattle.clight_source.specs.declared.tree.EarlierNumber.{EarlierNumber}

pub data Expr : Type 0 where
  Variable : (name : Name) → Expr
  Number : (number : Literal) (span : Span) → Expr
  Parenthesis : (left : Span) (e : Expr) (right : Span) → Expr
  Binary : (l : Expr) (operator : BinaryOperator) (at : Span) (r : Expr) → Expr
  Prefix : (operator : PrefixOperator) (at : Span) (e : Expr) → Expr
  Cast : (left : Span) (type : Specifiers) (right : Span) (e : Expr) → Expr
  Index : (base : Expr) (left : Span) (index : Expr) (right : Span) → Expr
  Select : (e : Expr) (operator : MemberOperator) (at : Span) (member : Name) → Expr

-- target = value
pub record Assignment : Type 0 where
  pub target : Expr
  pub equals : Span
  pub value : Expr

-- keyword (condition)
pub record Test : Type 0 where
  pub keyword : Span
  pub left : Span
  pub condition : Expr
  pub right : Span

-- an argument and the comma behind it
pub record EarlierArgument : Type 0 where
  pub value : Expr
  pub comma : Span

-- none, or all but the last one and the last one
pub data Arguments : Type 0 where
  NoArguments : Arguments
  Arguments' : (earlier : List EarlierArgument) (last : Expr) → Arguments

pub record Call : Type 0 where
  pub target : Option CallTarget
  pub function : Name
  pub left : Span
  pub arguments : Arguments
  pub right : Span

-- for (first; condition; step)
pub record ForHead : Type 0 where
  pub keyword : Span
  pub left : Span
  pub first : Option Assignment
  pub first_semicolon : Span
  pub condition : Option Expr
  pub second_semicolon : Span
  pub step : Option Assignment
  pub right : Span

mutual
  pub data Stmt : Type 0 where
    Empty : (semicolon : Span) → Stmt
    Block : (left : Span) (body : Stmts) (right : Span) → Stmt
    Assign : (assignment : Assignment) (semicolon : Span) → Stmt
    ReadPort : (target : Expr) (equals port semicolon : Span) → Stmt
    WritePort : (port equals : Span) (value : Expr) (semicolon : Span) → Stmt
    CallOf : (call : Call) (semicolon : Span) → Stmt
    If : (test : Test) (arm : Stmt) → Stmt
    IfElse : (test : Test) (arm : Stmt) (else : Span) (other : Stmt) → Stmt
    While : (test : Test) (body : Stmt) → Stmt
    Do : (keyword : Span) (body : Stmt) (test : Test) (semicolon : Span) → Stmt
    For : (head : ForHead) (body : Stmt) → Stmt
    Break : (keyword semicolon : Span) → Stmt
    Continue : (keyword semicolon : Span) → Stmt
    Return : (keyword : Span) (value : Option Expr) (semicolon : Span) → Stmt

  -- statements one after the other, the last one outermost
  pub data Stmts : Type 0 where
    NoStmts : Stmts
    Then : (earlier : Stmts) (last : Stmt) → Stmts

-- the words of a type, stars and a name
pub record Declared : Type 0 where
  pub specifiers : Specifiers
  pub stars : List Span
  pub name : Name

-- the same and lengths of arrays
pub record Declaration : Type 0 where
  pub declared : Declared
  pub lengths : List Length

pub record Member : Type 0 where
  pub declaration : Declaration
  pub semicolon : Span

pub record Struct : Type 0 where
  pub keyword : Span
  pub tag : Name
  pub left : Span
  pub members : List Member
  pub right : Span
  pub semicolon : Span

pub data Initialiser : Type 0 where
  NoInitialiser : Initialiser
  Single : (equals : Span) (number : SignedNumber) → Initialiser
  Listed : (equals left : Span) (earlier : List EarlierNumber) (last : SignedNumber) (right : Span) → Initialiser

pub record Global : Type 0 where
  pub declaration : Declaration
  pub initialiser : Initialiser
  pub semicolon : Span

-- a parameter and the comma behind it
pub record EarlierParameter : Type 0 where
  pub parameter : Declared
  pub comma : Span

-- `void`, or all but the last one and the last one
pub data Parameters : Type 0 where
  NoParameters : (void : Span) → Parameters
  Parameters' : (earlier : List EarlierParameter) (last : Declared) → Parameters

pub record Header : Type 0 where
  pub declared : Declared
  pub left : Span
  pub parameters : Parameters
  pub right : Span

pub record Prototype : Type 0 where
  pub header : Header
  pub semicolon : Span

pub data LocalInitialiser : Type 0 where
  NoValue : LocalInitialiser
  Value : (equals : Span) (value : Expr) → LocalInitialiser

pub record Local : Type 0 where
  pub declaration : Declaration
  pub initialiser : LocalInitialiser
  pub semicolon : Span

pub record Function : Type 0 where
  pub header : Header
  pub left : Span
  pub locals : List Local
  pub body : Stmts
  pub right : Span

pub data Item : Type 0 where
  StructItem : Struct → Item
  GlobalItem : Global → Item
  PrototypeItem : Prototype → Item
  FunctionItem : Function → Item

-- the identifiers by their numbers, the items in order, and the whole text
pub record Program : Type 0 where
  pub names : List (List ℕ)
  pub items : List Item
  pub span : Span
