-- What the machine over trees knows between two tokens. It keeps the forms that are open, the innermost first, and a mode: what may come
-- next and what is at hand for it.
use Rattle.std.specs.Prelude.{List, Option}
use Rattle.clight_source.specs.declared.span.Span.{Span}
use Rattle.clight_source.specs.declared.symbol.Literal.{Literal}
use Rattle.clight_source.specs.declared.tree.Name.{Name}
use Rattle.clight_source.specs.declared.tree.BinaryOperator.{BinaryOperator}
use Rattle.clight_source.specs.declared.tree.PrefixOperator.{PrefixOperator}
use Rattle.clight_source.specs.declared.tree.MemberOperator.{MemberOperator}
use Rattle.clight_source.specs.declared.tree.Specifiers.{Specifiers}
use Rattle.clight_source.specs.declared.tree.CallTarget.{CallTarget}
use Rattle.clight_source.specs.declared.tree.SignedNumber.{SignedNumber}
use Rattle.clight_source.specs.declared.tree.EarlierNumber.{EarlierNumber}
use Rattle.clight_source.specs.Trees.{EarlierArgument, Test, Call, ForHead, Declared, Declaration, Member, EarlierParameter, Header, Initialiser, Item, Expr, Stmt, Stmts}
use Rattle.clight_nodes.specs.declared.modes.StructFront.{StructFront}
use Rattle.clight_grammar.specs.Code.Parts.{ForStart, ForMiddle, FunctionFront}

-- where an assignment is
pub data Place : Type 0 where
  -- as a statement
  AsStatement : Place
  -- after `for (`
  AsFirst : (keyword left : Span) → Place
  -- after `for (first; condition;`
  AsStep : ForMiddle → Place

pub data Form : Type 0 where
  -- operators without their last operand
  InBinary : Expr → BinaryOperator → (at : Span) → Form
  InPrefix : PrefixOperator → (at : Span) → Form
  InCast : (left : Span) → Specifiers → (right : Span) → Form
  -- what holds a whole expression: `(`
  InParenthesis : (left : Span) → Form
  -- `base [`
  InIndex : (base : Expr) → (left : Span) → Form
  -- the left side of an assignment, or the name of a function, is due
  InTarget : Place → Form
  -- `target =`
  InValue : Place → (target : Expr) → (equals : Span) → Form
  -- `P1 =`
  InPortValue : (port equals : Span) → Form
  -- `target = function (` and the arguments so far
  InArguments : Option CallTarget → (function : Name) → (left : Span) → List EarlierArgument → Form
  -- `if (`
  InIfTest : (keyword left : Span) → Form
  -- `while (`
  InWhileTest : (keyword left : Span) → Form
  -- `do body while (`
  InDoTest : (keyword : Span) → Stmt → (while' left : Span) → Form
  -- `for (first;`
  InCondition : ForStart → Form
  -- `return`
  InReturn : (keyword : Span) → Form
  -- `declaration =` among the locals of a function
  InLocalValue : FunctionFront → Declaration → (equals : Span) → Form
  -- what holds a statement: `if (condition)`
  InIf : Test → Form
  -- `if (condition) arm else`
  InElse : Test → Stmt → (else' : Span) → Form
  -- `while (condition)`
  InWhile : Test → Form
  -- `do`
  InDo : (keyword : Span) → Form
  -- `for (first; condition; step)`
  InFor : ForHead → Form
  -- `{` and the statements so far
  InBlock : (left : Span) → Stmts → Form
  -- a function before its first statement
  InLocals : FunctionFront → Form
  -- a function and its statements so far, one at least
  InBody : FunctionFront → Stmts → Form

-- what a declaration is a part of
pub data Owner : Type 0 where
  -- the source itself
  InSource : Owner
  -- a struct with the members so far
  InStruct : StructFront → List Member → Owner
  -- `function (`
  InFirstParameter : (function : Declared) → (left : Span) → Owner
  -- `function (` and the parameters so far, one at least
  InLaterParameter : (function : Declared) → (left : Span) → List EarlierParameter → Owner
  -- the locals of a function
  InFunction : FunctionFront → Owner

-- a simple statement without its `;`
pub data Pending : Type 0 where
  CallPending : Call → Pending
  ReadPending : (target : Expr) → (equals port : Span) → Pending
  DoPending : (keyword : Span) → Stmt → Test → Pending
  BreakPending : (keyword : Span) → Pending
  ContinuePending : (keyword : Span) → Pending

-- `declaration = {` and the numbers so far
pub record NumberList : Type 0 where
  pub declaration : Declaration
  pub equals : Span
  pub left : Span
  pub earlier : List EarlierNumber

pub data Mode : Type 0 where
  -- an operand is due
  Operand : List Form → Mode
  -- an operand is there
  AfterOperand : Expr → List Form → Mode
  -- after `.` or `->`: the name of a member is due
  MemberName : Expr → MemberOperator → (at : Span) → List Form → Mode
  -- after `( struct`: a tag is due
  CastTag : (left keyword : Span) → List Form → Mode
  -- after `(` and the words of a type
  CastWords : (left : Span) → Specifiers → List Form → Mode
  -- a statement may begin, or what holds statements end
  Statement : List Form → Mode
  -- a statement is there, in an `if`: `else` may come
  MayElse : Stmt → List Form → Mode
  -- after `if`: `(` is due
  IfWord : (keyword : Span) → List Form → Mode
  -- after `while`: `(` is due
  WhileWord : (keyword : Span) → List Form → Mode
  -- after `do body`: `while` is due
  DoBody : (keyword : Span) → Stmt → List Form → Mode
  -- after `do body while`: `(` is due
  DoWhile : (keyword : Span) → Stmt → (while' : Span) → List Form → Mode
  -- after `for`: `(` is due
  ForWord : (keyword : Span) → List Form → Mode
  -- after `for (`: an assignment or `;`
  ForFirst : (keyword left : Span) → List Form → Mode
  -- after `for (first;`: a condition or `;`
  ForCondition : ForStart → List Form → Mode
  -- after `for (first; condition;`: an assignment or `)`
  ForStep : ForMiddle → List Form → Mode
  -- after `return`: an expression or `;`
  ReturnWord : (keyword : Span) → List Form → Mode
  -- after `P1` at a statement's start: `=` is due
  PortWord : (port : Span) → List Form → Mode
  -- after `function (`: an argument or `)`
  FirstArgument : Option CallTarget → (function : Name) → (left : Span) → List Form → Mode
  -- `;` is due
  StatementEnd : Pending → List Form → Mode
  -- an item may begin, or the text end
  ItemStart : Mode
  -- the type of a declaration is due
  TypeStart : Owner → Mode
  -- after `struct`: a tag is due
  TagName : Owner → (keyword : Span) → Mode
  -- after words of a type
  Words : Owner → Specifiers → Mode
  -- after a star
  Stars : Owner → Specifiers → (stars : List Span) → Mode
  -- after the name that is declared
  Named : Owner → Declared → Mode
  -- after a length
  Lengths : Owner → Declaration → Mode
  -- after `[`: a number is due
  LengthNumber : Owner → Declaration → (left : Span) → Mode
  -- after that number: `]` is due
  LengthEnd : Owner → Declaration → (left : Span) → Literal → Span → Mode
  -- after a member: another one, or `}`
  Members : StructFront → List Member → Mode
  -- after the `}` of a struct: `;` is due
  StructEnd : StructFront → List Member → (right : Span) → Mode
  -- after the `=` of a global: `{`, `-` or a number
  InitialiserStart : Declaration → (equals : Span) → Mode
  -- after `-`: a number is due
  InitialiserNumber : Declaration → (equals minus : Span) → Mode
  -- after the initialiser of a global: `;` is due
  InitialiserEnd : Declaration → Initialiser → Mode
  -- in a list of numbers: `-` or a number
  ListStart : NumberList → Mode
  -- in a list of numbers, after `-`: a number is due
  ListNumber : NumberList → (minus : Span) → Mode
  -- in a list of numbers, after a number: `,` or `}`
  ListEnd : NumberList → SignedNumber → Mode
  -- after the `)` of a function's parameters: `;` or `{`
  HeaderEnd : Header → Mode
  -- an item is whole
  Finished : Item → Mode
  -- no program goes on so
  Refused : Mode
