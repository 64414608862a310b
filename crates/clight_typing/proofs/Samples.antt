-- Pieces of syntax trees by which the definitions are tried. A place is given by its first byte.
use Rattle.std.proofs.Common.{◌≡◌, ℕ, ◌+◌, Bool, true, false, List, [], ◌∷◌, refl}
use Rattle.std.specs.Prelude.{Option, Some, None, Result, Ok, Err, codes}
use Rattle.clight_source.specs.declared.span.Span.{Span}
use Rattle.clight_source.specs.declared.symbol.Literal.{Literal}
use Rattle.clight_source.specs.declared.symbol.Radix.{Radix}
use Rattle.clight_source.specs.declared.symbol.Radix.TheVariants.{Decimal, Octal, Hexadecimal}
use Rattle.clight_source.specs.declared.tree.Name.{Name}
use Rattle.clight_source.specs.declared.tree.BinaryOperator.{BinaryOperator}
use Rattle.clight_source.specs.declared.tree.PrefixOperator.{PrefixOperator}
use Rattle.clight_source.specs.declared.tree.MemberOperator.TheVariants as m
use Rattle.clight_source.specs.declared.tree.Specifiers.{Specifiers}
use Rattle.clight_source.specs.declared.tree.Length.{Length}
use Rattle.clight_source.specs.Trees.{Expr, Variable, Number, Parenthesis, Binary, Prefix, Cast, Index, Select, Stmt, Assign, ReadPort, WritePort, CallOf, If, Stmts, NoStmts, Then, Arguments, Declared, Declaration, Member, Parameters, NoParameters, Parameters', Header, Local, NoValue, Value, Function, Item, FunctionItem, Program}

abbrev pub at : ℕ → Span
at n = record { from = n; to = n + 1 }

abbrev pub name : ℕ → ℕ → Name
name number n = record { number = number; span = at n }

abbrev pub literal : ℕ → Radix → Bool → Literal
literal value radix unsigned = record { value = value; radix = radix; unsigned = unsigned }

-- ---- expressions

abbrev pub var : ℕ → ℕ → Expr
var number n = Variable (name number n)

abbrev pub num : ℕ → ℕ → Expr
num value n = Number (literal value Decimal false) (at n)

abbrev pub par : ℕ → Expr → Expr
par n e = Parenthesis (at n) e (at (n + 9))

abbrev pub bin : Expr → BinaryOperator → ℕ → Expr → Expr
bin l operator n r = Binary l operator (at n) r

abbrev pub pre : PrefixOperator → ℕ → Expr → Expr
pre operator n e = Prefix operator (at n) e

abbrev pub cast : ℕ → Specifiers → Expr → Expr
cast n words e = Cast (at n) words (at (n + 9)) e

abbrev pub idx : Expr → ℕ → Expr → Expr
idx base n index = Index base (at n) index (at (n + 9))

abbrev pub dot : Expr → ℕ → ℕ → Expr
dot e n member = Select e m.Dot (at n) (name member (n + 1))

abbrev pub arrow : Expr → ℕ → ℕ → Expr
arrow e n member = Select e m.Arrow (at n) (name member (n + 2))

-- ---- statements

abbrev pub set : Expr → ℕ → Expr → Stmt
set target n value = Assign (record { target = target; equals = at n; value = value }) (at 99)

abbrev pub call : ℕ → ℕ → Arguments → Stmt
call function n arguments =
    CallOf (record { target = None; function = name function n; left = at 90; arguments = arguments; right = at 91 }) (at 99)

abbrev pub call_into : ℕ → ℕ → ℕ → ℕ → Arguments → Stmt
call_into target n equals function arguments =
    CallOf (record {
      target = Some (record { name = name target n; equals = at equals });
      function = name function (equals + 1);
      left = at 90;
      arguments = arguments;
      right = at 91;
    }) (at 99)

abbrev pub stmts : List Stmt → Stmts → Stmts
stmts [] earlier = earlier
stmts (x ∷ rest) earlier = stmts rest (Then earlier x)

-- ---- declarations

abbrev pub declared : Specifiers → List Span → Name → Declared
declared words stars name = record { specifiers = words; stars = stars; name = name }

abbrev pub lengths : List ℕ → List Length
lengths [] = []
lengths (n ∷ rest) = record { left = at 90; number = literal n Decimal false; span = at 91; right = at 92 } ∷ lengths rest

abbrev pub declaration : Specifiers → List Span → Name → List ℕ → Declaration
declaration words stars name ns = record { declared = declared words stars name; lengths = lengths ns }

abbrev pub header : Specifiers → List Span → Name → Parameters → Header
header words stars name parameters =
    record { declared = declared words stars name; left = at 90; parameters = parameters; right = at 91 }

abbrev pub no_parameters : Parameters
no_parameters = NoParameters (at 90)

abbrev pub local : Declaration → Local
local x = record { declaration = x; initialiser = NoValue; semicolon = at 99 }

abbrev pub local_set : Declaration → ℕ → Expr → Local
local_set x equals e = record { declaration = x; initialiser = Value (at equals) e; semicolon = at 99 }

abbrev pub function : Header → List Local → List Stmt → Item
function header locals body =
    FunctionItem (record { header = header; left = at 92; locals = locals; body = stmts body NoStmts; right = at 99 })
