-- Typed trees written by hand, for examples: forms whose places in a source don't matter.
use Rattle.std.proofs.Common.{ℕ, true, false, List, [], ◌∷◌, Option, Some, None}
use Rattle.cerco_base.specs.declared.events.Label.{Label}
use Rattle.cerco_base.specs.declared.events.Event.{Event}
use Rattle.cerco_base.specs.declared.events.Event.TheVariants as event
use Rattle.cerco_base.specs.declared.events.Port.TheVariants.{P1}
use Rattle.clight_source.specs.declared.span.Span.{Span}
use Rattle.clight_source.specs.declared.tree.Name.{Name}
use Rattle.clight_source.specs.declared.tree.BinaryOperator.{BinaryOperator}
use Rattle.clight_source.specs.declared.tree.PrefixOperator.TheVariants as prefix
use Rattle.clight_source.specs.declared.tree.MemberOperator.TheVariants.{Dot, Arrow}
use Rattle.clight_source.specs.declared.tree.SignedNumber.{SignedNumber}
use Rattle.clight_source.specs.declared.tree.Specifiers.TheVariants as words
use Rattle.clight_source.specs.declared.symbol.Radix.TheVariants.{Decimal}
use Rattle.clight_syntax.specs.declared.typed.Home.{Home}
use Rattle.clight_syntax.specs.declared.typed.ResultTarget.{ResultTarget}
use Rattle.c_types.specs.Conversions.{unsigned_char, unsigned_int}
use Rattle.clight_source.specs.Trees as tree
use Rattle.c_types.specs.declared.integers.Size.TheVariants.{One}
use Rattle.c_types.specs.Types.{CType, Void, Integer, Pointer, StructType}
use Rattle.clight_syntax.specs.TypedTrees as t

abbrev pub nowhere : Span
nowhere = record { from = 0; to = 0 }

abbrev pub name : Name
name = record { number = 0; span = nowhere }

abbrev pub label : ℕ → Label
label n = record { 0 = n }

-- events, as runs are printed
abbrev pub L : ℕ → Event
L n = event.Label (label n)

abbrev pub R : ℕ → Event
R byte = event.Read P1 byte

abbrev pub P : ℕ → Event
P byte = event.Write P1 byte

abbrev pub char' : CType
char' = unsigned_char

abbrev pub signed_char : CType
signed_char = Integer One true

abbrev pub unsigned : CType
unsigned = unsigned_int

abbrev pub var : CType → ℕ → t.Expr
var T n = t.Variable T n name

abbrev pub number : CType → ℕ → t.Expr
number T n = t.Number T (record { value = n; radix = Decimal; unsigned = false }) nowhere

abbrev pub binary : CType → t.Expr → BinaryOperator → t.Expr → t.Expr
binary T l o r = t.Binary T l o nowhere r

abbrev pub minus : CType → t.Expr → t.Expr
minus T e = t.Prefix T prefix.Negate nowhere e

abbrev pub contents : CType → t.Expr → t.Expr
contents T e = t.Prefix T prefix.Dereference nowhere e

abbrev pub address : CType → t.Expr → t.Expr
address T e = t.Prefix (Pointer T) prefix.AddressOf nowhere e

abbrev pub cast : CType → t.Expr → t.Expr
cast T e = t.Cast T nowhere (words.Int nowhere) nowhere e

abbrev pub at : CType → t.Expr → t.Expr → t.Expr
at T base index = t.Index T base nowhere index nowhere

abbrev pub member : CType → t.Expr → ℕ → t.Expr
member T e offset = t.Select T e Dot nowhere name offset

abbrev pub arrow : CType → t.Expr → ℕ → t.Expr
arrow T e offset = t.Select T e Arrow nowhere name offset

abbrev pub truth : t.Expr → t.Cond Label
truth e = t.Truth e

abbrev pub both : t.Cond Label → ℕ → ℕ → t.Cond Label → t.Cond Label
both a m n b = t.Both a nowhere (label m) (label n) b

abbrev pub either : t.Cond Label → ℕ → ℕ → t.Cond Label → t.Cond Label
either a m n b = t.Either a nowhere (label m) (label n) b

abbrev pub nothing : t.Stmt Label
nothing = t.Empty nowhere

abbrev pub assignment : t.Expr → t.Expr → t.Assignment
assignment x e = record { target = x; equals = nowhere; value = e }

abbrev pub set : t.Expr → t.Expr → t.Stmt Label
set x e = t.Assign (assignment x e) nowhere

abbrev pub read : t.Expr → t.Stmt Label
read x = t.ReadPort x nowhere nowhere nowhere

abbrev pub write : t.Expr → t.Stmt Label
write e = t.WritePort nowhere nowhere e nowhere

abbrev pub tested : t.Cond Label → t.Test Label
tested c = record { keyword = nowhere; left = nowhere; condition = c; right = nowhere }

abbrev pub when : t.Cond Label → ℕ → t.Stmt Label → ℕ → t.Stmt Label
when c m s n = t.If (tested c) (label m) s (label n)

abbrev pub when_else : t.Cond Label → ℕ → t.Stmt Label → ℕ → t.Stmt Label → t.Stmt Label
when_else c m s n other = t.IfElse (tested c) (label m) s nowhere (label n) other

abbrev pub while : t.Cond Label → ℕ → t.Stmt Label → ℕ → t.Stmt Label
while c m s n = t.While (tested c) (label m) s (label n)

abbrev pub do_while : t.Stmt Label → t.Cond Label → ℕ → ℕ → t.Stmt Label
do_while s c m n = t.Do nowhere s (tested c) (label m) nowhere (label n)

abbrev pub for : Option t.Assignment → Option (t.Cond Label) → Option t.Assignment → ℕ → t.Stmt Label → ℕ → t.Stmt Label
for first c step m s n =
    t.For (record { keyword = nowhere; left = nowhere; first = first; first_semicolon = nowhere; condition = c; second_semicolon = nowhere; step = step; right = nowhere })
    (label m) s (label n)

abbrev pub break : t.Stmt Label
break = t.Break nowhere nowhere

abbrev pub continue : t.Stmt Label
continue = t.Continue nowhere nowhere

abbrev pub return : Option t.Expr → t.Stmt Label
return e = t.Return nowhere e nowhere

abbrev pub then_all : t.Stmts Label → List (t.Stmt Label) → t.Stmts Label
then_all ss [] = ss
then_all ss (s ∷ more) = then_all (t.Then ss s) more

abbrev pub block : List (t.Stmt Label) → t.Stmt Label
block ss = t.Block nowhere (then_all t.NoStmts ss) nowhere

abbrev pub target : ℕ → Option ResultTarget
target n = Some (record { variable = n; target = record { name = name; equals = nowhere } })

abbrev pub arguments : List t.EarlierArgument → List t.Expr → t.Arguments
arguments earlier [] = t.NoArguments
arguments earlier (e ∷ []) = t.Arguments' earlier e
arguments earlier (e ∷ f ∷ es) = t.Arguments' (record { value = e; comma = nowhere } ∷ []) f

-- a call with at most two arguments
abbrev pub call : Option ResultTarget → ℕ → List t.Expr → ℕ → t.Stmt Label
call x f es back = t.CallOf (record { target = x; function = f; name = name; left = nowhere; arguments = arguments [] es; right = nowhere }) nowhere (label back)

abbrev pub declaration : tree.Declaration
declaration = record { declared = record { specifiers = words.Int nowhere; stars = []; name = name }; lengths = [] }

abbrev pub local : Option t.Expr → t.Local
local None = record { declaration = declaration; initialiser = t.NoValue; semicolon = nowhere }
local (Some e) = record { declaration = declaration; initialiser = t.Value nowhere e; semicolon = nowhere }

abbrev pub function : CType → ℕ → ℕ → ℕ → List t.Local → List (t.Stmt Label) → t.Function Label
function result first parameters start locals ss = record {
  header = record { declared = declaration.declared; left = nowhere; parameters = tree.NoParameters nowhere; right = nowhere };
  result = result;
  first_variable = first;
  parameters = parameters;
  left = nowhere;
  label = label start;
  locals = locals;
  body = then_all t.NoStmts ss;
  right = nowhere;
}

abbrev pub variable : CType → Home → t.Variable'
variable T home = record { name = name; type = T; home = home; address = 0 }

abbrev pub plain : ℕ → SignedNumber
plain n = record { minus = None; number = record { value = n; radix = Decimal; unsigned = false }; span = nowhere }

abbrev pub global : tree.Initialiser → ℕ → t.Item
global first n = t.GlobalItem (record { declaration = declaration; initialiser = first; semicolon = nowhere }) n

-- the last function is main
abbrev pub program : List StructType → List t.Item → List t.Variable' → List (t.Function Label) → ℕ → t.TypedProgram Label
program structs items variables functions main = record {
  names = [];
  items = items;
  span = nowhere;
  structs = structs;
  variables = variables;
  functions = functions;
  main = main;
  frames = [];
  data_bytes = 0;
  calls = [];
}

-- a program that is `main` alone, with these locals
abbrev pub main_alone : List t.Variable' → List (Option t.Expr) → List (t.Stmt Label) → t.TypedProgram Label
main_alone variables firsts ss = program [] [] variables (function Void 0 0 0 (locals_of firsts) ss ∷ []) 0
  where
    locals_of : List (Option t.Expr) → List t.Local
    locals_of [] = []
    locals_of (e ∷ es) = local e ∷ locals_of es
