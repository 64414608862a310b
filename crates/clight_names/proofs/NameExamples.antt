-- The first wrong names of small programs, computed. A place is given by its first byte.
use Rattle.std.proofs.Common.{◌≡◌, ℕ, ◌+◌, Bool, false, List, [], ◌∷◌, map, refl}
use Rattle.std.specs.Prelude.{Option, Some, None, codes, replicate}
use Rattle.cerco_base.specs.declared.reasons.NameKind.{NameKind}
use Rattle.cerco_base.specs.declared.reasons.NameKind.TheVariants as n
use Rattle.clight_source.specs.declared.span.Span.{Span}
use Rattle.clight_source.specs.declared.symbol.Literal.{Literal}
use Rattle.clight_source.specs.declared.symbol.Radix.{Radix}
use Rattle.clight_source.specs.declared.symbol.Radix.TheVariants.{Decimal}
use Rattle.clight_source.specs.declared.tree.Name.{Name}
use Rattle.clight_source.specs.declared.tree.MemberOperator.TheVariants as m
use Rattle.clight_source.specs.declared.tree.Specifiers.{Specifiers}
use Rattle.clight_source.specs.declared.tree.Specifiers.TheVariants as t
use Rattle.clight_source.specs.declared.tree.Length.{Length}
use Rattle.clight_source.specs.Trees.{Expr, Variable, Number, Cast, Select, Stmt, Assign, CallOf, Stmts, NoStmts, Then, Arguments, NoArguments, Arguments', Declared, Declaration, Parameters, NoParameters, Parameters', Header, Local, NoValue, Value, NoInitialiser, Item, StructItem, GlobalItem, PrototypeItem, FunctionItem, Program}
use Rattle.clight_names.specs.NameFaults.{first_name_fault, NameFault}

-- ---- pieces of programs

abbrev at : ℕ → Span
at n = record { from = n; to = n + 1 }

abbrev name : ℕ → ℕ → Name
name number n = record { number = number; span = at n }

abbrev literal : ℕ → Radix → Bool → Literal
literal value radix unsigned = record { value = value; radix = radix; unsigned = unsigned }

abbrev var : ℕ → ℕ → Expr
var number n = Variable (name number n)

abbrev num : ℕ → ℕ → Expr
num value n = Number (literal value Decimal false) (at n)

abbrev dot : Expr → ℕ → ℕ → Expr
dot e n member = Select e m.Dot (at n) (name member (n + 1))

abbrev set : Expr → ℕ → Expr → Stmt
set target n value = Assign (record { target = target; equals = at n; value = value }) (at 99)

abbrev call : ℕ → ℕ → Arguments → Stmt
call function n arguments =
    CallOf (record { target = None; function = name function n; left = at 90; arguments = arguments; right = at 91 }) (at 99)

abbrev stmts : List Stmt → Stmts → Stmts
stmts [] earlier = earlier
stmts (x ∷ rest) earlier = stmts rest (Then earlier x)

abbrev declared : Specifiers → List Span → Name → Declared
declared words stars name = record { specifiers = words; stars = stars; name = name }

abbrev lengths : List ℕ → List Length
lengths [] = []
lengths (n ∷ rest) = record { left = at 90; number = literal n Decimal false; span = at 91; right = at 92 } ∷ lengths rest

abbrev declaration : Specifiers → List Span → Name → List ℕ → Declaration
declaration words stars name ns = record { declared = declared words stars name; lengths = lengths ns }

abbrev header : Specifiers → List Span → Name → Parameters → Header
header words stars name parameters =
    record { declared = declared words stars name; left = at 90; parameters = parameters; right = at 91 }

abbrev no_parameters : Parameters
no_parameters = NoParameters (at 90)

abbrev local : Declaration → Local
local x = record { declaration = x; initialiser = NoValue; semicolon = at 99 }

abbrev local_set : Declaration → ℕ → Expr → Local
local_set x equals e = record { declaration = x; initialiser = Value (at equals) e; semicolon = at 99 }

abbrev function : Header → List Local → List Stmt → Item
function header locals body =
    FunctionItem (record { header = header; left = at 92; locals = locals; body = stmts body NoStmts; right = at 99 })

-- main, x, y, f, s, __x, a name of 64 bytes, g, one of 63, p, a
abbrev spellings : List (List ℕ)
spellings =
    codes "main" ∷ codes "x" ∷ codes "y" ∷ codes "f" ∷ codes "s" ∷ codes "__x" ∷ replicate 64 97 ∷ codes "g" ∷ replicate 63 97 ∷ codes "p" ∷ codes "a" ∷ []

abbrev program : List Item → Program
program items = record { names = spellings; items = items; span = record { from = 0; to = 500 } }

abbrev uc : Specifiers
uc = t.Char (at 80)

abbrev nothing : Specifiers
nothing = t.Void (at 81)

abbrev struct_s : Specifiers
struct_s = t.Struct (at 82) (name 4 83)

abbrev a_star : List Span
a_star = at 40 ∷ []

abbrev main : List Local → List Stmt → Item
main locals body = function (header nothing [] (name 0 5) no_parameters) locals body

abbrev empty_main : Item
empty_main = main [] []

abbrev global : Declaration → Item
global x = GlobalItem (record { declaration = x; initialiser = NoInitialiser; semicolon = at 99 })

abbrev prototype : Header → Item
prototype x = PrototypeItem (record { header = x; semicolon = at 99 })

abbrev structure : ℕ → List Declaration → Item
structure tag members =
    StructItem (record { keyword = at 1; tag = name tag 2; left = at 90; members = map (λ x. record { declaration = x; semicolon = at 99 }) members; right = at 91; semicolon = at 99 })

abbrev one : Specifiers → List Span → Parameters
one words stars = Parameters' [] (declared words stars (name 1 7))

abbrev argument : Expr → Arguments
argument e = Arguments' [] e

-- ---- names

abbrev name_answer : Option NameFault → Option (ℕ × NameKind)
name_answer None = None
name_answer (Some x) = Some (x.at, x.kind)

abbrev wrong_name : List Item → Option (ℕ × NameKind)
wrong_name items = name_answer (first_name_fault (program items))

abbrev x_char : ℕ → Declaration
x_char at = declaration uc [] (name 1 at) []

abbrev f_header : ℕ → Header
f_header at = header nothing [] (name 3 at) no_parameters

right_names :
    map wrong_name (
    (empty_main ∷ [])
    ∷ (prototype (f_header 1) ∷ function (f_header 3) [] [] ∷ empty_main ∷ [])
    ∷ (global (x_char 1) ∷ main (local (x_char 2) ∷ []) (set (var 1 3) 4 (num 1 5) ∷ []) ∷ [])
    ∷ (structure 4 (declaration struct_s a_star (name 9 10) (2 ∷ []) ∷ declaration uc [] (name 4 11) [] ∷ []) ∷ empty_main ∷ [])
    ∷ (main (local_set (x_char 2) 3 (var 1 4) ∷ []) [] ∷ [])
    ∷ (function (header nothing [] (name 3 1) (one uc [])) (local (declaration uc [] (name 0 2) []) ∷ []) (call 3 3 (argument (var 1 4)) ∷ []) ∷ empty_main ∷ [])
    ∷ (main (local (declaration uc [] (name 8 2) []) ∷ []) (set (dot (var 8 3) 4 7) 5 (num 1 6) ∷ []) ∷ [])
    ∷ (prototype (header nothing [] (name 3 1) (one uc [])) ∷ function (header nothing [] (name 3 3) (one uc [])) [] [] ∷ empty_main ∷ [])
    ∷ [])
    ≡ None ∷ None ∷ None ∷ None ∷ None ∷ None ∷ None ∷ None ∷ []
right_names = refl

wrong_names :
    map wrong_name (
    (main (local (declaration uc [] (name 5 20) []) ∷ []) [] ∷ [])
    ∷ (main [] (set (dot (var 1 3) 4 5) 6 (num 1 7) ∷ []) ∷ [])
    ∷ (main (local (x_char 2) ∷ []) (set (dot (var 1 3) 4 5) 6 (num 1 7) ∷ []) ∷ [])
    ∷ (main (local (declaration uc [] (name 6 20) []) ∷ []) [] ∷ [])
    ∷ (global (x_char 1) ∷ global (x_char 2) ∷ empty_main ∷ [])
    ∷ (function (header nothing [] (name 3 1) (one uc [])) (local (x_char 9) ∷ []) [] ∷ empty_main ∷ [])
    ∷ (global (declaration uc [] (name 3 1) []) ∷ function (f_header 2) [] [] ∷ empty_main ∷ [])
    ∷ (prototype (f_header 1) ∷ prototype (f_header 2) ∷ function (f_header 3) [] [] ∷ empty_main ∷ [])
    ∷ (function (f_header 1) [] [] ∷ prototype (f_header 2) ∷ empty_main ∷ [])
    ∷ (function (f_header 1) [] [] ∷ function (f_header 2) [] [] ∷ empty_main ∷ [])
    ∷ (structure 4 (x_char 1 ∷ x_char 2 ∷ []) ∷ empty_main ∷ [])
    ∷ (structure 4 (x_char 1 ∷ []) ∷ structure 4 (x_char 2 ∷ []) ∷ empty_main ∷ [])
    ∷ [])
    ≡ Some (20, n.Reserved) ∷ Some (3, n.Unknown) ∷ Some (5, n.Reserved) ∷ Some (20, n.Long)
    ∷ Some (2, n.Twice) ∷ Some (9, n.Twice) ∷ Some (2, n.Twice) ∷ Some (2, n.Twice) ∷ Some (2, n.Twice) ∷ Some (2, n.Twice) ∷ Some (2, n.Twice) ∷ Some (2, n.Twice) ∷ []
wrong_names = refl

more_wrong_names :
    map wrong_name (
    (function (f_header 1) [] (call 7 2 NoArguments ∷ []) ∷ function (header nothing [] (name 7 3) no_parameters) [] [] ∷ empty_main ∷ [])
    ∷ (main (local_set (x_char 2) 3 (var 2 4) ∷ local (declaration uc [] (name 2 6) []) ∷ []) [] ∷ [])
    ∷ (structure 4 (declaration struct_s [] (name 9 10) [] ∷ []) ∷ empty_main ∷ [])
    ∷ (global (declaration struct_s a_star (name 9 10) []) ∷ empty_main ∷ [])
    ∷ (prototype (f_header 1) ∷ empty_main ∷ [])
    ∷ (prototype (f_header 1) ∷ [])
    ∷ []
    ∷ (function (f_header 1) [] [] ∷ [])
    ∷ (function (header uc [] (name 0 5) no_parameters) [] [] ∷ [])
    ∷ (function (header nothing [] (name 0 5) (one uc [])) [] [] ∷ [])
    ∷ (function (header nothing a_star (name 0 5) no_parameters) [] [] ∷ [])
    ∷ (global (declaration uc [] (name 0 5) []) ∷ [])
    ∷ (prototype (header uc [] (name 0 5) no_parameters) ∷ [])
    ∷ (prototype (header uc [] (name 0 5) no_parameters) ∷ empty_main ∷ [])
    ∷ (empty_main ∷ global (declaration uc [] (name 0 6) []) ∷ [])
    ∷ [])
    ≡ Some (2, n.Unknown) ∷ Some (4, n.Unknown) ∷ Some (83, n.Unknown) ∷ Some (83, n.Unknown)
    ∷ Some (1, n.Undefined) ∷ Some (1, n.Undefined) ∷ Some (500, n.Main) ∷ Some (500, n.Main)
    ∷ Some (5, n.Main) ∷ Some (5, n.Main) ∷ Some (5, n.Main) ∷ Some (5, n.Main) ∷ Some (5, n.Undefined) ∷ Some (5, n.Main) ∷ Some (6, n.Twice) ∷ []
more_wrong_names = refl

-- Names of parameters have a scope for each declaration, and so have members for each struct. A tag may be called as a function.
scopes :
    map wrong_name (
    (prototype (header nothing [] (name 3 1) (Parameters' (record { parameter = declared uc [] (name 1 2); comma = at 90 } ∷ []) (declared uc [] (name 1 4)))) ∷ function (f_header 6) [] [] ∷ empty_main ∷ [])
    ∷ (structure 4 (x_char 1 ∷ []) ∷ structure 3 (x_char 2 ∷ []) ∷ function (f_header 6) [] [] ∷ empty_main ∷ [])
    ∷ (main [] (set (Cast (at 1) struct_s (at 2) (num 1 3)) 4 (num 1 5) ∷ []) ∷ [])
    ∷ (structure 4 (declaration uc [] (name 5 11) [] ∷ []) ∷ empty_main ∷ [])
    ∷ (structure 5 (x_char 1 ∷ []) ∷ empty_main ∷ [])
    ∷ (global (declaration uc [] (name 3 1) []) ∷ prototype (f_header 2) ∷ empty_main ∷ [])
    ∷ [])
    ≡ Some (4, n.Twice) ∷ None ∷ Some (83, n.Unknown) ∷ Some (11, n.Reserved) ∷ Some (2, n.Reserved) ∷ Some (2, n.Twice) ∷ []
scopes = refl
