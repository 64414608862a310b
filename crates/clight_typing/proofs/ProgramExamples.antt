-- The faults of types in small programs, computed.
use Rattle.std.proofs.Common.{◌≡◌, ℕ, zero, suc, ◌+◌, Bool, true, false, List, [], ◌∷◌, ◌++◌, map, refl}
use Rattle.std.specs.Prelude.{Option, Some, None, Result, Ok, Err, codes, replicate}
use Rattle.cerco_base.specs.declared.reasons.TypeKind.{TypeKind}
use Rattle.cerco_base.specs.declared.reasons.TypeKind.TheVariants as k
use Rattle.cerco_base.specs.declared.reasons.NameKind.{NameKind}
use Rattle.cerco_base.specs.declared.reasons.NameKind.TheVariants as n
use Rattle.clight_source.specs.declared.span.Span.{Span}
use Rattle.clight_source.specs.declared.symbol.Radix.TheVariants.{Decimal}
use Rattle.clight_source.specs.declared.tree.BinaryOperator.TheVariants as b
use Rattle.clight_source.specs.declared.tree.PrefixOperator.TheVariants as o
use Rattle.clight_source.specs.declared.tree.Specifiers.{Specifiers}
use Rattle.clight_source.specs.declared.tree.Specifiers.TheVariants as t
use Rattle.clight_source.specs.declared.tree.SignedNumber.{SignedNumber}
use Rattle.clight_source.specs.declared.tree.EarlierNumber.{EarlierNumber}
use Rattle.clight_syntax.specs.declared.typed.Home.{Home}
use Rattle.clight_syntax.specs.declared.typed.Home.TheVariants as h
use Rattle.clight_source.specs.Trees.{Expr, Stmt, Empty, Block, Assign, ReadPort, WritePort, If, While, Do, For, Break, Continue, Return, Arguments, NoArguments, Arguments', Test, Declared, Declaration, EarlierParameter, Parameters, Parameters', Header, Local, Initialiser, NoInitialiser, Single, Listed, Item, StructItem, GlobalItem, PrototypeItem, FunctionItem, Program}
use Rattle.c_types.specs.Types.{CType, Void, Integer, Pointer, Array, Struct}
use Rattle.clight_syntax.specs.TypedTrees.{TypedProgram, Variable'}
use Rattle.c_types.specs.Conversions.{int, unsigned_char}
use Rattle.clight_typing.specs.Sources.{program_source}
use Rattle.clight_types.specs.TypedExpressions.{Checked}
use Rattle.clight_typing.specs.TypedPrograms.{typed_program}
use Rattle.clight_typing.proofs.Samples.{at, name, literal, var, num, par, bin, pre, idx, dot, arrow, set, call, call_into, declared, declaration, header, no_parameters, local, local_set, function}

-- ---- programs

-- main, x, y, f, s, __x, a name of 64 bytes, g, one of 63, p, a
abbrev spellings : List (List ℕ)
spellings =
    codes "main" ∷ codes "x" ∷ codes "y" ∷ codes "f" ∷ codes "s" ∷ codes "__x" ∷ replicate 64 97 ∷ codes "g" ∷ replicate 63 97 ∷ codes "p" ∷ codes "a" ∷ []

abbrev program : List Item → Program
program items = record { names = spellings; items = items; span = record { from = 0; to = 500 } }

abbrev uc : Specifiers
uc = t.Char (at 80)

abbrev integer : Specifiers
integer = t.Int (at 80)

abbrev nothing : Specifiers
nothing = t.Void (at 81)

abbrev struct_s : Specifiers
struct_s = t.Struct (at 82) (name 4 83)

abbrev a_star : List Span
a_star = at 40 ∷ []

abbrev main : List Local → List Stmt → Item
main locals body = function (header nothing [] (name 0 5) no_parameters) locals body

abbrev empty_main : Item
empty_main = main [] []

abbrev global : Declaration → Item
global x = GlobalItem (record { declaration = x; initialiser = NoInitialiser; semicolon = at 99 })

abbrev global_set : Declaration → Initialiser → Item
global_set x y = GlobalItem (record { declaration = x; initialiser = y; semicolon = at 99 })

abbrev prototype : Header → Item
prototype x = PrototypeItem (record { header = x; semicolon = at 99 })

abbrev structure : ℕ → List Declaration → Item
structure tag members =
    StructItem (record { keyword = at 1; tag = name tag 2; left = at 90; members = map (λ x. record { declaration = x; semicolon = at 99 }) members; right = at 91; semicolon = at 99 })

-- so many parameters `int`, named from 11 on
abbrev earlier_integers : ℕ → List EarlierParameter
earlier_integers zero = []
earlier_integers (suc n) = record { parameter = declared integer [] (name (11 + n) (100 + n)); comma = at 90 } ∷ earlier_integers n

abbrev integers : ℕ → Parameters
integers n = Parameters' (earlier_integers n) (declared integer [] (name 1 7))

abbrev one : Specifiers → List Span → Parameters
one words stars = Parameters' [] (declared words stars (name 1 7))

abbrev snum : ℕ → ℕ → SignedNumber
snum value n = record { minus = None; number = literal value Decimal false; span = at n }

abbrev listed : ℕ → List EarlierNumber → SignedNumber → Initialiser
listed equals earlier last = Listed (at equals) (at 90) earlier last (at 91)

abbrev argument : Expr → Arguments
argument e = Arguments' [] e

abbrev test : Expr → Test
test e = record { keyword = at 30; left = at 90; condition = e; right = at 91 }

-- ---- types

abbrev type_answer : {A : Type 0} → Checked A → Option (ℕ × TypeKind)
type_answer (Ok x) = None
type_answer (Err x) = Some (x.at, x.kind)

abbrev wrong_type : List Item → Option (ℕ × TypeKind)
wrong_type items = type_answer (typed_program (program items))

-- x: unsigned char; y: int; p: unsigned char *; a: unsigned char [3], in `main`, behind a global s of a struct and a function f(int)
abbrev in_main : List Stmt → List Item
in_main body =
    structure 4 (declaration integer [] (name 1 11) [] ∷ declaration uc [] (name 2 12) [] ∷ [])
    ∷ global (declaration struct_s [] (name 4 13) [])
    ∷ global (declaration integer [] (name 7 14) [])
    ∷ function (header uc [] (name 3 15) (one integer [])) [] []
    ∷ main (
    local (declaration uc [] (name 1 16) []) ∷ local (declaration integer [] (name 2 17) [])
    ∷ local (declaration uc a_star (name 9 18) []) ∷ local (declaration uc [] (name 10 19) (3 ∷ [])) ∷ []) body
    ∷ []

abbrev wrong_in_main : List Stmt → Option (ℕ × TypeKind)
wrong_in_main body = wrong_type (in_main body)

abbrev x : Expr
x = var 1 50

abbrev y : Expr
y = var 2 51

abbrev p : Expr
p = var 9 52

abbrev a : Expr
a = var 10 53

abbrev s : Expr
s = var 4 54

abbrev f : Expr
f = var 3 55

abbrev g : Expr
g = var 7 56

abbrev read : Expr → ℕ → Stmt
read target equals = ReadPort target (at equals) (at 90) (at 99)

abbrev write : ℕ → Expr → Stmt
write equals e = WritePort (at 90) (at equals) e (at 99)

right_statements :
    map wrong_in_main (
    (set x 1 y ∷ set y 2 x ∷ set p 3 a ∷ set p 4 (num 0 5) ∷ set (par 6 x) 7 (num 300 8) ∷ set (idx a 9 x) 10 y ∷ set (dot s 11 1) 12 x ∷ set (pre o.Dereference 13 p) 14 x ∷ [])
    ∷ (read x 1 ∷ read (par 2 y) 3 ∷ write 4 y ∷ write 5 (num 1 6) ∷ [])
    ∷ (call 3 1 (argument x) ∷ call_into 1 2 3 3 (argument (num 1 4)) ∷ call_into 2 5 6 3 (argument y) ∷ [])
    ∷ (If (test (bin p b.LogicalAnd 1 x)) (Empty (at 2)) ∷ While (test x) (Break (at 3) (at 4)) ∷ Do (at 5) (If (test y) (Continue (at 6) (at 7))) (test (pre o.Not 8 p)) (at 9) ∷ Return (at 10) None (at 11) ∷ [])
    ∷ [])
    ≡ None ∷ None ∷ None ∷ None ∷ []
right_statements = refl

wrong_statements :
    map wrong_in_main (
    (set (num 1 2) 3 x ∷ []) ∷ (set x 3 p ∷ []) ∷ (set p 3 x ∷ []) ∷ (set p 3 (num 1 4) ∷ []) ∷ (set s 3 s ∷ []) ∷ (set s 3 x ∷ []) ∷ (set a 3 p ∷ []) ∷ (set f 3 x ∷ []) ∷ (set (bin x b.Add 2 x) 3 x ∷ []) ∷ (set (pre o.Not 2 x) 3 s ∷ [])
    ∷ (set f 3 (bin x b.Divide 4 y) ∷ []) ∷ (set x 3 f ∷ [])
    ∷ (read g 3 ∷ []) ∷ (read p 3 ∷ []) ∷ (read (idx a 1 x) 3 ∷ []) ∷ (read f 3 ∷ []) ∷ (read x 3 ∷ set p 4 (pre o.AddressOf 5 x) ∷ []) ∷ (read x 3 ∷ set p 4 (pre o.AddressOf 5 (par 6 x)) ∷ set p 7 x ∷ []) ∷ (write 3 p ∷ []) ∷ (write 3 (par 4 s) ∷ []) ∷ (write 3 (par 4 f) ∷ []) ∷ (write 3 a ∷ [])
    ∷ (call 3 3 NoArguments ∷ []) ∷ (call 3 3 (argument p) ∷ []) ∷ (call 3 3 (argument s) ∷ []) ∷ (call 1 3 (argument x) ∷ []) ∷ (call 4 3 (argument (bin x b.Divide 4 y)) ∷ [])
    ∷ (call_into 9 2 3 3 (argument x) ∷ []) ∷ (call_into 7 2 3 3 (argument x) ∷ []) ∷ (call_into 1 2 3 0 NoArguments ∷ []) ∷ (call_into 4 2 3 3 (argument x) ∷ []) ∷ (call_into 3 2 3 3 (argument x) ∷ []) ∷ (call_into 1 2 3 3 (argument (pre o.AddressOf 4 x)) ∷ []) ∷ (call_into 1 2 3 3 (argument y) ∷ set p 4 (pre o.AddressOf 5 x) ∷ [])
    ∷ (Return (at 3) (Some x) (at 4) ∷ []) ∷ (Return (at 3) (Some s) (at 4) ∷ []) ∷ (Break (at 3) (at 4) ∷ []) ∷ (If (test x) (Continue (at 3) (at 4)) ∷ []) ∷ (While (test s) (Break (at 3) (at 4)) ∷ []) ∷ (Do (at 1) (Break (at 3) (at 4)) (test f) (at 5) ∷ Break (at 6) (at 7) ∷ [])
    ∷ [])
    ≡ Some (3, k.Assign) ∷ Some (3, k.Assign) ∷ Some (3, k.Assign) ∷ Some (3, k.Assign) ∷ Some (54, k.Value) ∷ Some (3, k.Assign) ∷ Some (3, k.Assign) ∷ Some (3, k.Assign) ∷ Some (3, k.Assign) ∷ Some (2, k.Value)
    ∷ Some (4, k.Division) ∷ Some (55, k.Value)
    ∷ Some (3, k.Port) ∷ Some (3, k.Port) ∷ Some (3, k.Port) ∷ Some (3, k.Port) ∷ Some (3, k.Port) ∷ Some (3, k.Port) ∷ Some (3, k.Port) ∷ Some (4, k.Value) ∷ Some (55, k.Value) ∷ Some (3, k.Port)
    ∷ Some (3, k.Call) ∷ Some (3, k.Call) ∷ Some (54, k.Value) ∷ Some (3, k.Call) ∷ Some (4, k.Division)
    ∷ Some (3, k.Call) ∷ Some (3, k.Call) ∷ Some (3, k.Call) ∷ Some (3, k.Call) ∷ Some (3, k.Call) ∷ Some (3, k.Call) ∷ Some (3, k.Call)
    ∷ Some (3, k.Return) ∷ Some (54, k.Value) ∷ Some (3, k.Jump) ∷ Some (3, k.Jump) ∷ Some (54, k.Condition) ∷ Some (55, k.Condition) ∷ []
wrong_statements = refl

right_declarations :
    map wrong_type (
    (structure 4 (declaration struct_s a_star (name 1 11) (3 ∷ []) ∷ declaration uc [] (name 2 12) (65528 ∷ []) ∷ []) ∷ empty_main ∷ [])
    ∷ (global (declaration uc [] (name 1 11) (65534 ∷ [])) ∷ empty_main ∷ [])
    ∷ (global_set (declaration uc [] (name 1 11) []) (Single (at 12) (snum 300 13)) ∷ global_set (declaration integer [] (name 2 14) (2 ∷ [])) (listed 15 (record { number = snum 1 16; comma = at 90 } ∷ []) (snum 2 17)) ∷ empty_main ∷ [])
    ∷ (prototype (header uc a_star (name 3 11) (integers 5)) ∷ function (header (t.UnsignedChar (at 70) (at 71)) a_star (name 3 12) (integers 5)) [] (Return (at 1) (Some (num 0 2)) (at 3) ∷ []) ∷ empty_main ∷ [])
    ∷ (main (local_set (declaration uc [] (name 1 11) []) 12 (var 1 13) ∷ []) [] ∷ [])
    ∷ [])
    ≡ None ∷ None ∷ None ∷ None ∷ None ∷ []
right_declarations = refl

wrong_declarations :
    map wrong_type (
    (structure 4 (declaration uc [] (name 1 11) (65534 ∷ []) ∷ declaration uc [] (name 2 12) [] ∷ []) ∷ empty_main ∷ [])
    ∷ (structure 4 (declaration uc [] (name 1 11) (65535 ∷ []) ∷ declaration nothing [] (name 2 12) [] ∷ []) ∷ empty_main ∷ [])
    ∷ (global (declaration uc a_star (name 1 11) (32768 ∷ [])) ∷ empty_main ∷ [])
    ∷ (global (declaration uc [] (name 1 11) (4 ∷ 0 ∷ [])) ∷ empty_main ∷ [])
    ∷ (global (declaration nothing a_star (name 1 11) []) ∷ empty_main ∷ [])
    ∷ (global (declaration (t.UnsignedLong (at 11) (at 12)) [] (name 1 13) (0 ∷ [])) ∷ empty_main ∷ [])
    ∷ (global_set (declaration uc a_star (name 1 11) []) (Single (at 12) (snum 0 13)) ∷ empty_main ∷ [])
    ∷ (global_set (declaration uc [] (name 1 11) []) (Single (at 12) (snum 40000 13)) ∷ empty_main ∷ [])
    ∷ (global_set (declaration uc [] (name 1 11) (1 ∷ [])) (listed 12 (record { number = snum 1 16; comma = at 90 } ∷ []) (snum 2 17)) ∷ empty_main ∷ [])
    ∷ (global_set (declaration uc [] (name 1 11) (2 ∷ 2 ∷ [])) (listed 12 [] (snum 2 17)) ∷ empty_main ∷ [])
    ∷ (global_set (declaration uc [] (name 1 11) (1 ∷ [])) (listed 12 (record { number = snum 1 16; comma = at 90 } ∷ []) (snum 40000 17)) ∷ empty_main ∷ [])
    ∷ (main (local_set (declaration uc [] (name 1 11) (2 ∷ [])) 12 (num 0 13) ∷ []) [] ∷ [])
    ∷ (main (local_set (declaration uc [] (name 1 11) []) 12 (bin (num 1 13) b.Divide 14 (num 1 15)) ∷ []) [] ∷ [])
    ∷ (main (local_set (declaration uc a_star (name 1 11) []) 12 (num 1 13) ∷ []) [] ∷ [])
    ∷ [])
    ≡ Some (1, k.Size) ∷ Some (11, k.Size) ∷ Some (40, k.Size) ∷ Some (11, k.Size) ∷ Some (81, k.Void) ∷ Some (11, k.Long) ∷ Some (12, k.Init) ∷ Some (13, k.Long)
    ∷ Some (12, k.Init) ∷ Some (12, k.Init) ∷ Some (17, k.Long) ∷ Some (12, k.Init) ∷ Some (14, k.Division) ∷ Some (12, k.Init) ∷ []
wrong_declarations = refl

abbrev struct_x : Item
struct_x = structure 4 (declaration uc [] (name 1 11) [] ∷ [])

wrong_functions :
    map wrong_type (
    (struct_x ∷ function (header struct_s [] (name 3 12) no_parameters) [] [] ∷ empty_main ∷ [])
    ∷ (struct_x ∷ function (header nothing [] (name 3 12) (one struct_s [])) [] [] ∷ empty_main ∷ [])
    ∷ (function (header nothing a_star (name 3 12) no_parameters) [] [] ∷ empty_main ∷ [])
    ∷ (function (header nothing [] (name 3 12) (one nothing [])) [] [] ∷ empty_main ∷ [])
    ∷ (function (header (t.Long (at 11)) [] (name 3 12) (one nothing [])) [] [] ∷ empty_main ∷ [])
    ∷ (function (header nothing [] (name 3 12) (integers 6)) [] [] ∷ empty_main ∷ [])
    ∷ (function (header nothing [] (name 3 12) (integers 6)) [] (Break (at 1) (at 2) ∷ []) ∷ empty_main ∷ [])
    ∷ (prototype (header nothing [] (name 3 12) (integers 6)) ∷ function (header nothing [] (name 3 13) no_parameters) [] [] ∷ empty_main ∷ [])
    ∷ (prototype (header nothing [] (name 3 12) (one uc [])) ∷ function (header nothing [] (name 3 13) (one integer [])) [] [] ∷ empty_main ∷ [])
    ∷ (prototype (header nothing [] (name 3 12) (one uc [])) ∷ function (header nothing [] (name 3 13) (integers 6)) [] [] ∷ empty_main ∷ [])
    ∷ (prototype (header uc [] (name 3 12) no_parameters) ∷ function (header nothing [] (name 3 13) no_parameters) [] (Return (at 1) (Some (num 1 2)) (at 3) ∷ []) ∷ empty_main ∷ [])
    ∷ (prototype (header nothing [] (name 3 12) (one uc [])) ∷ function (header nothing [] (name 3 13) (one (t.SignedChar (at 1) (at 2)) [])) [] [] ∷ empty_main ∷ [])
    ∷ (function (header uc [] (name 3 12) no_parameters) [] (Return (at 1) None (at 2) ∷ []) ∷ empty_main ∷ [])
    ∷ (function (header uc a_star (name 3 12) no_parameters) [] (Return (at 1) (Some (num 1 2)) (at 2) ∷ []) ∷ empty_main ∷ [])
    ∷ [])
    ≡ Some (12, k.Value) ∷ Some (7, k.Value) ∷ Some (81, k.Void) ∷ Some (81, k.Void) ∷ Some (11, k.Long) ∷ Some (12, k.Params) ∷ Some (1, k.Jump) ∷ Some (12, k.Params)
    ∷ Some (13, k.Prototype) ∷ Some (13, k.Params) ∷ Some (1, k.Return) ∷ Some (13, k.Prototype) ∷ Some (1, k.Return) ∷ Some (1, k.Return) ∷ []
wrong_functions = refl

-- ---- the typed program

abbrev variable_types : Checked (TypedProgram (Unit {0})) → List (CType × Home)
variable_types (Ok x) = map (λ v. (v.type, v.home)) x.variables
variable_types (Err x) = []

-- x and p are scalars, of which x lives in a block, since its address is taken; a lives in a block
homes :
    variable_types (typed_program (program (in_main (set p 1 (pre o.AddressOf 2 x) ∷ []))))
    ≡ (Struct 0, h.Global 0) ∷ (int, h.Global 1) ∷ (int, h.Scalar 0)
    ∷ (unsigned_char, h.Block 0) ∷ (int, h.Scalar 1) ∷ (Pointer (unsigned_char), h.Scalar 2) ∷ (Array (unsigned_char) 3, h.Block 1) ∷ []
homes = refl

abbrev source_again : Checked (TypedProgram (Unit {0})) → Option Program
source_again (Ok x) = Some (program_source x)
source_again (Err x) = None

same_source :
    source_again (typed_program (program (in_main (set p 1 (pre o.AddressOf 2 x) ∷ call_into 2 2 3 3 (argument (par 3 x)) ∷ While (test (par 4 (pre o.Not 5 (par 6 x)))) (Break (at 7) (at 8)) ∷ []))))
    ≡ Some (program (in_main (set p 1 (pre o.AddressOf 2 x) ∷ call_into 2 2 3 3 (argument (par 3 x)) ∷ While (test (par 4 (pre o.Not 5 (par 6 x)))) (Break (at 7) (at 8)) ∷ [])))
same_source = refl
