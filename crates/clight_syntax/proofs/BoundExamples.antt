-- The register need and the code bound of programs written by hand: a port writer, the functions of the generator's texts, and one with
-- arrays, structs and pointers. Places and names don't matter here: all spans are empty.
use Rattle.std.proofs.Common.{◌≡◌, ℕ, true, false, List, [], ◌∷◌, ◌++◌, Some, None, Option, refl}
use Rattle.std.specs.Prelude.{replicate, ◌+◌, ◌*◌, zero, suc}
use Rattle.clight_source.specs.declared.span.Span.{Span}
use Rattle.clight_source.specs.declared.symbol.Radix.TheVariants.{Decimal}
use Rattle.clight_source.specs.declared.tree.Name.{Name}
use Rattle.clight_source.specs.declared.tree.BinaryOperator.{BinaryOperator}
use Rattle.clight_source.specs.declared.tree.BinaryOperator.TheVariants as o
use Rattle.clight_source.specs.declared.tree.PrefixOperator.TheVariants as p
use Rattle.clight_source.specs.declared.tree.MemberOperator.TheVariants.{Dot, Arrow}
use Rattle.clight_source.specs.declared.tree.Specifiers.TheVariants as w
use Rattle.clight_source.specs.Trees.{Initialiser, NoInitialiser, Single, NoParameters, Header, Declaration}
use Rattle.c_types.specs.Types.{CType, Integer, Pointer, Array, Struct, Void, StructType}
use Rattle.c_types.specs.declared.integers.Size.TheVariants.{One, Two}
use Rattle.clight_syntax.specs.declared.typed.Home.{Home}
use Rattle.clight_syntax.specs.declared.typed.Home.TheVariants as h
use Rattle.clight_syntax.specs.TypedTrees.{Expr, Variable, Number, Parenthesis, Binary, Prefix, Cast, Index, Select, Cond, Truth, Both, Test, NoArguments, Arguments', Call, Assign, ReadPort, WritePort, CallOf, If, While, Return, Stmt, Stmts, NoStmts, Then, Block, NoValue, Local, Function, Item, GlobalItem, FunctionItem, Variable', TypedProgram}
use Rattle.clight_syntax.specs.Bounds.{register_need, code_bound, value_bound, exponent_from}

abbrev nowhere : Span
nowhere = record { from = 0; to = 0 }

abbrev nameless : Name
nameless = record { number = 0; span = nowhere }

abbrev byte : CType
byte = Integer One false

abbrev word : CType
word = Integer Two false

abbrev variable : CType → ℕ → Expr
variable type number = Variable type number nameless

abbrev number : CType → ℕ → Expr
number type value = Number type (record { value = value; radix = Decimal; unsigned = true }) nowhere

abbrev binary : CType → Expr → BinaryOperator → Expr → Expr
binary type l operator r = Binary type l operator nowhere r

abbrev truth : Expr → Test ℕ
truth e = record { keyword = nowhere; left = nowhere; condition = Truth e; right = nowhere }

abbrev assign : Expr → Expr → Stmt ℕ
assign target value = Assign (record { target = target; equals = nowhere; value = value }) nowhere

abbrev write : Expr → Stmt ℕ
write value = WritePort nowhere nowhere value nowhere

abbrev sequence : List (Stmt ℕ) → Stmts ℕ
sequence [] = NoStmts
sequence (x ∷ earlier) = Then (sequence earlier) x

abbrev block : List (Stmt ℕ) → Stmt ℕ
block body = Block nowhere (sequence body) nowhere

abbrev header : Header
header = record { declared = record { specifiers = w.Void nowhere; stars = []; name = nameless }; left = nowhere; parameters = NoParameters nowhere; right = nowhere }

abbrev declaration : Declaration
declaration = record { declared = record { specifiers = w.Int nowhere; stars = []; name = nameless }; lengths = [] }

abbrev local : Local
local = record { declaration = declaration; initialiser = NoValue; semicolon = nowhere }

-- the statements of a body are given with the last one first
abbrev function : (result : CType) (first parameters locals : ℕ) (body : List (Stmt ℕ)) → Function ℕ
function result first parameters locals body = record {
  header = header;
  result = result;
  first_variable = first;
  parameters = parameters;
  left = nowhere;
  label = 0;
  locals = replicate locals local;
  body = sequence body;
  right = nowhere;
}

abbrev held : CType → Variable'
held type = record { name = nameless; type = type; home = h.Scalar 0; address = 0 }

abbrev in_block : CType → Variable'
in_block type = record { name = nameless; type = type; home = h.Block 0; address = 0 }

abbrev global : CType → Variable'
global type = record { name = nameless; type = type; home = h.Global 0; address = 0 }

abbrev program : List Item → List StructType → List Variable' → List (Function ℕ) → TypedProgram ℕ
program items structs variables functions = record {
  names = [];
  items = items;
  span = nowhere;
  structs = structs;
  variables = variables;
  functions = functions;
  main = 0;
  frames = [];
  data_bytes = 0;
  calls = [];
}

-- ---- `void main(void){P1=5;}`, and with 4,000 such writes

abbrev writes : ℕ → TypedProgram ℕ
writes n = program [] [] [] (function Void 0 0 0 (replicate n (write (number byte 5))) ∷ [])

one_write : code_bound (writes 1) ≡ 61
one_write = refl

many_writes : code_bound (writes 4000) ≡ 68044
many_writes = refl

-- ---- the generator's texts

-- `unsigned int f(unsigned int a){unsigned int b;unsigned char i;b=a;i=0;while(i<17){b=b+24200u^33046u;if(b&1)b=b^46195u;i=i+1;}return b;}`
abbrev mixing : Function ℕ
mixing = function word 0 1 2 (
    Return nowhere (Some b) nowhere
    ∷ While (truth (binary word i o.Less (number word 17))) 0 (block (
    assign i (binary word i o.Add (number word 1))
    ∷ If (truth (binary word b o.BitAnd (number word 1))) 0 (assign b (binary word b o.BitXor (number word 46195))) 0
    ∷ assign b (binary word (binary word b o.Add (number word 24200)) o.BitXor (number word 33046))
    ∷ [])) 0
    ∷ assign i (number word 0)
    ∷ assign b (variable word 0)
    ∷ [])
  where
    b : Expr
    b = variable word 1

    i : Expr
    i = variable byte 2

abbrev x : Expr
x = variable word 3

abbrev call : Stmt ℕ
call = CallOf (record { target = Some (record { variable = 3; target = record { name = nameless; equals = nowhere } }); function = 0; name = nameless; left = nowhere; arguments = Arguments' [] x; right = nowhere }) nowhere 0

abbrev calls : ℕ → List (Stmt ℕ)
calls zero = []
calls (suc n) = write x ∷ call ∷ calls n

-- `void main(void){unsigned int x;x=3312u;x=f(x);P1=x; ..}`, with so many calls
abbrev using : ℕ → Function ℕ
using n = function Void 3 0 1 (calls n ++ assign x (number word 3312) ∷ [])

-- so many functions, each called once
abbrev generated : ℕ → TypedProgram ℕ
generated n = program [] [] (held word ∷ held word ∷ held byte ∷ held word ∷ []) (replicate n mixing ++ using n ∷ [])

one_function : code_bound (generated 1) ≡ 964
one_function = refl

all_functions : code_bound (generated 64) ≡ 53317
all_functions = refl

need_of_mixing : register_need (generated 1) mixing ≡ 15
need_of_mixing = refl

need_of_using : register_need (generated 1) (using 1) ≡ 8
need_of_using = refl

-- ---- `struct s{unsigned char c;unsigned int v[4];};struct s t={1};unsigned char g;`
-- `void main(void){unsigned int a;unsigned int*p;p=&a;*p=t.v[g];if(a<<3&&*p)P1=(unsigned char)a;}`

abbrev record_type : StructType
record_type = record { tag = 0; members = record { name = 0; type = byte; offset = 0 } ∷ record { name = 1; type = Array word 4; offset = 1 } ∷ []; size = 9 }

abbrev t : Expr
t = variable (Struct 0) 0

abbrev g : Expr
g = variable byte 1

abbrev a : Expr
a = variable word 2

abbrev q : Expr
q = variable (Pointer word) 3

abbrev taking : Function ℕ
taking = function Void 2 0 2 (
    If (record { keyword = nowhere; left = nowhere; condition = Both (Truth (binary word a o.ShiftLeft (number word 3))) nowhere 0 0 (Truth (Prefix word p.Dereference nowhere q)); right = nowhere }) 0 (write (Cast byte nowhere (w.UnsignedChar nowhere nowhere) nowhere a)) 0
    ∷ assign (Prefix word p.Dereference nowhere q) (Index word (Select (Array word 4) t Dot nowhere nameless 1) nowhere g nowhere)
    ∷ assign q (Prefix (Pointer word) p.AddressOf nowhere a)
    ∷ [])

abbrev pointing : TypedProgram ℕ
pointing = program (GlobalItem (record { declaration = declaration; initialiser = Single nowhere (record { minus = None; number = record { value = 1; radix = Decimal; unsigned = false }; span = nowhere }); semicolon = nowhere }) 0 ∷ []) (record_type ∷ []) (global (Struct 0) ∷ global byte ∷ in_block word ∷ held (Pointer word) ∷ []) (taking ∷ [])

-- the member's address, the index with its shift by one, and the reading
element : value_bound pointing (Index word (Select (Array word 4) t Dot nowhere nameless 1) nowhere g nowhere) ≡ (24 + 9) + (9 + 32) + (80 + 14) + 32
element = refl

need_of_taking : register_need pointing taking ≡ 4 + 2 * (3 + 2)
need_of_taking = refl

bound_of_pointing : code_bound pointing ≡ 8 + 6 * 9 + (32 + 4 + 24 * 4 + 24) + (32 + 9) + (32 + 16 + 200) + (8 + 8 + (8 + 8 + (24 + (9 + 32 + 9 + 16 + 14 * 3)) + (24 + (16 + 32))) + (8 + 16 + 9 + 32))
bound_of_pointing = refl

exponent_of_eight : exponent_from 16 0 8 ≡ 3
exponent_of_eight = refl

no_exponent : exponent_from 16 0 6 ≡ 0
no_exponent = refl
