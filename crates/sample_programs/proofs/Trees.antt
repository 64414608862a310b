-- The programs of the generator's texts: their pieces, and their typed trees over the places of their tokens and the labels.
use Rattle.std.proofs.Common.{ℕ, zero, suc, ◌+◌, ◌*◌, List, [], ◌∷◌, ◌++◌, map, get_or, false, true}
use Rattle.std.specs.Prelude.{codes, decimal, Some}
use Rattle.cerco_base.specs.CallOrder.{Called}
use Rattle.clight_source.specs.declared.span.Span.{Span}
use Rattle.clight_source.specs.declared.tree.Name.{Name}
use Rattle.clight_source.specs.declared.tree.BinaryOperator.TheVariants as o
use Rattle.clight_source.specs.declared.tree.Specifiers.{Specifiers}
use Rattle.clight_source.specs.declared.tree.Specifiers.TheVariants as w
use Rattle.clight_source.specs.Trees.{Header, NoParameters, Parameters', Declared}
use Rattle.clight_syntax.specs.declared.typed.Home.TheVariants as h
use Rattle.c_types.specs.Types.{CType, Void}
use Rattle.c_types.specs.Conversions.{unsigned_char, int, unsigned_int}
use Rattle.clight_syntax.specs.TypedTrees.{Expr, Variable, Number, Binary, Truth, Test, Arguments', Stmt, Block, Assign, WritePort, CallOf, If, While, Return, Stmts, NoStmts, Then, NoValue, Local, Function, FunctionItem, Variable', TypedProgram}
use Rattle.clight_tokens.specs.Tokens.{Token}
use Rattle.sample_texts.specs.declared.draws.Numbers.{Numbers}
use Rattle.sample_texts.specs.Texts.{each_below}
use Rattle.sample_programs.proofs.Decimals.{literal}
use Rattle.sample_programs.proofs.Families.{each}
use Rattle.sample_programs.proofs.Pieces.{Piece, Blank, Mark, Fixed, Own, Count, Unsigned}

-- ---- pieces

abbrev pub unsigned_pieces : List ℕ → Piece → List Piece → List Piece
unsigned_pieces word name rest = Fixed (codes "unsigned") ∷ Blank 32 ∷ Fixed word ∷ Blank 32 ∷ name ∷ rest

abbrev pub function_pieces : Numbers → ℕ → List Piece
function_pieces x function =
    unsigned_pieces (codes "int") (Own function) (Mark 40 ∷
    unsigned_pieces (codes "int") (Fixed (codes "a")) (Mark 41 ∷ Mark 123 ∷
    unsigned_pieces (codes "int") (Fixed (codes "b")) (Mark 59 ∷
    unsigned_pieces (codes "char") (Fixed (codes "i")) (Mark 59 ∷
    Fixed (codes "b") ∷ Mark 61 ∷ Fixed (codes "a") ∷ Mark 59 ∷
    Fixed (codes "i") ∷ Mark 61 ∷ Fixed (codes "0") ∷ Mark 59 ∷
    Fixed (codes "while") ∷ Mark 40 ∷ Fixed (codes "i") ∷ Mark 60 ∷ Count x.turns ∷ Mark 41 ∷ Mark 123 ∷
    Fixed (codes "b") ∷ Mark 61 ∷ Fixed (codes "b") ∷ Mark 43 ∷ Unsigned x.added ∷ Mark 94 ∷ Unsigned x.mixed ∷ Mark 59 ∷
    Fixed (codes "if") ∷ Mark 40 ∷ Fixed (codes "b") ∷ Mark 38 ∷ Fixed (codes "1") ∷ Mark 41 ∷
    Fixed (codes "b") ∷ Mark 61 ∷ Fixed (codes "b") ∷ Mark 94 ∷ Unsigned x.mixed_odd ∷ Mark 59 ∷
    Fixed (codes "i") ∷ Mark 61 ∷ Fixed (codes "i") ∷ Mark 43 ∷ Fixed (codes "1") ∷ Mark 59 ∷ Mark 125 ∷
    Fixed (codes "return") ∷ Blank 32 ∷ Fixed (codes "b") ∷ Mark 59 ∷ Mark 125 ∷ Blank 10 ∷ []))))

abbrev pub front_pieces : ℕ → List Piece
front_pieces start =
    Fixed (codes "void") ∷ Blank 32 ∷ Fixed (codes "main") ∷ Mark 40 ∷ Fixed (codes "void") ∷ Mark 41 ∷ Mark 123 ∷
    unsigned_pieces (codes "int") (Fixed (codes "x")) (Mark 59 ∷ Fixed (codes "x") ∷ Mark 61 ∷ Unsigned start ∷ Mark 59 ∷ [])

abbrev pub call_pieces : ℕ → List Piece
call_pieces function =
    Fixed (codes "x") ∷ Mark 61 ∷ Own function ∷ Mark 40 ∷ Fixed (codes "x") ∷ Mark 41 ∷ Mark 59 ∷
    Fixed (codes "P1") ∷ Mark 61 ∷ Fixed (codes "x") ∷ Mark 59 ∷ []

abbrev pub back_pieces : List Piece
back_pieces = Mark 125 ∷ Blank 10 ∷ []

abbrev pub main_pieces : (start functions : ℕ) → List Piece
main_pieces start functions = front_pieces start ++ (each_below call_pieces functions ++ back_pieces)

abbrev pub all_pieces : (ℕ → Numbers) → (start functions : ℕ) → List Piece
all_pieces numbers start functions = each_below (λ f. function_pieces (numbers f) f) functions ++ main_pieces start functions

-- ---- places

abbrev pub nowhere : Span
nowhere = record { from = 0; to = 0 }

-- the place of each token
abbrev pub places : List Token → ℕ → Span
places l k = get_or (map (λ (t : Token). t.span) l) k nowhere

-- ---- trees

-- the numbers of names: that of the first function, `a`, `b`, `i`, the other functions, `main` and `x`
abbrev pub own_name : ℕ → ℕ
own_name zero = 0
own_name (suc k) = suc (suc (suc (suc k)))

abbrev pub main_number : ℕ → ℕ
main_number functions = functions + 3

abbrev pub value_number : ℕ → ℕ
value_number functions = functions + 4

abbrev pub name : ℕ → Span → Name
name number span = record { number = number; span = span }

abbrev pub declared : Specifiers → ℕ → Span → Declared
declared words number span = record { specifiers = words; stars = []; name = name number span }

abbrev pub local : Specifiers → ℕ → (at semicolon : Span) → Local
local words number at semicolon = record { declaration = record { declared = declared words number at; lengths = [] }; initialiser = NoValue; semicolon = semicolon }

abbrev pub test : {L : Type 0} → (keyword left : Span) → Expr → (right : Span) → Test L
test keyword left e right = record { keyword = keyword; left = left; condition = Truth e; right = right }

abbrev pub assign : {L : Type 0} → Expr → Span → Expr → Span → Stmt L
assign target equals value semicolon = Assign (record { target = target; equals = equals; value = value }) semicolon

-- the labels of a function
pub record Five (L : Type 0) : Type 0 where
  pub entry : L
  pub turn : L
  pub one : L
  pub other : L
  pub after : L

abbrev pub header : (ℕ → Span) → ℕ → Header
header at own = record {
  declared = declared (w.UnsignedInt (at 0) (at 1)) own (at 2);
  left = at 3;
  parameters = Parameters' [] (declared (w.UnsignedInt (at 4) (at 5)) 1 (at 6));
  right = at 7;
}

-- the variables of a function whose first one has this number
abbrev pub a : ℕ → Span → Expr
a v span = Variable unsigned_int v (name 1 span)

abbrev pub b : ℕ → Span → Expr
b v span = Variable unsigned_int (v + 1) (name 2 span)

abbrev pub i : ℕ → Span → Expr
i v span = Variable unsigned_char (suc (v + 1)) (name 3 span)

abbrev pub number : CType → ℕ → Span → Expr
number type value span = Number type (literal value false) span

abbrev pub unsigned_number : ℕ → Span → Expr
unsigned_number value span = Number unsigned_int (literal value true) span

abbrev pub mixing : {L : Type 0} → (ℕ → Span) → Numbers → ℕ → Stmt L
mixing at x v =
    assign (b v (at 32)) (at 33)
    (Binary unsigned_int (Binary unsigned_int (b v (at 34)) o.Add (at 35) (unsigned_number x.added (at 36))) o.BitXor (at 37) (unsigned_number x.mixed (at 38)))
    (at 39)

abbrev pub mixing_odd : {L : Type 0} → Five L → (ℕ → Span) → Numbers → ℕ → Stmt L
mixing_odd l at x v =
    If (test (at 40) (at 41) (Binary unsigned_int (b v (at 42)) o.BitAnd (at 43) (number int 1 (at 44))) (at 45)) l.one
    (assign (b v (at 46)) (at 47) (Binary unsigned_int (b v (at 48)) o.BitXor (at 49) (unsigned_number x.mixed_odd (at 50))) (at 51)) l.other

abbrev pub counting : {L : Type 0} → (ℕ → Span) → ℕ → Stmt L
counting at v = assign (i v (at 52)) (at 53) (Binary int (i v (at 54)) o.Add (at 55) (number int 1 (at 56))) (at 57)

abbrev pub loop : {L : Type 0} → Five L → (ℕ → Span) → Numbers → ℕ → Stmt L
loop l at x v =
    While (test (at 25) (at 26) (Binary int (i v (at 27)) o.Less (at 28) (number int x.turns (at 29))) (at 30)) l.turn
    (Block (at 31) (Then (Then (Then NoStmts (mixing at x v)) (mixing_odd l at x v)) (counting at v)) (at 58)) l.after

abbrev pub body : {L : Type 0} → Five L → (ℕ → Span) → Numbers → ℕ → Stmts L
body l at x v =
    Then (Then (Then (Then NoStmts
    (assign (b v (at 17)) (at 18) (a v (at 19)) (at 20)))
    (assign (i v (at 21)) (at 22) (number int 0 (at 23)) (at 24)))
    (loop l at x v))
    (Return (at 59) (Some (b v (at 60))) (at 61))

-- a function with its numbers, the number of its name and that of its first variable
abbrev pub function : {L : Type 0} → Five L → (ℕ → Span) → Numbers → (own v : ℕ) → Function L
function l at x own v = record {
  header = header at own;
  result = unsigned_int;
  first_variable = v;
  parameters = 1;
  left = at 8;
  label = l.entry;
  locals = local (w.UnsignedInt (at 9) (at 10)) 2 (at 11) (at 12) ∷ local (w.UnsignedChar (at 13) (at 14)) 3 (at 15) (at 16) ∷ [];
  body = body l at x v;
  right = at 62;
}

-- `x` of `main`, by its name's number and its own
abbrev pub x : (name_number v : ℕ) → Span → Expr
x n v span = Variable unsigned_int v (name n span)

abbrev pub call : {L : Type 0} → L → (ℕ → Span) → (n v function : ℕ) → Stmt L
call back at n v function =
    CallOf (record {
      target = Some (record { variable = v; target = record { name = name n (at 0); equals = at 1 } });
      function = function;
      name = name (own_name function) (at 2);
      left = at 3;
      arguments = Arguments' [] (x n v (at 4));
      right = at 5;
    }) (at 6) back

abbrev pub writing : {L : Type 0} → (ℕ → Span) → (n v : ℕ) → Stmt L
writing at n v = WritePort (at 7) (at 8) (x n v (at 9)) (at 10)

abbrev pub main_body : {L : Type 0} → (ℕ → L) → (at : ℕ → Span) → (ℕ → ℕ → Span) → (start n v functions : ℕ) → Stmts L
main_body back at call_at start n v zero = Then NoStmts (assign (x n v (at 10)) (at 11) (unsigned_number start (at 12)) (at 13))
main_body back at call_at start n v (suc j) =
    Then (Then (main_body back at call_at start n v j) (call (back j) (call_at j) n v j)) (writing (call_at j) n v)

abbrev pub main_header : (ℕ → Span) → ℕ → Header
main_header at own = record { declared = declared (w.Void (at 0)) own (at 1); left = at 2; parameters = NoParameters (at 3); right = at 4 }

abbrev pub main_function : {L : Type 0} → L → (ℕ → L) → (at : ℕ → Span) → (ℕ → ℕ → Span) → Span → (start v functions : ℕ) → Function L
main_function entry back at call_at right start v functions = record {
  header = main_header at (main_number functions);
  result = Void;
  first_variable = v;
  parameters = 0;
  left = at 5;
  label = entry;
  locals = local (w.UnsignedInt (at 6) (at 7)) (value_number functions) (at 8) (at 9) ∷ [];
  body = main_body back at call_at start (value_number functions) v functions;
  right = right;
}

-- ---- variables

abbrev pub held : ℕ → Span → CType → ℕ → Variable'
held number span type place = record { name = name number span; type = type; home = h.Scalar place; address = 0 }

abbrev pub own_variables : (ℕ → Span) → List Variable'
own_variables at = held 1 (at 6) unsigned_int 0 ∷ held 2 (at 11) unsigned_int 1 ∷ held 3 (at 15) unsigned_char 2 ∷ []

-- ---- programs

-- the labels of a program
pub record Labels (L : Type 0) : Type 0 where
  pub of_function : ℕ → Five L
  pub entry : L
  pub back : ℕ → L

-- the places of a program's tokens
pub record Places : Type 0 where
  pub of_function : ℕ → ℕ → Span
  pub of_main : ℕ → Span
  pub of_call : ℕ → ℕ → Span
  pub right : Span
  pub whole : Span

abbrev pub one_function : {L : Type 0} → Labels L → Places → (ℕ → Numbers) → ℕ → Function L
one_function l p numbers f = function (l.of_function f) (p.of_function f) (numbers f) (own_name f) (3 * f)

abbrev pub last_function : {L : Type 0} → Labels L → Places → (start functions : ℕ) → Function L
last_function l p start functions = main_function l.entry l.back p.of_main p.of_call p.right start (3 * functions) functions

abbrev pub all_functions : {L : Type 0} → Labels L → Places → (ℕ → Numbers) → (start functions : ℕ) → List (Function L)
all_functions l p numbers start functions = each (one_function l p numbers) functions ++ last_function l p start functions ∷ []

abbrev pub all_variables : Places → (functions : ℕ) → List Variable'
all_variables p functions = each_below (λ f. own_variables (p.of_function f)) functions ++ held (value_number functions) (p.of_main 8) unsigned_int 0 ∷ []

abbrev pub own_text : ℕ → List ℕ
own_text f = codes "f" ++ decimal f

-- the names: the first function, `a`, `b`, `i`, the other functions, `main` and `x`
abbrev pub names_after : ℕ → List (List ℕ)
names_after zero = []
names_after (suc k) = own_text 0 ∷ codes "a" ∷ codes "b" ∷ codes "i" ∷ each (λ f. own_text (suc f)) k

abbrev pub all_names : ℕ → List (List ℕ)
all_names functions = names_after functions ++ codes "main" ∷ codes "x" ∷ []

abbrev pub program : {L : Type 0} → Labels L → Places → (ℕ → Numbers) → (start functions : ℕ) → (frames : List ℕ) → List Called → TypedProgram L
program l p numbers start functions frames calls = record {
  names = all_names functions;
  items = each FunctionItem functions ++ FunctionItem functions ∷ [];
  span = p.whole;
  structs = [];
  variables = all_variables p functions;
  functions = all_functions l p numbers start functions;
  main = functions;
  frames = frames;
  data_bytes = 0;
  calls = calls;
}
