-- The names of a program in the order of the text, each with what it does where it stands (ISO/IEC 9899:1999, 6.2.1, 6.2.3, 6.7 and
-- 6.9, in the compiler's profile).
use Rattle.std.specs.Prelude.{ℕ, suc, Bool, true, false, ◌&&◌, not, List, [], ◌∷◌, ◌++◌, Option, Some, None}
use Rattle.std.specs.List.{flat_map}
use Rattle.clight_source.specs.declared.tree.Name.{Name}
use Rattle.clight_source.specs.declared.tree.CallTarget.{CallTarget}
use Rattle.clight_source.specs.declared.tree.Specifiers.{Specifiers}
use Rattle.clight_source.specs.declared.tree.Specifiers.TheVariants as w
use Rattle.clight_source.specs.Trees.{Expr, Variable, Number, Parenthesis, Binary, Prefix, Cast, Index, Select, Assignment, EarlierArgument, Arguments, NoArguments, Arguments', Call, ForHead, Stmt, Empty, Block, Assign, ReadPort, WritePort, CallOf, If, IfElse, While, Do, For, Break, Continue, Return, Stmts, NoStmts, Then, Declared, Member, Struct, EarlierParameter, Parameters, NoParameters, Parameters', Header, LocalInitialiser, NoValue, Value, Local, Function, Item, StructItem, GlobalItem, PrototypeItem, FunctionItem, Program}
use Rattle.clight_names.specs.declared.occurrences.Role.{Role}
use Rattle.clight_names.specs.declared.occurrences.Role.TheVariants as r
use Rattle.clight_names.specs.declared.occurrences.Occurrence.{Occurrence}

-- Items of the program are meant by their numbers, from 0.
abbrev pub occurs : Name → Role → Occurrence
occurs name role = record { name = name; role = role }

-- ---- the names of expressions and statements

abbrev pub words_names : Bool → Option ℕ → Specifiers → List Occurrence
words_names starred around (w.Struct a tag) = occurs tag (r.NamesTag starred around) ∷ []
words_names starred around words = []

abbrev pub expr_names : ℕ → Expr → List Occurrence
expr_names item (Variable name) = occurs name (r.Uses item) ∷ []
expr_names item (Number number span) = []
expr_names item (Parenthesis left e right) = expr_names item e
expr_names item (Binary l operator at r) = expr_names item l ++ expr_names item r
expr_names item (Prefix operator at e) = expr_names item e
expr_names item (Cast left words right e) = words_names false None words ++ expr_names item e
expr_names item (Index base left index right) = expr_names item base ++ expr_names item index
expr_names item (Select e operator at member) = expr_names item e ++ occurs member r.Selects ∷ []

abbrev pub optional_names : {A : Type 0} → (A → List Occurrence) → Option A → List Occurrence
optional_names names None = []
optional_names names (Some x) = names x

abbrev pub assignment_names : ℕ → Assignment → List Occurrence
assignment_names item x = expr_names item x.target ++ expr_names item x.value

abbrev pub earlier_names : ℕ → EarlierArgument → List Occurrence
earlier_names item x = expr_names item x.value

abbrev pub arguments_names : ℕ → Arguments → List Occurrence
arguments_names item NoArguments = []
arguments_names item (Arguments' earlier last) = flat_map (earlier_names item) earlier ++ expr_names item last

abbrev pub target_names : ℕ → CallTarget → List Occurrence
target_names item x = occurs x.name (r.Uses item) ∷ []

abbrev pub call_names : ℕ → Call → List Occurrence
call_names item x = optional_names (target_names item) x.target ++ occurs x.function (r.Uses item) ∷ arguments_names item x.arguments

abbrev pub for_names : ℕ → ForHead → List Occurrence
for_names item x =
    optional_names (assignment_names item) x.first ++ (optional_names (expr_names item) x.condition ++ optional_names (assignment_names item) x.step)

abbrev mutual
  pub stmt_names : ℕ → Stmt → List Occurrence
  stmt_names item (Empty a) = []
  stmt_names item (Block left body right) = stmts_names item body
  stmt_names item (Assign x a) = assignment_names item x
  stmt_names item (ReadPort target equals port a) = expr_names item target
  stmt_names item (WritePort port equals value a) = expr_names item value
  stmt_names item (CallOf x a) = call_names item x
  stmt_names item (If test x) = expr_names item test.condition ++ stmt_names item x
  stmt_names item (IfElse test x a y) = expr_names item test.condition ++ (stmt_names item x ++ stmt_names item y)
  stmt_names item (While test x) = expr_names item test.condition ++ stmt_names item x
  stmt_names item (Do keyword x test a) = stmt_names item x ++ expr_names item test.condition
  stmt_names item (For head x) = for_names item head ++ stmt_names item x
  stmt_names item (Break keyword a) = []
  stmt_names item (Continue keyword a) = []
  stmt_names item (Return keyword value a) = optional_names (expr_names item) value

  pub stmts_names : ℕ → Stmts → List Occurrence
  stmts_names item NoStmts = []
  stmts_names item (Then earlier last) = stmts_names item earlier ++ stmt_names item last

-- ---- the names of declarations

abbrev pub is_starred : {A : Type 0} → List A → Bool
is_starred [] = false
is_starred (star ∷ stars) = true

-- the tag of the type and the declared name, among the members of a struct or elsewhere
abbrev pub declared_names : Option ℕ → Role → Declared → List Occurrence
declared_names around role x = words_names (is_starred x.stars) around x.specifiers ++ occurs x.name role ∷ []

-- of a member of the struct with this tag
abbrev pub member_names : (item tag : ℕ) → Member → List Occurrence
member_names item tag x = declared_names (Some tag) (r.DeclaresMember item) x.declaration.declared

abbrev pub struct_names : ℕ → Struct → List Occurrence
struct_names item x = occurs x.tag r.DefinesTag ∷ flat_map (member_names item x.tag.number) x.members

abbrev pub local_declared : ℕ → Declared → List Occurrence
local_declared item x = declared_names None (r.DeclaresLocal item) x

abbrev pub earlier_parameter_names : ℕ → EarlierParameter → List Occurrence
earlier_parameter_names item x = local_declared item x.parameter

abbrev pub parameters_names : ℕ → Parameters → List Occurrence
parameters_names item (NoParameters void) = []
parameters_names item (Parameters' earlier last) = flat_map (earlier_parameter_names item) earlier ++ local_declared item last

abbrev pub is_void_words : Specifiers → Bool
is_void_words (w.Void a) = true
is_void_words words = false

abbrev pub has_no_parameters : Parameters → Bool
has_no_parameters (NoParameters void) = true
has_no_parameters (Parameters' earlier last) = false

-- `void f(void)`
abbrev pub is_plain : Header → Bool
is_plain x = is_void_words x.declared.specifiers && (not (is_starred x.declared.stars) && has_no_parameters x.parameters)

abbrev pub header_names : ℕ → Role → Header → List Occurrence
header_names item role x = declared_names None role x.declared ++ parameters_names item x.parameters

abbrev pub first_value_names : ℕ → LocalInitialiser → List Occurrence
first_value_names item NoValue = []
first_value_names item (Value equals e) = expr_names item e

-- a local is known from its name on, so in its own initialiser too
abbrev pub local_names : ℕ → Local → List Occurrence
local_names item x = local_declared item x.declaration.declared ++ first_value_names item x.initialiser

abbrev pub function_names : ℕ → Function → List Occurrence
function_names item x = header_names item (r.DefinesFunction (is_plain x.header)) x.header ++ (flat_map (local_names item) x.locals ++ stmts_names item x.body)

abbrev pub item_names : ℕ → Item → List Occurrence
item_names item (StructItem x) = struct_names item x
item_names item (GlobalItem x) = declared_names None r.DeclaresGlobal x.declaration.declared
item_names item (PrototypeItem x) = header_names item (r.DeclaresPrototype (is_plain x.header)) x.header
item_names item (FunctionItem x) = function_names item x

-- all names of the items, of which the first has this number, in the order of the text
abbrev pub names_from : ℕ → List Item → List Occurrence
names_from item [] = []
names_from item (x ∷ rest) = item_names item x ++ names_from (suc item) rest

abbrev pub all_names : Program → List Occurrence
all_names p = names_from 0 p.items
