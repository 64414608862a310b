-- The fold over all postfix nodes of a program: the items that are whole, the first one first, and of what joins nothing yet the
-- newest first.
use Rattle.std.specs.Prelude.{List, [], ◌∷◌, ◌++◌}
use Rattle.clight_source.specs.declared.span.Span.{Span}
use Rattle.clight_source.specs.declared.tree.Name.{Name}
use Rattle.clight_source.specs.declared.tree.Specifiers.{Specifiers}
use Rattle.clight_source.specs.declared.tree.Length.{Length}
use Rattle.clight_source.specs.declared.tree.SignedNumber.{SignedNumber}
use Rattle.clight_source.specs.declared.tree.EarlierNumber.{EarlierNumber}
use Rattle.clight_source.specs.Trees.{Expr, Stmts, Declared, Declaration, Member, Initialiser, NoInitialiser, Single, Listed, EarlierParameter, Parameters, NoParameters, Parameters', Header, LocalInitialiser, NoValue, Value, Local, Item, StructItem, GlobalItem, PrototypeItem, FunctionItem}
use Rattle.clight_nodes.specs.declared.modes.StructFront.{StructFront}
use Rattle.clight_nodes.specs.declared.nodes.Node.{Node}
use Rattle.clight_nodes.specs.declared.nodes.Node.TheVariants as n
use Rattle.clight_build.specs.Code.Stacks.{Stacks, rest, rest_with, after}
use Rattle.clight_build.specs.Code.Stacks as i

-- what joins nothing yet of declarations
pub record Declarations : Type 0 where
  pub stars : List (List Span)
  pub declareds : List Declared
  pub declarations : List Declaration
  pub members : List (List Member)
  pub numbers : List (List EarlierNumber)
  pub initialisers : List Initialiser
  pub parameters : List (List EarlierParameter)
  pub headers : List Header
  pub locals : List (List Local)

abbrev pub declarations : List (List Span) → List Declared → List Declaration → List (List Member) → List (List EarlierNumber) → List Initialiser → List (List EarlierParameter) → List Header → List (List Local) → Declarations
declarations a d x m n v p h l = record { stars = a; declareds = d; declarations = x; members = m; numbers = n; initialisers = v; parameters = p; headers = h; locals = l }

abbrev pub no_declarations : Declarations
no_declarations = declarations [] [] [] [] [] [] [] [] []

pub record Whole : Type 0 where
  pub parts : Stacks
  pub open_declarations : Declarations
  pub items : List Item

abbrev pub whole : Stacks → Declarations → List Item → Whole
whole parts d items = record { parts = parts; open_declarations = d; items = items }

-- ---- what is declared

abbrev pub star : Span → List (List Span) → List (List Span)
star a [] = []
star a (l ∷ more) = (l ++ a ∷ []) ∷ more

abbrev pub make_declared : Specifiers → List Span → Name → Declared
make_declared type stars name = record { specifiers = type; stars = stars; name = name }

abbrev pub declared : Specifiers → Name → List (List Span) → List Declared → List Declared
declared type name [] d = d
declared type name (l ∷ more) d = make_declared type l name ∷ d

abbrev pub no_lengths : List Declared → List Declaration → List Declaration
no_lengths [] x = x
no_lengths (d ∷ k) x = record { declared = d; lengths = [] } ∷ x

abbrev pub one_length : Length → List Declaration → List Declaration
one_length y [] = []
one_length y (x ∷ k) = record { declared = x.declared; lengths = x.lengths ++ y ∷ [] } ∷ k

-- ---- structs

abbrev pub one_member : (semicolon : Span) → List Declaration → List (List Member) → List (List Member)
one_member a [] l = l
one_member a (x ∷ k) [] = []
one_member a (x ∷ k) (l ∷ more) = (l ++ record { declaration = x; semicolon = a } ∷ []) ∷ more

abbrev pub struct_item : StructFront → List Member → (right semicolon : Span) → Item
struct_item x members right semicolon =
    StructItem (record { keyword = x.keyword; tag = x.tag; left = x.left; members = members; right = right; semicolon = semicolon })

abbrev pub one_struct : StructFront → (right semicolon : Span) → List (List Member) → List Item → List Item
one_struct front right a [] items = items
one_struct front right a (l ∷ more) items = items ++ struct_item front l right a ∷ []

-- ---- globals

abbrev pub one_number : SignedNumber → (comma : Span) → List (List EarlierNumber) → List (List EarlierNumber)
one_number number a [] = []
one_number number a (l ∷ more) = (l ++ record { number = number; comma = a } ∷ []) ∷ more

abbrev pub listed : (equals left : Span) → SignedNumber → (right : Span) → List (List EarlierNumber) → List Initialiser → List Initialiser
listed equals left number right [] v = v
listed equals left number right (l ∷ more) v = Listed equals left l number right ∷ v

abbrev pub one_global : (semicolon : Span) → List Initialiser → List Declaration → List Item → List Item
one_global a (v ∷ k) (x ∷ more) items = items ++ GlobalItem (record { declaration = x; initialiser = v; semicolon = a }) ∷ []
one_global a _ _ items = items

-- ---- headers

abbrev pub one_parameter : (comma : Span) → List Declared → List (List EarlierParameter) → List (List EarlierParameter)
one_parameter a [] l = l
one_parameter a (x ∷ k) [] = []
one_parameter a (x ∷ k) (l ∷ more) = (l ++ record { parameter = x; comma = a } ∷ []) ∷ more

abbrev pub make_header : Declared → (left : Span) → Parameters → (right : Span) → Header
make_header x left parameters right = record { declared = x; left = left; parameters = parameters; right = right }

abbrev pub void_header : (left void right : Span) → List (List EarlierParameter) → List Declared → List Header → List Header
void_header left void right (l ∷ more) (x ∷ k) h = make_header x left (NoParameters void) right ∷ h
void_header left void right _ _ h = h

abbrev pub one_header : (left right : Span) → List Declared → List (List EarlierParameter) → List Header → List Header
one_header left right (last ∷ (x ∷ k)) (l ∷ more) h = make_header x left (Parameters' l last) right ∷ h
one_header left right _ _ h = h

abbrev pub one_prototype : (semicolon : Span) → List Header → List Item → List Item
one_prototype a [] items = items
one_prototype a (h ∷ k) items = items ++ PrototypeItem (record { header = h; semicolon = a }) ∷ []

-- ---- functions

abbrev pub make_local : Declaration → LocalInitialiser → (semicolon : Span) → Local
make_local x initialiser semicolon = record { declaration = x; initialiser = initialiser; semicolon = semicolon }

abbrev pub one_local : (semicolon : Span) → List Declaration → List (List Local) → List (List Local)
one_local a [] l = l
one_local a (x ∷ k) [] = []
one_local a (x ∷ k) (l ∷ more) = (l ++ make_local x NoValue a ∷ []) ∷ more

abbrev pub local_value : (equals semicolon : Span) → List Expr → List Declaration → List (List Local) → List (List Local)
local_value equals a [] _ l = l
local_value equals a (e ∷ q) [] l = l
local_value equals a (e ∷ q) (x ∷ k) [] = []
local_value equals a (e ∷ q) (x ∷ k) (l ∷ more) = (l ++ make_local x (Value equals e) a ∷ []) ∷ more

abbrev pub function_item : Header → List Local → Stmts → (left right : Span) → Item
function_item h locals xs left right = FunctionItem (record { header = h; left = left; locals = locals; body = xs; right = right })

abbrev pub one_function : (left right : Span) → List Stmts → List (List Local) → List Header → List Item → List Item
one_function left right (xs ∷ q) (l ∷ more) (h ∷ k) items = items ++ function_item h l xs left right ∷ []
one_function left right _ _ _ items = items

-- ---- the fold

abbrev pub add_declared : Node → Declarations → Declarations
add_declared n.NoStars s = declarations ([] ∷ s.stars) s.declareds s.declarations s.members s.numbers s.initialisers s.parameters s.headers s.locals
add_declared (n.Star a) s = declarations (star a s.stars) s.declareds s.declarations s.members s.numbers s.initialisers s.parameters s.headers s.locals
add_declared (n.Declared type name) s = declarations (rest s.stars) (declared type name s.stars s.declareds) s.declarations s.members s.numbers s.initialisers s.parameters s.headers s.locals
add_declared n.NoLengths s = declarations s.stars (rest s.declareds) (no_lengths s.declareds s.declarations) s.members s.numbers s.initialisers s.parameters s.headers s.locals
add_declared (n.Length y) s = declarations s.stars s.declareds (one_length y s.declarations) s.members s.numbers s.initialisers s.parameters s.headers s.locals
add_declared n.NoMembers s = declarations s.stars s.declareds s.declarations ([] ∷ s.members) s.numbers s.initialisers s.parameters s.headers s.locals
add_declared (n.Member a) s = declarations s.stars s.declareds (rest s.declarations) (one_member a s.declarations s.members) s.numbers s.initialisers s.parameters s.headers s.locals
add_declared n.NoLocals s = declarations s.stars s.declareds s.declarations s.members s.numbers s.initialisers s.parameters s.headers ([] ∷ s.locals)
add_declared (n.Local a) s = declarations s.stars s.declareds (rest s.declarations) s.members s.numbers s.initialisers s.parameters s.headers (one_local a s.declarations s.locals)
add_declared _ s = s

abbrev pub add_first : Node → Declarations → Declarations
add_first n.NoInitialiser s = declarations s.stars s.declareds s.declarations s.members s.numbers (NoInitialiser ∷ s.initialisers) s.parameters s.headers s.locals
add_first (n.Single equals number) s = declarations s.stars s.declareds s.declarations s.members s.numbers (Single equals number ∷ s.initialisers) s.parameters s.headers s.locals
add_first n.NoNumbers s = declarations s.stars s.declareds s.declarations s.members ([] ∷ s.numbers) s.initialisers s.parameters s.headers s.locals
add_first (n.EarlierNumber number a) s = declarations s.stars s.declareds s.declarations s.members (one_number number a s.numbers) s.initialisers s.parameters s.headers s.locals
add_first (n.Listed equals left number right) s =
    declarations s.stars s.declareds s.declarations s.members (rest s.numbers) (listed equals left number right s.numbers s.initialisers) s.parameters s.headers s.locals
add_first n.NoParameters s = declarations s.stars s.declareds s.declarations s.members s.numbers s.initialisers ([] ∷ s.parameters) s.headers s.locals
add_first (n.Parameter a) s = declarations s.stars (rest s.declareds) s.declarations s.members s.numbers s.initialisers (one_parameter a s.declareds s.parameters) s.headers s.locals
add_first (n.VoidHeader left void right) s =
    declarations s.stars (rest_with s.parameters s.declareds) s.declarations s.members s.numbers s.initialisers (rest s.parameters) (void_header left void right s.parameters s.declareds s.headers) s.locals
add_first (n.Header left right) s =
    declarations s.stars (rest_with s.parameters (rest s.declareds)) s.declarations s.members s.numbers s.initialisers (rest_with s.declareds s.parameters)
    (one_header left right s.declareds s.parameters s.headers) s.locals
add_first x s = add_declared x s

abbrev pub add_either : Node → Whole → Whole
add_either x s = whole (i.add x s.parts) (add_first x s.open_declarations) s.items

abbrev pub add_inside : Node → Whole → Whole
add_inside (n.LocalValue equals a) s =
    let d = s.open_declarations in
    let p = s.parts in
    whole (i.on_exprs (rest p.exprs) p)
    (declarations d.stars d.declareds (rest_with p.exprs d.declarations) d.members d.numbers d.initialisers d.parameters d.headers (local_value equals a p.exprs d.declarations d.locals)) s.items
add_inside x s = add_either x s

abbrev pub add : Node → Whole → Whole
add (n.Struct front right a) s =
    let d = s.open_declarations in
    whole s.parts (declarations d.stars d.declareds d.declarations (rest d.members) d.numbers d.initialisers d.parameters d.headers d.locals) (one_struct front right a d.members s.items)
add (n.Global a) s =
    let d = s.open_declarations in
    whole s.parts (declarations d.stars d.declareds (rest_with d.initialisers d.declarations) d.members d.numbers (rest d.initialisers) d.parameters d.headers d.locals)
    (one_global a d.initialisers d.declarations s.items)
add (n.Prototype a) s =
    let d = s.open_declarations in
    whole s.parts (declarations d.stars d.declareds d.declarations d.members d.numbers d.initialisers d.parameters (rest d.headers) d.locals) (one_prototype a d.headers s.items)
add (n.Function left right) s =
    let d = s.open_declarations in
    let p = s.parts in
    whole (i.stacks p.exprs p.stmts (rest p.lists) p.arguments p.assignments p.conditions)
    (declarations d.stars d.declareds d.declarations d.members d.numbers d.initialisers d.parameters (after p.lists d.headers (rest_with d.locals d.headers)) (rest_with p.lists d.locals))
    (one_function left right p.lists d.locals d.headers s.items)
add x s = add_inside x s

-- of nodes, the newest first
abbrev pub added : List Node → Whole
added [] = whole i.no_stacks no_declarations []
added (n ∷ z) = add n (added z)
