-- Which declarations and functions are well typed (ISO/IEC 9899:1999, 6.7 and 6.9), in the compiler's profile, and the numbers and
-- homes of variables.
use Rattle.std.specs.Prelude.{◌≡◌, ℕ, suc, ◌+◌, ◌≤◌, Bool, true, false, ◌&&◌, ◌||◌, not, IsTrue, List, [], ◌∷◌, ◌++◌, length, map, nat_eq, nat_le, Option, Some, None, if◌then◌else◌}
use Rattle.clight_source.specs.declared.symbol.Literal.{Literal}
use Rattle.clight_source.specs.declared.tree.Name.{Name}
use Rattle.clight_source.specs.declared.tree.SignedNumber.{SignedNumber}
use Rattle.clight_source.specs.declared.tree.EarlierNumber.{EarlierNumber}
use Rattle.clight_syntax.specs.declared.typed.Home.{Home}
use Rattle.clight_syntax.specs.declared.typed.Home.TheVariants as h
use Rattle.clight_source.specs.Trees.{Declared, Declaration, Header, Initialiser, NoInitialiser, Single, Listed, Global}
use Rattle.clight_source.specs.Trees as tree
use Rattle.c_types.specs.Types.{CType, Void, Integer, Pointer, Array, Struct, StructType, size_of, type_eq}
use Rattle.clight_syntax.specs.TypedTrees.{LocalInitialiser, NoValue, Value, Local, Function, Variable'}
use Rattle.clight_syntax.specs.LiteralTypes.{literal_type}
use Rattle.c_types.specs.Kinds.{is_integer, is_scalar, is_four_bytes}
use Rattle.clight_types.specs.Operands.{is_assignable, operand}
use Rattle.clight_types.specs.Scopes.{Scope, Signature, Meaning, Object, Code, Named, Meanings, declare, visible}
use Rattle.clight_types.specs.Declarations.{named_type, declared_type, declaration_type, parameters_of, signature_of, is_size, bytes_of, greatest_parameters, struct_type, types_eq}
use Rattle.clight_types.specs.Expressions.{HasValue}
use Rattle.clight_typing.specs.Statements.{Body, AreTyped, addressed, stmts_addressed, is_among}

-- ---- declarations

abbrev pub is_void : CType → Bool
is_void Void = true
is_void type = false

-- the words of a type may stand anywhere but in a result
abbrev pub is_object_words : CType → Bool
is_object_words type = not (is_four_bytes type) && not (is_void type)

-- the words of a result with these stars
abbrev pub is_result_words : {A : Type 0} → CType → List A → Bool
is_result_words type [] = not (is_four_bytes type)
is_result_words type (star ∷ stars) = is_object_words type

-- a variable or member has a type, and its size is one
abbrev pub is_declaration : List StructType → Declaration → Bool
is_declaration structs x =
    is_object_words (named_type structs x.declared.specifiers) && is_size (size_of structs (declaration_type structs x))

abbrev pub are_members : List StructType → List tree.Member → Bool
are_members structs [] = true
are_members structs (x ∷ rest) = is_declaration structs x.declaration && are_members structs rest

-- 6.7.2.1
abbrev pub is_struct : List StructType → tree.Struct → Bool
is_struct structs x = are_members structs x.members && is_size (struct_type structs x).size

-- ---- initialisers of globals

-- a number that has a type
abbrev pub is_number : SignedNumber → Bool
is_number x = not (is_four_bytes (literal_type x.number))

abbrev pub are_numbers : List EarlierNumber → Bool
are_numbers [] = true
are_numbers (x ∷ rest) = is_number x.number && are_numbers rest

abbrev pub has_numbers : Initialiser → Bool
has_numbers NoInitialiser = true
has_numbers (Single equals number) = is_number number
has_numbers (Listed equals left earlier last right) = are_numbers earlier && is_number last

-- so many numbers in braces, for an array of integers that has as many elements at least
abbrev pub takes_list : CType → ℕ → Bool
takes_list (Array element count) n = is_integer element && nat_le n count
takes_list type n = false

-- 6.7.8: a number for an integer, a list in braces for an array of integers
abbrev pub takes_initialiser : CType → Initialiser → Bool
takes_initialiser type NoInitialiser = true
takes_initialiser type (Single equals number) = is_integer type
takes_initialiser type (Listed equals left earlier last right) = takes_list type (suc (length earlier))

abbrev pub is_global : List StructType → Global → Bool
is_global structs x =
    is_declaration structs x.declaration && (has_numbers x.initialiser && takes_initialiser (declaration_type structs x.declaration) x.initialiser)

-- ---- headers

abbrev pub is_parameter : List StructType → Declared → Bool
is_parameter structs x = is_object_words (named_type structs x.specifiers) && is_scalar (declared_type structs x)

abbrev pub are_parameters : List StructType → List Declared → Bool
are_parameters structs [] = true
are_parameters structs (x ∷ rest) = is_parameter structs x && are_parameters structs rest

-- a scalar, or nothing
abbrev pub is_result : List StructType → Declared → Bool
is_result structs x =
    is_result_words (named_type structs x.specifiers) x.stars && (is_scalar (declared_type structs x) || is_void (declared_type structs x))

abbrev pub has_few_parameters : List StructType → Signature → Bool
has_few_parameters structs x = nat_le (bytes_of structs x.parameters) greatest_parameters

-- 6.7.5.3 and 6.9.1
abbrev pub is_header : List StructType → Header → Bool
is_header structs x =
    is_result structs x.declared && (are_parameters structs (parameters_of x.parameters) && has_few_parameters structs (signature_of structs x))

-- ---- agreement of declarations

abbrev pub signature_eq : Signature → Signature → Bool
signature_eq x y = type_eq x.result y.result && types_eq x.parameters y.parameters

-- 6.7: an earlier declaration of a function gives it the same type
abbrev pub agrees : Option Meaning → Signature → Bool
agrees None x = true
agrees (Some (Object variable type)) x = true
agrees (Some (Code function signature)) x = signature_eq signature x

-- ---- parameters and locals

abbrev pub object : Name → ℕ → CType → Named
object name variable type = record { name = name.number; meaning = Object variable type }

-- the parameters, whose numbers begin here, before other declarations
abbrev pub with_parameters : List StructType → ℕ → List Declared → Meanings → Meanings
with_parameters structs variable [] names = names
with_parameters structs variable (x ∷ rest) names =
    with_parameters structs (suc variable) rest (declare (object x.name variable (declared_type structs x)) names)

abbrev pub with_local : List StructType → ℕ → Declaration → Meanings → Meanings
with_local structs variable x names = declare (object x.declared.name variable (declaration_type structs x)) names

abbrev pub with_locals : List StructType → ℕ → List Local → Meanings → Meanings
with_locals structs variable [] names = names
with_locals structs variable (x ∷ rest) names = with_locals structs (suc variable) rest (with_local structs variable x.declaration names)

-- 6.7.8: a scalar local takes a value that may be assigned to it
abbrev pub IsFirstValue : Scope → CType → LocalInitialiser → Type 0
IsFirstValue scope type NoValue = Unit {0}
IsFirstValue scope type (Value equals e) = HasValue scope e × IsTrue (is_scalar type && is_assignable (operand e) type)

-- the locals, whose numbers begin here, behind these declarations; each is visible in its own initialiser
abbrev pub AreLocals : List StructType → ℕ → Meanings → List Local → Type 0
AreLocals structs variable names [] = Unit {0}
AreLocals structs variable names (x ∷ rest) =
    IsTrue (is_declaration structs x.declaration)
    × IsFirstValue (visible structs (with_local structs variable x.declaration names)) (declaration_type structs x.declaration) x.initialiser
    × AreLocals structs (suc variable) (with_local structs variable x.declaration names) rest

abbrev pub first_value_addressed : LocalInitialiser → List ℕ
first_value_addressed NoValue = []
first_value_addressed (Value equals e) = addressed e

abbrev pub locals_addressed : List Local → List ℕ
locals_addressed [] = []
locals_addressed (x ∷ rest) = first_value_addressed x.initialiser ++ locals_addressed rest

-- ---- functions

-- what was declared before a place of the file
pub record File : Type 0 where
  -- the names of all functions that the program defines, in order
  pub definitions : List ℕ
  pub structs : List StructType
  -- what the names mean that are declared
  pub names : Meanings
  -- the variables, in order, with no addresses yet
  pub variables : List Variable'
  -- how many of them are globals
  pub globals : ℕ
  -- how many functions are defined
  pub functions : ℕ

-- the number of the function with this name
abbrev pub function_number : List ℕ → ℕ → ℕ
function_number [] name = 0
function_number (x ∷ rest) name = if nat_eq x name then 0 else suc (function_number rest name)

abbrev pub code : File → Header → Named
code file x = record {
  name = x.declared.name.number;
  meaning = Code (function_number file.definitions x.declared.name.number) (signature_of file.structs x);
}

-- the declarations that the locals of a function stand behind
abbrev pub names_at_locals : File → Header → Meanings
names_at_locals file x = with_parameters file.structs (length file.variables) (parameters_of x.parameters) (declare (code file x) file.names)

abbrev pub first_local : File → Header → ℕ
first_local file x = length file.variables + length (parameters_of x.parameters)

-- the variables of a function whose address is taken in it
abbrev pub function_addressed : {L : Type 0} → Function L → List ℕ
function_addressed f = locals_addressed f.locals ++ stmts_addressed f.body

-- what stands around a function's statements
abbrev pub body_of : {L : Type 0} → File → Function L → Body
body_of file f = record {
  scope = visible file.structs (with_locals file.structs (first_local file f.header) f.locals (names_at_locals file f.header));
  result = declared_type file.structs f.header.declared;
  first_variable = length file.variables;
  addressed = is_among (function_addressed f);
  in_loop = false;
}

-- 6.9.1
pub record IsFunction {L : Type 0} (file : File) (f : Function L) : Type 0 where
  pub header : IsTrue (is_header file.structs f.header)
  pub agrees : IsTrue (agrees (file.names f.header.declared.name.number) (signature_of file.structs f.header))
  pub result : f.result ≡ declared_type file.structs f.header.declared
  pub first_variable : f.first_variable ≡ length file.variables
  pub parameters : f.parameters ≡ length (parameters_of f.header.parameters)
  pub locals : AreLocals file.structs (first_local file f.header) (names_at_locals file f.header) f.locals
  pub body : AreTyped (body_of file f) f.body

-- ---- homes

-- a parameter or local lives in a block where it is an array or a struct, or its address is taken
abbrev pub has_block : (ℕ → Bool) → ℕ → CType → Bool
has_block addressed variable type = not (is_scalar type) || addressed variable

abbrev pub home_of : Bool → (blocks scalars : ℕ) → Home
home_of true blocks scalars = h.Block blocks
home_of false blocks scalars = h.Scalar scalars

abbrev pub counted : Bool → ℕ → ℕ
counted true n = suc n
counted false n = n

-- a parameter or local and its type
pub record Own : Type 0 where
  pub name : Name
  pub type : CType

-- a parameter or local, where so many blocks and scalars stand before it in its function
abbrev pub own_variable : (ℕ → Bool) → ℕ → (blocks scalars : ℕ) → Own → Variable'
own_variable addressed variable blocks scalars x = record {
  name = x.name;
  type = x.type;
  home = home_of (has_block addressed variable x.type) blocks scalars;
  address = 0;
}

-- the variables of a function from one on
abbrev pub variables_from : (ℕ → Bool) → ℕ → (blocks scalars : ℕ) → List Own → List Variable'
variables_from addressed variable blocks scalars [] = []
variables_from addressed variable blocks scalars (x ∷ rest) =
    own_variable addressed variable blocks scalars x
    ∷ variables_from addressed (suc variable) (counted (has_block addressed variable x.type) blocks) (counted (is_scalar x.type) scalars) rest

abbrev pub parameter_own : List StructType → Declared → Own
parameter_own structs x = record { name = x.name; type = declared_type structs x }

abbrev pub local_own : List StructType → Local → Own
local_own structs x = record { name = x.declaration.declared.name; type = declaration_type structs x.declaration }

abbrev pub variables_of : {L : Type 0} → File → Function L → List Variable'
variables_of file f =
    variables_from (is_among (function_addressed f)) (length file.variables) 0 0
    (map (parameter_own file.structs) (parameters_of f.header.parameters) ++ map (local_own file.structs) f.locals)
