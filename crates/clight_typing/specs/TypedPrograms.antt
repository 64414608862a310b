-- The typed tree of a program, or the first node of it that has no type (ISO/IEC 9899:1999, 6.7 and 6.9). A type that may not stand
-- where it stands is a node at its first token. A declared thing is a node at its first star, or at its name; a struct one at its
-- `struct`; a function, whose body is a part of it, one at its name.
use Rattle.std.specs.Prelude.{◌≡◌, ℕ, suc, ◌+◌, Bool, true, false, ◌&&◌, ◌||◌, not, List, [], ◌∷◌, ◌++◌, length, map, Option, Some, None, Result, Ok, Err, if◌then◌else◌}
use Rattle.cerco_base.specs.declared.reasons.TypeKind.{TypeKind}
use Rattle.cerco_base.specs.declared.reasons.TypeKind.TheVariants as k
use Rattle.clight_source.specs.declared.tree.SignedNumber.{SignedNumber}
use Rattle.clight_source.specs.declared.tree.EarlierNumber.{EarlierNumber}
use Rattle.clight_source.specs.declared.tree.Specifiers.{Specifiers}
use Rattle.clight_source.specs.Depth.{declared_start}
use Rattle.clight_source.specs.Trees as s
use Rattle.c_types.specs.Types.{CType, Void, Struct, StructType, size_of}
use Rattle.clight_syntax.specs.TypedTrees.{Stmts, LocalInitialiser, NoValue, Value, Local, Function, Item, StructItem, GlobalItem, PrototypeItem, FunctionItem, Variable', TypedProgram}
use Rattle.c_types.specs.Kinds.{is_scalar, is_four_bytes}
use Rattle.clight_types.specs.Operands.{is_assignable, operand}
use Rattle.clight_types.specs.Scopes.{Scope, Meanings, visible}
use Rattle.clight_types.specs.Declarations.{named_type, declared_type, declaration_type, parameters_of, signature_of, is_size, struct_type}
use Rattle.clight_typing.specs.Statements.{Body, is_among}
use Rattle.clight_typing.specs.Functions.{File, is_void, is_number, takes_initialiser, has_few_parameters, agrees, with_local, names_at_locals, first_local, function_number, code}
use Rattle.clight_typing.specs.Programs.{after_struct, after_global, after_prototype, after_function, definitions, no_file}
use Rattle.clight_names.specs.Spellings.{main_name}
use Rattle.clight_types.specs.TypedExpressions.{Checked, fault, ◌>>=◌, typed_value, object_words, words_start}
use Rattle.clight_typing.specs.TypedStatements.{taken_in, stmts_taken, typed_stmts}

-- nothing, where it holds
abbrev pub asked : Bool → ℕ → TypeKind → Checked (Unit {0})
asked true at kind = Ok tt
asked false at kind = fault at kind

-- ---- declarations

abbrev pub checked_declaration : List StructType → s.Declaration → Checked CType
checked_declaration structs x = do
  words ← object_words (named_type structs x.declared.specifiers) x.declared.specifiers
  size ← asked (is_size (size_of structs (declaration_type structs x))) (declared_start x.declared) k.Size
  Ok (declaration_type structs x)

abbrev pub checked_members : List StructType → List s.Member → Checked (Unit {0})
checked_members structs [] = Ok tt
checked_members structs (x ∷ rest) = do
  type ← checked_declaration structs x.declaration
  checked_members structs rest

abbrev pub checked_struct : List StructType → s.Struct → Checked (Unit {0})
checked_struct structs x = do
  members ← checked_members structs x.members
  asked (is_size (struct_type structs x).size) x.keyword.from k.Size

-- ---- globals

abbrev pub checked_number : SignedNumber → Checked (Unit {0})
checked_number x = asked (is_number x) x.span.from k.Long

abbrev pub checked_numbers : List EarlierNumber → Checked (Unit {0})
checked_numbers [] = Ok tt
checked_numbers (x ∷ rest) = do
  number ← checked_number x.number
  checked_numbers rest

abbrev pub checked_initialiser : CType → s.Initialiser → Checked (Unit {0})
checked_initialiser type s.NoInitialiser = Ok tt
checked_initialiser type (s.Single equals number) = do
  one ← checked_number number
  asked (takes_initialiser type (s.Single equals number)) equals.from k.Init
checked_initialiser type (s.Listed equals left earlier last right) = do
  some ← checked_numbers earlier
  one ← checked_number last
  asked (takes_initialiser type (s.Listed equals left earlier last right)) equals.from k.Init

abbrev pub checked_global : List StructType → s.Global → Checked (Unit {0})
checked_global structs x = do
  type ← checked_declaration structs x.declaration
  checked_initialiser type x.initialiser

-- ---- headers

-- the words of a result with these stars
abbrev pub result_words : {A : Type 0} → CType → List A → Specifiers → Checked (Unit {0})
result_words type [] words = asked (not (is_four_bytes type)) (words_start words) k.Long
result_words type (star ∷ stars) words = do
  object ← object_words type words
  Ok tt

abbrev pub checked_result : List StructType → s.Declared → Checked (Unit {0})
checked_result structs x = do
  words ← result_words (named_type structs x.specifiers) x.stars x.specifiers
  asked (is_scalar (declared_type structs x) || is_void (declared_type structs x)) (declared_start x) k.Value

abbrev pub checked_parameter : List StructType → s.Declared → Checked (Unit {0})
checked_parameter structs x = do
  words ← object_words (named_type structs x.specifiers) x.specifiers
  asked (is_scalar (declared_type structs x)) (declared_start x) k.Value

abbrev pub checked_parameters : List StructType → List s.Declared → Checked (Unit {0})
checked_parameters structs [] = Ok tt
checked_parameters structs (x ∷ rest) = do
  one ← checked_parameter structs x
  checked_parameters structs rest

-- the parts of a header
abbrev pub checked_types : List StructType → s.Header → Checked (Unit {0})
checked_types structs x = do
  result ← checked_result structs x.declared
  checked_parameters structs (parameters_of x.parameters)

abbrev pub few_parameters : List StructType → s.Header → Checked (Unit {0})
few_parameters structs x = asked (has_few_parameters structs (signature_of structs x)) x.declared.name.span.from k.Params

abbrev pub checked_prototype : List StructType → s.Header → Checked (Unit {0})
checked_prototype structs x = do
  types ← checked_types structs x
  few_parameters structs x

-- ---- locals

abbrev pub typed_first_value : Scope → CType → s.LocalInitialiser → Checked LocalInitialiser
typed_first_value scope type s.NoValue = Ok NoValue
typed_first_value scope type (s.Value equals value) = do
  e ← typed_value scope value
  one ← asked (is_scalar type && is_assignable (operand e) type) equals.from k.Init
  Ok (Value equals e)

abbrev pub typed_local : Scope → s.Local → Checked Local
typed_local scope x = do
  type ← checked_declaration scope.structs x.declaration
  first ← typed_first_value scope type x.initialiser
  Ok (record { declaration = x.declaration; initialiser = first; semicolon = x.semicolon })

-- the declarations visible in a local's initialiser, where it has this number
abbrev pub scope_at : List StructType → ℕ → Meanings → s.Local → Scope
scope_at structs variable names x = visible structs (with_local structs variable x.declaration names)

abbrev pub typed_locals : List StructType → ℕ → Meanings → List s.Local → Checked (List Local)
typed_locals structs variable names [] = Ok []
typed_locals structs variable names (x ∷ rest) = do
  one ← typed_local (scope_at structs variable names x) x
  others ← typed_locals structs (suc variable) (with_local structs variable x.declaration names) rest
  Ok (one ∷ others)

-- the declarations behind all locals
abbrev pub behind_locals : List StructType → ℕ → Meanings → List s.Local → Meanings
behind_locals structs variable names [] = names
behind_locals structs variable names (x ∷ rest) = behind_locals structs (suc variable) (with_local structs variable x.declaration names) rest

abbrev pub first_value_taken : Scope → s.LocalInitialiser → List ℕ
first_value_taken scope s.NoValue = []
first_value_taken scope (s.Value equals value) = taken_in scope value

abbrev pub locals_taken : List StructType → ℕ → Meanings → List s.Local → List ℕ
locals_taken structs variable names [] = []
locals_taken structs variable names (x ∷ rest) =
    first_value_taken (scope_at structs variable names x) x.initialiser
    ++ locals_taken structs (suc variable) (with_local structs variable x.declaration names) rest

-- ---- functions

abbrev pub scope_of : File → s.Function → Scope
scope_of file f = visible file.structs (behind_locals file.structs (first_local file f.header) (names_at_locals file f.header) f.locals)

-- the variables of a function whose address is taken in it
abbrev pub function_taken : File → s.Function → List ℕ
function_taken file f =
    locals_taken file.structs (first_local file f.header) (names_at_locals file f.header) f.locals ++ stmts_taken (scope_of file f) f.body

-- what stands around a function's statements
abbrev pub around : File → s.Function → Body
around file f = record {
  scope = scope_of file f;
  result = declared_type file.structs f.header.declared;
  first_variable = length file.variables;
  addressed = is_among (function_taken file f);
  in_loop = false;
}

abbrev pub function_with : File → s.Function → List Local → Stmts (Unit {0}) → Function (Unit {0})
function_with file f locals body = record {
  header = f.header;
  result = declared_type file.structs f.header.declared;
  first_variable = length file.variables;
  parameters = length (parameters_of f.header.parameters);
  left = f.left;
  label = tt;
  locals = locals;
  body = body;
  right = f.right;
}

abbrev pub typed_function : File → s.Function → Checked (Function (Unit {0}))
typed_function file f = do
  types ← checked_types file.structs f.header
  locals ← typed_locals file.structs (first_local file f.header) (names_at_locals file f.header) f.locals
  body ← typed_stmts (around file f) f.body
  few ← few_parameters file.structs f.header
  same ← asked (agrees (file.names f.header.declared.name.number) (signature_of file.structs f.header)) f.header.declared.name.span.from k.Prototype
  Ok (function_with file f locals body)

-- ---- programs

-- typed items, the functions that they define, and what is declared behind them
pub record Items : Type 0 where
  pub items : List Item
  pub functions : List (Function (Unit {0}))
  pub end : File

abbrev pub with_item : Item → Items → Items
with_item item x = record x { items = item ∷ x.items }

abbrev pub with_function : Item → Function (Unit {0}) → Items → Items
with_function item f x = record x { items = item ∷ x.items; functions = f ∷ x.functions }

abbrev pub typed_items : File → List s.Item → Checked Items
typed_items file [] = Ok (record { items = []; functions = []; end = file })
typed_items file (s.StructItem x ∷ rest) = do
  one ← checked_struct file.structs x
  others ← typed_items (after_struct file x) rest
  Ok (with_item (StructItem x) others)
typed_items file (s.GlobalItem x ∷ rest) = do
  one ← checked_global file.structs x
  others ← typed_items (after_global file x) rest
  Ok (with_item (GlobalItem x (length file.variables)) others)
typed_items file (s.PrototypeItem x ∷ rest) = do
  one ← checked_prototype file.structs x.header
  others ← typed_items (after_prototype file x.header) rest
  Ok (with_item (PrototypeItem x) others)
typed_items file (s.FunctionItem x ∷ rest) = do
  f ← typed_function file x
  others ← typed_items (after_function file f) rest
  Ok (with_function (FunctionItem file.functions) f others)

-- the typed program, without addresses and frames
abbrev pub program_with : s.Program → Items → TypedProgram (Unit {0})
program_with p x = record {
  names = p.names;
  items = x.items;
  span = p.span;
  structs = x.end.structs;
  variables = x.end.variables;
  functions = x.functions;
  main = function_number x.end.definitions (main_name p.names);
  frames = [];
  data_bytes = 0;
  calls = [];
}

abbrev pub typed_program : s.Program → Checked (TypedProgram (Unit {0}))
typed_program p = do
  items ← typed_items (no_file (definitions p.items)) p.items
  Ok (program_with p items)
