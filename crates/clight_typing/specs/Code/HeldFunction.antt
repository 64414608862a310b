-- The parts of functions and of programs, as the checker types them one after the other.
use Rattle.std.specs.Prelude.{◌≡◌, ℕ, ◌+◌, ◌++◌, Bool, false, List, [], ◌∷◌, length, map, Result, Ok, Err, Option, Some, None}
use Rattle.std.specs.Option.{option_map}
use Rattle.clight_source.specs.Trees as s
use Rattle.c_types.specs.Types.{CType, StructType}
use Rattle.clight_syntax.specs.TypedTrees.{Local, Stmts, Function, Item, StructItem, GlobalItem, PrototypeItem, FunctionItem}
use Rattle.clight_syntax.specs.Code.TypedViews.{local_of, stmts_of, item_of, function_of}
use Rattle.clight_syntax.specs.declared.typed.Item.{Item as HeldItem}
use Rattle.clight_syntax.specs.declared.typed.Function.{Function as HeldFunction}
use Rattle.cerco_base.specs.declared.reasons.TypeKind.TheVariants as k
use Rattle.clight_types.specs.Declarations.{declared_type, parameters_of, signature_of}
use Rattle.clight_typing.specs.Functions.{File, with_parameters, code, agrees}
use Rattle.clight_typing.specs.Programs.{after_struct, after_global, after_prototype, after_function}
use Rattle.clight_types.specs.Scopes.{Scope, Meanings, declare, visible}
use Rattle.clight_typing.specs.Statements.{Body, is_among, option_list}
use Rattle.clight_types.specs.TypedExpressions.{Checked, ◌>>=◌}
use Rattle.clight_typing.specs.TypedPrograms.{Items, typed_locals, behind_locals, locals_taken, checked_types, few_parameters, asked, function_with, checked_struct, checked_global, checked_prototype}
use Rattle.clight_typing.specs.TypedStatements.{typed_stmts, stmts_taken}
use Rattle.clight_typing.specs.declared.functions.Parts.{Parts as HeldParts}

abbrev pub U : Type 0
U = Unit {0}

-- ---- what stands around the statements of a function

abbrev pub body_with : Scope → CType → ℕ → (ℕ → Bool) → Body
body_with scope result first addressed = record { scope = scope; result = result; first_variable = first; addressed = addressed; in_loop = false }

-- what the names mean behind the parameters of a function, whose first variable has this number
abbrev pub names_behind : List StructType → ℕ → Meanings → List s.Declared → Meanings
names_behind structs first names parameters = with_parameters structs first parameters names

-- the scope of its statements
abbrev pub function_scope : List StructType → ℕ → Meanings → List s.Declared → List s.Local → Scope
function_scope structs first names parameters locals =
    visible structs (behind_locals structs (first + length parameters) (names_behind structs first names parameters) locals)

-- the variables whose address is taken in it
abbrev pub taken_within : List StructType → ℕ → Meanings → List s.Declared → List s.Local → s.Stmts → List ℕ
taken_within structs first names parameters locals body =
    locals_taken structs (first + length parameters) (names_behind structs first names parameters) locals
    ++ stmts_taken (function_scope structs first names parameters locals) body

-- ---- the typed parts of a function

pub record Parts : Type 0 where
  pub locals : List Local
  pub body : Stmts U

abbrev pub parts_of : HeldParts → Parts
parts_of x = record { locals = map local_of x.locals.items; body = stmts_of x.body.items }

abbrev pub typed_parts : List StructType → ℕ → Meanings → CType → List s.Declared → List s.Local → s.Stmts → Checked Parts
typed_parts structs first names result parameters locals body = do
  xs ← typed_locals structs (first + length parameters) (names_behind structs first names parameters) locals
  ys ← typed_stmts (body_with (function_scope structs first names parameters locals) result first (is_among (taken_within structs first names parameters locals body))) body
  Ok (record { locals = xs; body = ys })

-- ---- a function and what is declared behind it

pub record Function' : Type 0 where
  pub function : Function U
  pub end : File

abbrev pub with_end : Function U → File → Function'
with_end f end = record { function = f; end = end }

abbrev pub function_and_end : File → s.Function → Parts → Function'
function_and_end file f parts =
    with_end (function_with file f parts.locals parts.body) (after_function file (function_with file f parts.locals parts.body))

-- its parts before what is asked of it as a whole
abbrev pub typed_and_end : File → s.Function → Checked Function'
typed_and_end file f = do
  types ← checked_types file.structs f.header
  parts ← typed_parts file.structs (length file.variables) (declare (code file f.header) file.names) (declared_type file.structs f.header.declared) (parameters_of f.header.parameters) f.locals f.body
  few ← few_parameters file.structs f.header
  same ← asked (agrees (file.names f.header.declared.name.number) (signature_of file.structs f.header)) f.header.declared.name.span.from k.Prototype
  Ok (function_and_end file f parts)

-- ---- an item and what is declared behind it

pub record Step : Type 0 where
  pub item : Item
  pub functions : List (Function U)
  pub end : File

abbrev pub step : Item → List (Function U) → File → Step
step item functions end = record { item = item; functions = functions; end = end }

abbrev pub typed_item : File → s.Item → Checked Step
typed_item file (s.StructItem x) = checked_struct file.structs x >>= λ one. Ok (step (StructItem x) [] (after_struct file x))
typed_item file (s.GlobalItem x) = checked_global file.structs x >>= λ one. Ok (step (GlobalItem x (length file.variables)) [] (after_global file x))
typed_item file (s.PrototypeItem x) = checked_prototype file.structs x.header >>= λ one. Ok (step (PrototypeItem x) [] (after_prototype file x.header))
typed_item file (s.FunctionItem x) = typed_and_end file x >>= λ f. Ok (step (FunctionItem file.functions) (f.function ∷ []) f.end)

abbrev pub step_of : HeldItem × Option (HeldFunction U) → File → Step
step_of x end = step (item_of x.0) (option_list (option_map function_of x.1)) end

abbrev pub items_with : List Item → List (Function U) → File → Items
items_with items functions end = record { items = items; functions = functions; end = end }
