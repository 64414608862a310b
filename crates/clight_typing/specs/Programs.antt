-- Which typed programs are well typed (ISO/IEC 9899:1999, 6.9), as far as names mean what is visible and types are right. Nothing is
-- said of calls that lead back to a function, of addresses and of frames.
use Rattle.std.specs.Prelude.{◌≡◌, ℕ, zero, suc, ◌+◌, Bool, true, false, ◌&&◌, IsTrue, List, [], ◌∷◌, ◌++◌, length, map, nat_eq, codes, Option, Some, None, if◌then◌else◌}
use Rattle.clight_syntax.specs.declared.typed.Home.TheVariants as h
use Rattle.clight_source.specs.Trees.{Global, Header, Prototype}
use Rattle.clight_source.specs.Trees as tree
use Rattle.c_types.specs.Types.{CType, StructType}
use Rattle.clight_syntax.specs.TypedTrees.{Function, Item, StructItem, GlobalItem, PrototypeItem, FunctionItem, Variable', TypedProgram}
use Rattle.clight_names.specs.Spellings.{main_name}
use Rattle.clight_types.specs.Declarations.{declaration_type, struct_type}
use Rattle.clight_types.specs.Scopes.{declare, nothing}
use Rattle.clight_typing.specs.Functions.{File, IsFunction, is_struct, is_global, is_header, object, code, variables_of, function_number}
use Rattle.clight_typing.specs.Sources.{program_source}

-- ---- what is declared behind an item

abbrev pub after_struct : File → tree.Struct → File
after_struct file x = record file { structs = file.structs ++ struct_type file.structs x ∷ [] }

abbrev pub global_variable : File → Global → Variable'
global_variable file x = record {
  name = x.declaration.declared.name;
  type = declaration_type file.structs x.declaration;
  home = h.Global file.globals;
  address = 0;
}

abbrev pub after_global : File → Global → File
after_global file x = record file {
  names = declare (object x.declaration.declared.name (length file.variables) (declaration_type file.structs x.declaration)) file.names;
  variables = file.variables ++ global_variable file x ∷ [];
  globals = suc file.globals;
}

abbrev pub after_prototype : File → Header → File
after_prototype file x = record file { names = declare (code file x) file.names }

abbrev pub after_function : {L : Type 0} → File → Function L → File
after_function file f = record file {
  names = declare (code file f.header) file.names;
  variables = file.variables ++ variables_of file f;
  functions = suc file.functions;
}

-- ---- programs

-- the items are well typed behind what is declared before them, these are the functions that they define, in order, and this is
-- declared behind them
pub data AreItems {L : Type 0} : File → List Item → List (Function L) → File → Type 0 where
  over : {file : File} → AreItems file [] [] file
  a_struct : {file : File} {x : tree.Struct} {items : List Item} {functions : List (Function L)} {end : File} →
      IsTrue (is_struct file.structs x) → AreItems (after_struct file x) items functions end → AreItems file (StructItem x ∷ items) functions end
  a_global : {file : File} {x : Global} {items : List Item} {functions : List (Function L)} {end : File} →
      IsTrue (is_global file.structs x) → AreItems (after_global file x) items functions end
      → AreItems file (GlobalItem x (length file.variables) ∷ items) functions end
  a_prototype : {file : File} {x : Prototype} {items : List Item} {functions : List (Function L)} {end : File} →
      IsTrue (is_header file.structs x.header) → AreItems (after_prototype file x.header) items functions end
      → AreItems file (PrototypeItem x ∷ items) functions end
  a_function : {file : File} {f : Function L} {items : List Item} {functions : List (Function L)} {end : File} →
      IsFunction file f → AreItems (after_function file f) items functions end
      → AreItems file (FunctionItem file.functions ∷ items) (f ∷ functions) end

-- the names of the functions that a source defines, in order
abbrev pub definitions : List tree.Item → List ℕ
definitions [] = []
definitions (tree.FunctionItem f ∷ rest) = f.header.declared.name.number ∷ definitions rest
definitions (item ∷ rest) = definitions rest

-- before the first item
abbrev pub no_file : List ℕ → File
no_file definitions = record { definitions = definitions; structs = []; names = nothing; variables = []; globals = 0; functions = 0 }

-- ---- a whole program

abbrev pub without_address : Variable' → Variable'
without_address x = record x { address = 0 }

-- the variables with no addresses, and no frames
abbrev pub without_layout : {L : Type 0} → TypedProgram L → TypedProgram L
without_layout x = record x { variables = map without_address x.variables; frames = []; data_bytes = 0; calls = [] }

-- what is declared at the program's end
pub record IsWellTyped {L : Type 0} (x : TypedProgram L) : Type 0 where
  pub end : File
  pub items : AreItems (no_file (definitions (program_source x).items)) x.items x.functions end
  pub structs : x.structs ≡ end.structs
  pub variables : map without_address x.variables ≡ end.variables
  pub main : x.main ≡ function_number end.definitions (main_name x.names)
