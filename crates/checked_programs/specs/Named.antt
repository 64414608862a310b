-- Names that mean one thing each, as a compiler wants them (ISO/IEC 9899:1999, 6.2.1, 6.2.3 and 5.1.2.2.1): the structs that types name are
-- defined, globals and prototypes declare new names, each function is the first definition of its name, and `main` is `void main(void)`.
use Rattle.std.specs.Prelude.{◌≡◌, ℕ, ◌<◌, IsTrue, List, [], ◌∷◌, length, Some, None, slice_get}
use Rattle.clight_source.specs.declared.tree.Specifiers.{Specifiers}
use Rattle.clight_source.specs.declared.tree.Specifiers.TheVariants as w
use Rattle.clight_source.specs.Trees.{Declared}
use Rattle.c_types.specs.Types.{StructType}
use Rattle.clight_names.specs.Occurrences.{is_plain}
use Rattle.clight_syntax.specs.TypedTrees.{Local, Function, Item, StructItem, GlobalItem, PrototypeItem, FunctionItem, TypedProgram}
use Rattle.clight_types.specs.Declarations.{struct_number, parameters_of}
use Rattle.clight_typing.specs.Functions.{File, function_number}
use Rattle.clight_typing.specs.Programs.{after_struct, after_global, after_prototype, after_function, no_file}

-- a named struct has a number below this one
abbrev pub IsKnownTag : List StructType → ℕ → Specifiers → Type 0
IsKnownTag structs n (w.Struct a tag) = struct_number structs tag.number < n
IsKnownTag structs n words = Unit {0}

-- the tags of these declarations are known
abbrev pub AreKnownTags : List StructType → ℕ → List Declared → Type 0
AreKnownTags structs n [] = Unit {0}
AreKnownTags structs n (x ∷ xs) = IsKnownTag structs n x.specifiers × AreKnownTags structs n xs

abbrev pub locals_declared : List Local → List Declared
locals_declared [] = []
locals_declared (x ∷ ls) = x.declaration.declared ∷ locals_declared ls

-- the names of these items and functions, behind what is declared before them
abbrev pub AreNamed : {L : Type 0} → File → List Item → List (Function L) → Type 0
AreNamed file [] fs = Unit {0}
AreNamed file (StructItem x ∷ items) fs = AreNamed (after_struct file x) items fs
AreNamed file (GlobalItem x n ∷ items) fs =
    IsKnownTag file.structs (length file.structs) x.declaration.declared.specifiers × (file.names x.declaration.declared.name.number ≡ None) × AreNamed (after_global file x) items fs
AreNamed file (PrototypeItem x ∷ items) fs =
    (file.names x.header.declared.name.number ≡ None)
    × (slice_get file.definitions (function_number file.definitions x.header.declared.name.number) ≡ Some x.header.declared.name.number)
    × AreNamed (after_prototype file x.header) items fs
AreNamed file (FunctionItem n ∷ items) [] = ⊥
AreNamed file (FunctionItem n ∷ items) (f ∷ fs) =
    AreKnownTags file.structs (length file.structs) (parameters_of f.header.parameters) × AreKnownTags file.structs (length file.structs) (locals_declared f.locals)
    × (slice_get file.definitions file.functions ≡ Some f.header.declared.name.number) × (function_number file.definitions f.header.declared.name.number ≡ file.functions)
    × AreNamed (after_function file f) items fs

-- the names of a typed program whose source defines functions of these names
pub record HasNames {L : Type 0} (t : TypedProgram L) (definitions : List ℕ) : Type 0 where
  pub named : AreNamed (no_file definitions) t.items t.functions
  pub count : length definitions ≡ length t.functions
  pub main : Function L
  pub main_is : slice_get t.functions t.main ≡ Some main
  pub plain : IsTrue (is_plain main.header)
