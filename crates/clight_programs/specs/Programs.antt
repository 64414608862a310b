-- What a checked program is to a compiler: its functions are typed, its variables have their places in external RAM, and its call paths
-- are short.
use Rattle.std.specs.Prelude.{◌≡◌, ℕ, suc, ◌+◌, ◌<◌, ◌≤◌, List, [], ◌∷◌, Some, slice_get}
use Rattle.c_types.specs.Types.{CType, Void, Integer, Array}
use Rattle.clight_source.specs.Trees.{Initialiser, NoInitialiser, Single, Listed}
use Rattle.clight_syntax.specs.TypedTrees.{Item, StructItem, GlobalItem, PrototypeItem, FunctionItem, LocalInitialiser, NoValue, Value, Local, Function, Variable', TypedProgram, own_variables, address_at}
use Rattle.clight_meaning.specs.Meaning.{variable_type}
use Rattle.clight_programs.specs.Scopes.{IsShort, IsShortScalar, IsAtHome, IsVariable, bytes_of, AreBetween, function_scalars, HasShortScalars}
use Rattle.clight_programs.specs.Expressions.{IsTyped}
use Rattle.clight_programs.specs.Statements.{Paths, StmtsFit}
use Rattle.clight_programs.specs.Formed.{ProgramIsFormed}

-- the initialiser of the local with this number
abbrev pub InitialiserFits : {L : Type 0} → TypedProgram L → Function L → ℕ → LocalInitialiser → Type 0
InitialiserFits p f n NoValue = Unit {0}
InitialiserFits p f n (Value equals e) = IsTyped p f e × IsVariable p f n (variable_type p n) × IsShort (variable_type p n)

-- those of locals that are numbered from here
abbrev pub InitialisersFit : {L : Type 0} → TypedProgram L → Function L → List Local → ℕ → Type 0
InitialisersFit p f [] n = Unit {0}
InitialisersFit p f (l ∷ ls) n = InitialiserFits p f n l.initialiser × InitialisersFit p f ls (suc n)

-- no result, or a short scalar
abbrev pub ResultFits : CType → Type 0
ResultFits Void = Unit {0}
ResultFits T = IsShortScalar T

pub record FunctionFits {L : Type 0} (p : TypedProgram L) (paths : Paths) (h : ℕ) (f : Function L) : Type 0 where
  -- its scalars are short ones
  pub scalars : (k : ℕ) (T : CType) → slice_get (function_scalars p f) k ≡ Some T → IsShortScalar T
  -- its parameters are the first of them
  pub parameters : (i : ℕ) → i < f.parameters → slice_get (function_scalars p f) i ≡ Some (variable_type p (f.first_variable + i))
  pub homes : (i : ℕ) (x : Variable') → slice_get (own_variables f p.variables) i ≡ Some x → IsAtHome p f x.home x.type x.address
  pub result : ResultFits f.result
  pub frame : AreBetween p.structs (paths.begin h) (own_variables f p.variables) (paths.end h)
  pub ends : paths.end h ≤ suc p.data_bytes
  pub initialisers : InitialisersFit p f f.locals (f.first_variable + f.parameters)
  pub body : StmtsFit p paths h f f.body
  pub depth : (1 ≤ paths.depth h) × (paths.depth h ≤ 64)

-- the globals are one after the other between two addresses, and each has a byte
abbrev pub GlobalsAreBetween : {L : Type 0} → TypedProgram L → ℕ → List Item → ℕ → Type 0
GlobalsAreBetween p from [] to = from ≤ to
GlobalsAreBetween p from (GlobalItem g n ∷ items) to =
    (from ≤ address_at p n) × (1 ≤ bytes_of p.structs (variable_type p n)) × GlobalsAreBetween p (address_at p n + bytes_of p.structs (variable_type p n)) items to
GlobalsAreBetween p from (StructItem s ∷ items) to = GlobalsAreBetween p from items to
GlobalsAreBetween p from (PrototypeItem q ∷ items) to = GlobalsAreBetween p from items to
GlobalsAreBetween p from (FunctionItem f ∷ items) to = GlobalsAreBetween p from items to

abbrev pub IsInteger : CType → Type 0
IsInteger (Integer size signed) = Unit {0}
IsInteger T = ⊥

abbrev pub HasIntegers : CType → Type 0
HasIntegers (Array element count) = IsInteger element
HasIntegers T = ⊥

-- a number is for an integer, and a list for an array of integers
abbrev pub TakesInitialiser : CType → Initialiser → Type 0
TakesInitialiser T NoInitialiser = Unit {0}
TakesInitialiser T (Single equals number) = IsInteger T
TakesInitialiser T (Listed equals left earlier last right) = HasIntegers T

-- the globals are of short scalars, and take their initialisers
abbrev pub GlobalsFit : {L : Type 0} → TypedProgram L → List Item → Type 0
GlobalsFit p [] = Unit {0}
GlobalsFit p (GlobalItem g n ∷ items) = HasShortScalars p.structs (variable_type p n) × TakesInitialiser (variable_type p n) g.initialiser × GlobalsFit p items
GlobalsFit p (StructItem s ∷ items) = GlobalsFit p items
GlobalsFit p (PrototypeItem q ∷ items) = GlobalsFit p items
GlobalsFit p (FunctionItem f ∷ items) = GlobalsFit p items

pub record IsChecked {L : Type 0} (p : TypedProgram L) : Type 0 where
  pub paths : Paths
  pub functions : (h : ℕ) (f : Function L) → slice_get p.functions h ≡ Some f → FunctionFits p paths h f
  pub main : Function L
  pub main_is : slice_get p.functions p.main ≡ Some main
  pub main_plain : (main.parameters ≡ 0) × (main.result ≡ Void)
  pub globals : GlobalsAreBetween p 1 p.items (paths.begin p.main)
  pub few_bytes : suc p.data_bytes < 65536
  pub first_values : GlobalsFit p p.items
  pub formed : ProgramIsFormed p
