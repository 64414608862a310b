-- What the numbers of variables stand for in a function: their types, their scalars, and the addresses of their blocks (ISO/IEC
-- 9899:1999, 6.2.1 and 6.2.4; the layout in external RAM is the compiler's own).
use Rattle.std.specs.Prelude.{◌≡◌, ℕ, ◌+◌, ◌≤◌, List, [], ◌∷◌, length, Some, slice_get, Bool, if◌then◌else◌}
use Rattle.c_types.specs.declared.integers.Size.{Size}
use Rattle.c_types.specs.declared.integers.Size.TheVariants.{One, Two, Four}
use Rattle.c_types.specs.Types.{CType, Void, Integer, Pointer, Array, Struct, StructType}
use Rattle.c_types.specs.Kinds.{is_scalar}
use Rattle.clight_syntax.specs.declared.typed.Home.{Home}
use Rattle.clight_syntax.specs.declared.typed.Home.TheVariants as h
use Rattle.clight_syntax.specs.TypedTrees.{Function, Item, StructItem, GlobalItem, PrototypeItem, FunctionItem, Variable', TypedProgram, own_variables, address_at}
use Rattle.clight_values.specs.Memory.{kinds_of}

-- ---- types

-- it is no integer type of four bytes
abbrev pub IsShort : CType → Type 0
IsShort (Integer Four signed) = ⊥
IsShort T = Unit {0}

-- a pointer, or an integer of one or two bytes
abbrev pub IsShortScalar : CType → Type 0
IsShortScalar Void = ⊥
IsShortScalar (Integer One signed) = Unit {0}
IsShortScalar (Integer Two signed) = Unit {0}
IsShortScalar (Integer Four signed) = ⊥
IsShortScalar (Pointer target) = Unit {0}
IsShortScalar (Array element count) = ⊥
IsShortScalar (Struct number) = ⊥

-- an integer type of one or two bytes
pub record IsShortInteger (T : CType) : Type 0 where
  pub size : Size
  pub signed : Bool
  pub is : T ≡ Integer size signed
  pub short : size ≡ Four → ⊥

-- ---- variables by number

-- the types of the scalars among some variables, by their numbers
abbrev pub scalar_types : List Variable' → List CType
scalar_types [] = []
scalar_types (x ∷ xs) = if is_scalar x.type then x.type ∷ scalar_types xs else scalar_types xs

abbrev pub address_in : Home → ℕ → List ℕ → List ℕ
address_in (h.Block b) a more = a ∷ more
address_in (h.Global b) a more = more
address_in (h.Scalar n) a more = more

-- the addresses of the blocks of some variables, by their numbers
abbrev pub block_addresses : List Variable' → List ℕ
block_addresses [] = []
block_addresses (x ∷ xs) = address_in x.home x.address (block_addresses xs)

-- the addresses of the globals, by their numbers
abbrev pub global_addresses : {L : Type 0} → TypedProgram L → List Item → List ℕ
global_addresses p [] = []
global_addresses p (GlobalItem g n ∷ items) = address_at p n ∷ global_addresses p items
global_addresses p (StructItem s ∷ items) = global_addresses p items
global_addresses p (PrototypeItem q ∷ items) = global_addresses p items
global_addresses p (FunctionItem f ∷ items) = global_addresses p items

abbrev pub function_scalars : {L : Type 0} → TypedProgram L → Function L → List CType
function_scalars p f = scalar_types (own_variables f p.variables)

abbrev pub function_blocks : {L : Type 0} → TypedProgram L → Function L → List ℕ
function_blocks p f = block_addresses (own_variables f p.variables)

-- a variable that lives so, of this type and at this address, may be named in the function
abbrev pub IsAtHome : {L : Type 0} → TypedProgram L → Function L → Home → CType → ℕ → Type 0
IsAtHome p f (h.Global b) T a = slice_get (global_addresses p p.items) b ≡ Some a
IsAtHome p f (h.Block b) T a = slice_get (function_blocks p f) b ≡ Some a
IsAtHome p f (h.Scalar n) T a = slice_get (function_scalars p f) n ≡ Some T

-- the variable with this number may be named in the function, and has this type
pub record IsVariable {L : Type 0} (p : TypedProgram L) (f : Function L) (n : ℕ) (T : CType) : Type 0 where
  pub variable : Variable'
  pub is : slice_get p.variables n ≡ Some variable
  pub typed : variable.type ≡ T
  pub home : IsAtHome p f variable.home variable.type variable.address

-- ---- layout

-- how many bytes a variable of this type has
abbrev pub bytes_of : List StructType → CType → ℕ
bytes_of structs T = length (kinds_of structs T)

-- a variable's block is after an address, where it has one, and the rest after its end
abbrev pub IsBetween : List StructType → Home → Variable' → ℕ → (ℕ → Type 0) → Type 0
IsBetween structs (h.Block b) x from Rest = (from ≤ x.address) × (1 ≤ bytes_of structs x.type) × Rest (x.address + bytes_of structs x.type)
IsBetween structs (h.Global b) x from Rest = Rest from
IsBetween structs (h.Scalar n) x from Rest = Rest from

-- the blocks of some variables are one after the other between two addresses, and each has a byte
abbrev pub AreBetween : List StructType → ℕ → List Variable' → ℕ → Type 0
AreBetween structs from [] to = from ≤ to
AreBetween structs from (x ∷ xs) to = IsBetween structs x.home x from (λ next. AreBetween structs next xs to)

-- all scalars in it are short ones
abbrev pub HasShortScalars : List StructType → CType → Type 0
HasShortScalars structs T = (i : ℕ) (U : CType) → slice_get (kinds_of structs T) i ≡ Some (Some U) → IsShortScalar U
