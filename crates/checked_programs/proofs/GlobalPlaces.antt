-- The globals lie one after the other and take their initialisers.
use Rattle.std.proofs.Common.{◌≡◌, ℕ, zero, suc, ◌+◌, ◌≤◌, Bool, IsTrue, List, [], ◌∷◌, length, map, take, Some, refl, sym, ap, ap₂, subst, ◌∙◌, arith}
use Rattle.std.specs.Prelude.{slice_get, if◌then◌else◌}
use Rattle.std.proofs.lemmas.Bool.{false≢true, and_parts}
use Rattle.std.proofs.lemmas.Option.{none-some, same_Some}
use Rattle.clight_source.specs.Trees.{Initialiser, NoInitialiser, Single, Listed}
use Rattle.clight_syntax.specs.declared.typed.Home.TheVariants as h
use Rattle.c_types.specs.Types.{CType, Void, Integer, Pointer, Array, Struct, StructType, size_of}
use Rattle.c_types.specs.Kinds.{is_integer}
use Rattle.clight_syntax.specs.TypedTrees.{Item, StructItem, GlobalItem, PrototypeItem, FunctionItem, Variable', TypedProgram, variable_address, address_at}
use Rattle.clight_typing.specs.Functions.{takes_initialiser, takes_list}
use Rattle.clight_typing.specs.Programs.{without_address}
use Rattle.clight_layout.specs.declared.sizes.Area.TheVariants.{Globals}
use Rattle.clight_layout.specs.declared.sizes.Area.{Area}
use Rattle.clight_layout.specs.Frames.{lies_in, room_of, bytes_of}
use Rattle.clight_meaning.specs.Meaning.{variable_type, type_in}
use Rattle.clight_programs.specs.Scopes.{global_addresses}
use Rattle.clight_programs.specs.Scopes as q
use Rattle.clight_programs.specs.Programs.{GlobalsAreBetween, IsInteger, HasIntegers, TakesInitialiser, GlobalsFit}
use Rattle.checked_programs.proofs.Structs.{AreLaidStructs, one_size}
use Rattle.checked_programs.proofs.Homes.{AreLaid}
use Rattle.checked_programs.proofs.ShortKinds.{has_short}
use Rattle.checked_programs.proofs.FileWalks.{globals_of}
use Rattle.checked_programs.proofs.Visits.{AreGlobalsHere}

-- ---- variables but for addresses

pub get_mapped : (xs ys : List Variable') → map without_address xs ≡ ys → (i : ℕ) (y : Variable') → slice_get ys i ≡ Some y → (x : Variable') × (slice_get xs i ≡ Some x) × (without_address x ≡ y)
get_mapped [] [] e i y is = absurd (none-some y is)
get_mapped [] (z ∷ ys) e i y is = absurd cc
get_mapped (x ∷ xs) [] e i y is = absurd cc
get_mapped (x ∷ xs) (z ∷ ys) e zero y is = (x, refl, first e ∙ same_Some _ _ is)
  where
    first : without_address x ∷ map without_address xs ≡ z ∷ ys → without_address x ≡ z
    first e = cc
get_mapped (x ∷ xs) (z ∷ ys) e (suc i) y is = get_mapped xs ys (rest e) i y is
  where
    rest : without_address x ∷ map without_address xs ≡ z ∷ ys → map without_address xs ≡ ys
    rest e = cc

pub bytes_same : (area : Area) (structs : List StructType) (xs ys : List Variable') → map without_address xs ≡ map without_address ys → bytes_of area structs xs ≡ bytes_of area structs ys
bytes_same area structs [] [] e = refl
bytes_same area structs [] (y ∷ ys) e = absurd cc
bytes_same area structs (x ∷ xs) [] e = absurd cc
bytes_same area structs (x ∷ xs) (y ∷ ys) e = ap₂ (λ a b. a + b) (ap (λ (v : Variable'). room_of area structs v) (first e)) (bytes_same area structs xs ys (rest e))
  where
    first : without_address x ∷ map without_address xs ≡ without_address y ∷ map without_address ys → without_address x ≡ without_address y
    first e = cc

    rest : without_address x ∷ map without_address xs ≡ without_address y ∷ map without_address ys → map without_address xs ≡ map without_address ys
    rest e = cc

-- ---- addresses

-- a variable's address is the area's begin and the bytes of those before
address_is : (area : Area) (structs : List StructType) (at : ℕ) (xs : List Variable') → AreLaid area structs at xs → (n : ℕ) (x : Variable') → slice_get xs n ≡ Some x → IsTrue (lies_in area x.home) → x.address ≡ at + bytes_of area structs (take n xs)
address_is area structs at [] are n x is lies = absurd (none-some x is)
address_is area structs at (y ∷ xs) are zero x is lies =
    let same = same_Some _ _ is in
    let here = are.0 (subst (λ (v : Variable'). IsTrue (lies_in area v.home)) (sym same) lies) in
    let e = ap (λ (v : Variable'). v.address) same in
    omega arith
address_is area structs at (y ∷ xs) are (suc n) x is lies =
    let later = address_is area structs (at + room_of area structs y) xs are.1 n x is lies in
    omega arith

-- those of one more
bytes_next : (area : Area) (structs : List StructType) (xs : List Variable') (n : ℕ) (x : Variable') → slice_get xs n ≡ Some x → bytes_of area structs (take (suc n) xs) ≡ bytes_of area structs (take n xs) + room_of area structs x
bytes_next area structs [] n x is = absurd (none-some x is)
bytes_next area structs (y ∷ xs) zero x is = let e = ap (λ (v : Variable'). room_of area structs v) (same_Some _ _ is) in omega arith
bytes_next area structs (y ∷ xs) (suc n) x is = let later = bytes_next area structs xs n x is in omega arith

bytes_rise : (area : Area) (structs : List StructType) (xs : List Variable') (n m : ℕ) → n ≤ m → bytes_of area structs (take n xs) ≤ bytes_of area structs (take m xs)
bytes_rise area structs xs zero m le = omega arith
bytes_rise area structs [] (suc n) zero le = omega arith
bytes_rise area structs [] (suc n) (suc m) le = omega arith
bytes_rise area structs (x ∷ xs) (suc n) zero le = absurd (omega arith)
bytes_rise area structs (x ∷ xs) (suc n) (suc m) le = let later = bytes_rise area structs xs n m (omega arith) in omega arith

bytes_within : (area : Area) (structs : List StructType) (xs : List Variable') (n : ℕ) → bytes_of area structs (take n xs) ≤ bytes_of area structs xs
bytes_within area structs xs zero = omega arith
bytes_within area structs [] (suc n) = omega arith
bytes_within area structs (x ∷ xs) (suc n) = let later = bytes_within area structs xs n in omega arith

-- ---- the globals of a program

takes : (T : CType) (x : Initialiser) → IsTrue (takes_initialiser T x) → TakesInitialiser T x
takes T NoInitialiser is = tt
takes T (Single equals number) is = integer T is
  where
    integer : (T : CType) → IsTrue (is_integer T) → IsInteger T
    integer (Integer s g) i = tt
    integer Void i = false≢true i
    integer (Pointer U) i = false≢true i
    integer (Array U c) i = false≢true i
    integer (Struct n) i = false≢true i
takes T (Listed equals left earlier last right) is = list T is
  where
    integer : (T : CType) → IsTrue (is_integer T) → IsInteger T
    integer (Integer s g) i = tt
    integer Void i = false≢true i
    integer (Pointer U) i = false≢true i
    integer (Array U c) i = false≢true i
    integer (Struct n) i = false≢true i

    list : (T : CType) → IsTrue (takes_list T (suc (length earlier))) → HasIntegers T
    list (Array U c) i = integer U (and_parts (is_integer U) _ i).0
    list Void i = false≢true i
    list (Integer s g) i = false≢true i
    list (Pointer U) i = false≢true i
    list (Struct n) i = false≢true i

module _ {L : Type 0} (p : TypedProgram L) (variables : List Variable') (same : map without_address p.variables ≡ variables) (laid : AreLaidStructs p.structs) where
  pub address_of_global : (items : List Item) (b n : ℕ) → slice_get (globals_of items) b ≡ Some n → slice_get (global_addresses p items) b ≡ Some (address_at p n)
  address_of_global [] b n is = absurd (none-some n is)
  address_of_global (GlobalItem x m ∷ items) zero n is = ap (λ k. Some (address_at p k)) (same_Some _ _ is)
  address_of_global (GlobalItem x m ∷ items) (suc b) n is = address_of_global items b n is
  address_of_global (StructItem x ∷ items) b n is = address_of_global items b n is
  address_of_global (PrototypeItem x ∷ items) b n is = address_of_global items b n is
  address_of_global (FunctionItem f ∷ items) b n is = address_of_global items b n is

  pub globals_fit : (blocks low : ℕ) (items : List Item) → AreGlobalsHere p.structs variables blocks low items → GlobalsFit p items
  globals_fit blocks low [] are = tt
  globals_fit blocks low (GlobalItem x n ∷ items) are =
      let here = are.1 in
      let at = get_mapped p.variables variables same n here.variable here.is in
      let type : variable_type p n ≡ here.variable.type = ap type_in at.1 ∙ ap (λ (v : Variable'). v.type) at.2 in (
        subst (q.HasShortScalars p.structs) (sym type) (has_short p.structs laid here.variable.type here.known),
        subst (λ T. TakesInitialiser T x.initialiser) (sym type) (takes here.variable.type x.initialiser here.takes),
        globals_fit (suc blocks) (suc n) items are.2,
      )
  globals_fit blocks low (StructItem x ∷ items) are = globals_fit blocks low items are
  globals_fit blocks low (PrototypeItem x ∷ items) are = globals_fit blocks low items are
  globals_fit blocks low (FunctionItem f ∷ items) are = globals_fit blocks low items are

  pub globals_between : AreLaid Globals p.structs 1 p.variables → (to : ℕ) → 1 + bytes_of Globals p.structs p.variables ≤ to → (from blocks low : ℕ) → from ≤ 1 + bytes_of Globals p.structs (take low p.variables) → (items : List Item)
      → AreGlobalsHere p.structs variables blocks low items → GlobalsAreBetween p from items to
  globals_between placed to le from blocks low begins [] are = let w = bytes_within Globals p.structs p.variables low in omega arith
  globals_between placed to le from blocks low begins (GlobalItem x n ∷ items) are =
      let here = are.1 in
      let at = get_mapped p.variables variables same n here.variable here.is in
      let type : variable_type p n ≡ here.variable.type = ap type_in at.1 ∙ ap (λ (v : Variable'). v.type) at.2 in
      let home : at.0.home ≡ h.Global blocks = ap (λ (v : Variable'). v.home) at.2 ∙ here.home in
      let lies : IsTrue (lies_in Globals at.0.home) = ap (lies_in Globals) home in
      let address : address_at p n ≡ 1 + bytes_of Globals p.structs (take n p.variables) = ap variable_address at.1 ∙ address_is Globals p.structs 1 p.variables placed n at.0 at.1 lies in
      let rise = bytes_rise Globals p.structs p.variables low n are.0 in
      let size : q.bytes_of p.structs (variable_type p n) ≡ size_of p.structs here.variable.type = ap (q.bytes_of p.structs) type ∙ one_size p.structs laid here.variable.type here.known in
      let room : room_of Globals p.structs at.0 ≡ size_of p.structs here.variable.type =
      ap (λ (t : Bool). if t then size_of p.structs at.0.type else 0) lies ∙ ap (λ (v : Variable'). size_of p.structs v.type) at.2
      in
      let next = bytes_next Globals p.structs p.variables n at.0 at.1 in
      let some = here.some in
      (omega arith, omega arith, globals_between placed to le (address_at p n + q.bytes_of p.structs (variable_type p n)) (suc blocks) (suc n) (omega arith) items are.2)
  globals_between placed to le from blocks low begins (StructItem x ∷ items) are = globals_between placed to le from blocks low begins items are
  globals_between placed to le from blocks low begins (PrototypeItem x ∷ items) are = globals_between placed to le from blocks low begins items are
  globals_between placed to le from blocks low begins (FunctionItem f ∷ items) are = globals_between placed to le from blocks low begins items are
