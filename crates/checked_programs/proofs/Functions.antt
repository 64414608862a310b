-- A well-typed function fits, where what stands around it does.
use Rattle.std.proofs.Common.{◌≡◌, ℕ, zero, suc, ◌+◌, ◌<◌, ◌≤◌, ◌⊎◌, Bool, true, false, not, IsTrue, ◌&&◌, ◌||◌, List, [], ◌∷◌, ◌++◌, length, map, Some, refl, sym, ap, ap₂, subst, ◌∙◌, inl, inr, arith, length-append, eq-eqb}
use Rattle.std.specs.Prelude.{slice_get, nat_eq, nat_le, if◌then◌else◌, Contains}
use Rattle.std.proofs.lemmas.Bool.{false≢true, and_parts, or_cases, leb-true}
use Rattle.std.proofs.lemmas.Option.{none-some, same_Some, slice_get_within}
use Rattle.clight_source.specs.Trees.{Declared}
use Rattle.clight_syntax.specs.declared.typed.Home.{Home}
use Rattle.clight_syntax.specs.declared.typed.Home.TheVariants as h
use Rattle.c_types.specs.declared.integers.Size.TheVariants.{One, Two, Four}
use Rattle.c_types.specs.Types.{CType, Void, Integer, Pointer, Array, Struct, StructType, size_of}
use Rattle.c_types.specs.Kinds.{is_scalar, is_four_bytes}
use Rattle.clight_syntax.specs.Labelling.{function_without, stmts_without}
use Rattle.clight_syntax.specs.TypedTrees.{Local, LocalInitialiser, NoValue, Value, Function, Variable', TypedProgram, own_variables}
use Rattle.clight_types.specs.Scopes.{Signature, Object, Code, Meanings, declare, visible, meaning_of}
use Rattle.clight_types.specs.Declarations.{named_type, declared_type, declaration_type, pointers_to, parameters_of, signature_of}
use Rattle.clight_typing.specs.Statements.{is_own, is_among, stmts_addressed}
use Rattle.clight_typing.specs.Functions.{File, code, names_at_locals, first_local, with_locals, with_local, first_value_addressed, locals_addressed, function_addressed, body_of, IsFunction, is_result, is_result_words, is_void, are_parameters, has_few_parameters, AreLocals, IsFirstValue, Own, parameter_own, local_own, has_block, home_of, variables_from, variables_of, counted}
use Rattle.clight_typing.specs.Programs.{without_address}
use Rattle.clight_layout.specs.declared.sizes.Area.TheVariants.{Frame}
use Rattle.clight_layout.specs.Calls.{stmts_calls}
use Rattle.clight_layout.specs.Frames.{lies_in, room_of, bytes_of}
use Rattle.clight_meaning.specs.Meaning.{variable_type, type_in}
use Rattle.clight_programs.specs.Scopes.{IsShort, IsShortScalar, IsAtHome, IsVariable, scalar_types, function_scalars, AreBetween, IsBetween}
use Rattle.clight_programs.specs.Scopes as q
use Rattle.clight_programs.specs.Expressions.{LivesInRam, IsInRam}
use Rattle.clight_programs.specs.Statements.{Paths, IsScalarIn, IsOwnScalar}
use Rattle.clight_programs.specs.Programs.{InitialiserFits, InitialisersFit, ResultFits, FunctionFits}
use Rattle.call_graph.proofs.Entries.{contains_cases, contains_none}
use Rattle.checked_programs.specs.Named.{AreKnownTags, locals_declared}
use Rattle.checked_programs.proofs.KnownTypes.{is_known, known_later, short, short_scalar}
use Rattle.checked_programs.proofs.Addresses.{AreTaken, taken_first, taken_last}
use Rattle.checked_programs.proofs.TypedExpressions.{typed}
use Rattle.checked_programs.proofs.TypedStatements.{Agrees, statements_fit}
use Rattle.checked_programs.proofs.Structs.{AreLaidStructs, known_contains, size_stays, member_known, one_size, get_front}
use Rattle.checked_programs.proofs.Homes.{Found, find_home, homes_given, type_given, AreLaid}
use Rattle.checked_programs.proofs.OwnNames.{with_owns, parameters_are_owns, locals_are_owns, owns_append, found_own, AreObjects, objects_append, object_at, parameters_are_objects, locals_are_objects, BeginWithScalars, parameters_are_scalars}

-- ---- lists

length_mapped : {A B : Type 0} (g : A → B) (xs : List A) → length (map g xs) ≡ length xs
length_mapped g [] = refl
length_mapped g (x ∷ xs) = ap suc (length_mapped g xs)

get_behind : {A : Type 0} (xs ys : List A) (x : A) → slice_get (xs ++ x ∷ ys) (length xs) ≡ Some x
get_behind [] ys x = refl
get_behind (y ∷ xs) ys x = get_behind xs ys x

-- ---- variables that are given ones but for addresses

abbrev pub AreKnownVariables : List StructType → ℕ → List Variable' → Type 0
AreKnownVariables structs n [] = Unit {0}
AreKnownVariables structs n (x ∷ xs) = IsTrue (is_known n x.type) × (1 ≤ size_of structs x.type) × AreKnownVariables structs n xs

abbrev pub BeginScalars : ℕ → List Variable' → Type 0
BeginScalars zero xs = Unit {0}
BeginScalars (suc m) [] = ⊥
BeginScalars (suc m) (x ∷ xs) = IsTrue (is_scalar x.type) × BeginScalars m xs

pub known_variables : (structs : List StructType) (k : ℕ) (addressed : ℕ → Bool) (n blocks scalars : ℕ) (owns : List Own) (xs : List Variable') → map without_address xs ≡ variables_from addressed n blocks scalars owns → AreObjects structs k owns → AreKnownVariables structs k xs
known_variables structs k addressed n blocks scalars owns [] is are = tt
known_variables structs k addressed n blocks scalars [] (x ∷ xs) is are = absurd cc
known_variables structs k addressed n blocks scalars (o ∷ owns) (x ∷ xs) is are =
    let type : x.type ≡ o.type = ap (λ (v : Variable'). v.type) (first is) in (
      subst (λ T. IsTrue (is_known k T)) (sym type) are.0,
      subst (λ T. 1 ≤ size_of structs T) (sym type) are.1,
      known_variables structs k addressed (suc n) (counted (has_block addressed n o.type) blocks) (counted (is_scalar o.type) scalars) owns xs (rest is) are.2,
    )
  where
    first : map without_address (x ∷ xs) ≡ variables_from addressed n blocks scalars (o ∷ owns) → without_address x ≡ record { name = o.name; type = o.type; home = home_of (has_block addressed n o.type) blocks scalars; address = 0 }
    first e = cc

    rest : map without_address (x ∷ xs) ≡ variables_from addressed n blocks scalars (o ∷ owns) → map without_address xs ≡ variables_from addressed (suc n) (counted (has_block addressed n o.type) blocks) (counted (is_scalar o.type) scalars) owns
    rest e = cc

pub begin_scalars : (m : ℕ) (addressed : ℕ → Bool) (n blocks scalars : ℕ) (owns : List Own) (xs : List Variable') → map without_address xs ≡ variables_from addressed n blocks scalars owns → BeginWithScalars m owns → BeginScalars m xs
begin_scalars zero addressed n blocks scalars owns xs is are = tt
begin_scalars (suc m) addressed n blocks scalars [] xs is are = absurd are
begin_scalars (suc m) addressed n blocks scalars (o ∷ owns) [] is are = absurd cc
begin_scalars (suc m) addressed n blocks scalars (o ∷ owns) (x ∷ xs) is are =
    let type : x.type ≡ o.type = ap (λ (v : Variable'). v.type) (first is) in
    (subst (λ T. IsTrue (is_scalar T)) (sym type) are.0, begin_scalars m addressed (suc n) (counted (has_block addressed n o.type) blocks) (counted (is_scalar o.type) scalars) owns xs (rest is) are.1)
  where
    first : map without_address (x ∷ xs) ≡ variables_from addressed n blocks scalars (o ∷ owns) → without_address x ≡ record { name = o.name; type = o.type; home = home_of (has_block addressed n o.type) blocks scalars; address = 0 }
    first e = cc

    rest : map without_address (x ∷ xs) ≡ variables_from addressed n blocks scalars (o ∷ owns) → map without_address xs ≡ variables_from addressed (suc n) (counted (has_block addressed n o.type) blocks) (counted (is_scalar o.type) scalars) owns
    rest e = cc

-- the scalars among known variables are short
known_scalars : (structs : List StructType) (n : ℕ) (xs : List Variable') → AreKnownVariables structs n xs → (k : ℕ) (T : CType) → slice_get (scalar_types xs) k ≡ Some T → IsShortScalar T
known_scalars structs n [] are k T is = absurd (none-some T is)
known_scalars structs n (x ∷ xs) are k T is = by (is_scalar x.type) refl k is (known_scalars structs n xs are.2)
  where
    by : (s : Bool) → is_scalar x.type ≡ s → (k : ℕ) → slice_get (if s then x.type ∷ scalar_types xs else scalar_types xs) k ≡ Some T → ((k : ℕ) (T : CType) → slice_get (scalar_types xs) k ≡ Some T → IsShortScalar T) → IsShortScalar T
    by true e zero is later = subst IsShortScalar (same_Some _ _ is) (short_scalar n x.type are.0 e)
    by true e (suc k) is later = later k T is
    by false e k is later = later k T is

-- the first of them, where they begin with scalars
first_scalars : (m : ℕ) (xs : List Variable') → BeginScalars m xs → (i : ℕ) → i < m → (x : Variable') × (slice_get xs i ≡ Some x) × (slice_get (scalar_types xs) i ≡ Some x.type)
first_scalars zero xs are i lt = absurd (omega arith)
first_scalars (suc m) [] are i lt = absurd are
first_scalars (suc m) (x ∷ xs) are zero lt = (x, refl, ap (λ (s : Bool). slice_get (if s then x.type ∷ scalar_types xs else scalar_types xs) 0) are.0)
first_scalars (suc m) (x ∷ xs) are (suc i) lt =
    let later = first_scalars m xs are.1 i (omega arith) in
    (later.0, later.1, ap (λ (s : Bool). slice_get (if s then x.type ∷ scalar_types xs else scalar_types xs) (suc i)) are.0 ∙ later.2)

-- ---- frames

-- variables that are laid one after the other are between two addresses
between : (structs : List StructType) (n : ℕ) → AreLaidStructs structs → n ≤ length structs → (at : ℕ) (xs : List Variable') → AreKnownVariables structs n xs → AreLaid Frame structs at xs
    → AreBetween structs at xs (at + bytes_of Frame structs xs)
between structs n laid le at [] known are = omega arith
between structs n laid le at (x ∷ xs) known are = by x.home refl (between structs n laid le (at + room_of Frame structs x) xs known.2 are.1)
  where
    to : ℕ
    to = at + (room_of Frame structs x + bytes_of Frame structs xs)

    by : (home : Home) → x.home ≡ home → AreBetween structs (at + room_of Frame structs x) xs (at + room_of Frame structs x + bytes_of Frame structs xs) → IsBetween structs home x at (λ next. AreBetween structs next xs to)
    by (h.Block b) e rest =
        let lies : IsTrue (lies_in Frame x.home) = ap (lies_in Frame) e in
        let room : room_of Frame structs x ≡ size_of structs x.type = ap (λ (t : Bool). if t then size_of structs x.type else 0) lies in
        let here = are.0 lies in
        let size = one_size structs laid x.type (known_later n (length structs) le x.type known.0) in
        let some = known.1 in
        let next : at + room_of Frame structs x ≡ x.address + q.bytes_of structs x.type = ap₂ (λ a b. a + b) (sym here) (room ∙ sym size) in
        let end : at + room_of Frame structs x + bytes_of Frame structs xs ≡ at + (room_of Frame structs x + bytes_of Frame structs xs) = omega arith in
        (omega arith, subst (λ k. 1 ≤ k) (sym size) some, subst (λ a. AreBetween structs a xs to) next (subst (AreBetween structs (at + room_of Frame structs x) xs) end rest))
    by (h.Global b) e rest =
        let room : room_of Frame structs x ≡ 0 = ap (λ (t : Bool). if t then size_of structs x.type else 0) (ap (lies_in Frame) e) in
        let next : at + room_of Frame structs x ≡ at = omega arith in
        let end : at + room_of Frame structs x + bytes_of Frame structs xs ≡ at + (room_of Frame structs x + bytes_of Frame structs xs) = omega arith in
        subst (λ a. AreBetween structs a xs to) next (subst (AreBetween structs (at + room_of Frame structs x) xs) end rest)
    by (h.Scalar k) e rest =
        let room : room_of Frame structs x ≡ 0 = ap (λ (t : Bool). if t then size_of structs x.type else 0) (ap (lies_in Frame) e) in
        let next : at + room_of Frame structs x ≡ at = omega arith in
        let end : at + room_of Frame structs x + bytes_of Frame structs xs ≡ at + (room_of Frame structs x + bytes_of Frame structs xs) = omega arith in
        subst (λ a. AreBetween structs a xs to) next (subst (AreBetween structs (at + room_of Frame structs x) xs) end rest)

-- ---- results

pub result_fits : (structs : List StructType) (x : Declared) → IsTrue (is_result structs x) → ResultFits (declared_type structs x)
result_fits structs x is =
    let parts = and_parts (is_result_words (named_type structs x.specifiers) x.stars) (is_scalar (declared_type structs x) || is_void (declared_type structs x)) is in
    of_stars x.stars parts.0 (or_cases (is_scalar (pointers_to x.stars (named_type structs x.specifiers))) (is_void (pointers_to x.stars (named_type structs x.specifiers))) parts.1)
  where
    plain : (T : CType) → IsTrue (not (is_four_bytes T)) → IsTrue (is_scalar T) ⊎ IsTrue (is_void T) → ResultFits T
    plain Void four k = tt
    plain (Integer One g) four k = tt
    plain (Integer Two g) four k = tt
    plain (Integer Four g) four k = false≢true four
    plain (Pointer T) four k = tt
    plain (Array T c) four (inl k) = false≢true k
    plain (Array T c) four (inr k) = false≢true k
    plain (Struct number) four (inl k) = false≢true k
    plain (Struct number) four (inr k) = false≢true k

    of_stars : {A : Type 0} (stars : List A) → IsTrue (is_result_words (named_type structs x.specifiers) stars) → IsTrue (is_scalar (pointers_to stars (named_type structs x.specifiers))) ⊎ IsTrue (is_void (pointers_to stars (named_type structs x.specifiers)))
        → ResultFits (pointers_to stars (named_type structs x.specifiers))
    of_stars [] words k = plain (named_type structs x.specifiers) words k
    of_stars (star ∷ stars) words k = tt

-- ---- a function

-- what stands around the function f
pub record Around {L : Type 0} (p : TypedProgram L) (paths : Paths) (n : ℕ) (f : Function L) (file : File) : Type 0 where
  pub more : List StructType
  pub structs : p.structs ≡ file.structs ++ more
  pub laid : AreLaidStructs file.structs
  pub all_laid : AreLaidStructs p.structs
  pub own_is : map without_address (own_variables f p.variables) ≡ variables_of file (function_without f)
  pub own_at : (i : ℕ) (x : Variable') → slice_get (own_variables f p.variables) i ≡ Some x → slice_get p.variables (length file.variables + i) ≡ Some x
  pub globals : (name v : ℕ) (T : CType) → file.names name ≡ Some (Object v T) → IsVariable p f v T × IsTrue (is_known (length file.structs) T) × (v < length file.variables) × IsInRam (slice_get p.variables v)
  pub codes : (name g : ℕ) (x : Signature) → declare (code file f.header) file.names name ≡ Some (Code g x) → Agrees p g x
  pub parameter_tags : AreKnownTags file.structs (length file.structs) (parameters_of f.header.parameters)
  pub local_tags : AreKnownTags file.structs (length file.structs) (locals_declared f.locals)
  pub below : (g : ℕ) → Contains (stmts_calls f.body) g → g < length p.functions → (paths.end n ≤ paths.begin g) × (paths.depth n < paths.depth g)
  pub frame : AreLaid Frame p.structs (paths.begin n) (own_variables f p.variables)
  pub end : paths.end n ≡ paths.begin n + bytes_of Frame p.structs (own_variables f p.variables)
  pub ends : paths.end n ≤ suc p.data_bytes
  pub depth : (1 ≤ paths.depth n) × (paths.depth n ≤ 64)

module _ {L : Type 0} (p : TypedProgram L) (paths : Paths) (n : ℕ) (f : Function L) (file : File) (is : IsFunction file (function_without f)) (around : Around p paths n f file) where
  abbrev S : List StructType
  S = file.structs

  abbrev first : ℕ
  first = length file.variables

  abbrev addressed : ℕ → Bool
  addressed = is_among (function_addressed (function_without f))

  abbrev parameters : List Own
  parameters = map (parameter_own file.structs) (parameters_of f.header.parameters)

  abbrev owns : List Own
  owns = parameters ++ map (local_own file.structs) f.locals

  abbrev names : Meanings
  names = declare (code file f.header) file.names

  abbrev IsKnown : CType → Type 0
  IsKnown T = IsTrue (is_known (length file.structs) T)

  -- ---- own variables

  header : IsTrue (are_parameters file.structs (parameters_of f.header.parameters))
  header =
      let all = and_parts (is_result S f.header.declared) (are_parameters S (parameters_of f.header.parameters) && has_few_parameters S (signature_of S f.header)) is.header in
      (and_parts (are_parameters S (parameters_of f.header.parameters)) (has_few_parameters S (signature_of S f.header)) all.1).0

  objects : AreObjects file.structs (length file.structs) owns
  objects =
      objects_append S (length S) parameters (map (local_own S) f.locals) (parameters_are_objects S (length S) (parameters_of f.header.parameters) around.parameter_tags header)
      (locals_are_objects S (length S) (first_local file f.header) (names_at_locals file f.header) f.locals around.local_tags is.locals)

  at_home : (home : Home) (T : CType) (a : ℕ) → Found (own_variables f p.variables) 0 0 home T a → IsAtHome p f home T a
  at_home (h.Global b) T a found = absurd found
  at_home (h.Block b) T a found = let e : b ≡ found.0 = let e0 = found.1 in omega arith in subst (λ k. IsAtHome p f (h.Block k) T a) (sym e) found.2
  at_home (h.Scalar b) T a found = let e : b ≡ found.0 = let e0 = found.1 in omega arith in subst (λ k. IsAtHome p f (h.Scalar k) T a) (sym e) found.2

  homes : (i : ℕ) (x : Variable') → slice_get (own_variables f p.variables) i ≡ Some x → IsAtHome p f x.home x.type x.address
  homes i x at = at_home x.home x.type x.address (find_home (own_variables f p.variables) 0 0 (homes_given addressed first 0 0 owns (own_variables f p.variables) around.own_is) i x at)

  own_variable : (i : ℕ) (o : Own) → slice_get owns i ≡ Some o → IsVariable p f (first + i) o.type × IsKnown o.type
  own_variable i o at =
      let given = type_given addressed first 0 0 owns (own_variables f p.variables) around.own_is i o at in
      (record { variable = given.0; is = around.own_at i given.0 given.1; typed = given.2; home = homes i given.0 given.1 }, (object_at S (length S) owns objects i o at).0)

  -- ---- scopes

  abbrev AreFront : List Own → Type 0
  AreFront xs = (i : ℕ) (o : Own) → slice_get xs i ≡ Some o → slice_get owns i ≡ Some o

  object_before : (name v : ℕ) (T : CType) → declare (code file f.header) file.names name ≡ Some (Object v T) → file.names name ≡ Some (Object v T)
  object_before name v T e = by (nat_eq f.header.declared.name.number name) e
    where
      by : (b : Bool) → (if b then Some (code file f.header).meaning else file.names name) ≡ Some (Object v T) → file.names name ≡ Some (Object v T)
      by true e = absurd cc
      by false e = e

  variables : (xs : List Own) → AreFront xs → (name v : ℕ) (T : CType) → with_owns first xs names name ≡ Some (Object v T) → IsVariable p f v T × IsKnown T
  variables xs front name v T e = by (found_own first xs names name (Object v T) e)
    where
      by : ((i : ℕ) × (o : Own) × (slice_get xs i ≡ Some o) × (Object v T ≡ Object (first + i) o.type)) ⊎ (names name ≡ Some (Object v T)) → IsVariable p f v T × IsKnown T
      by (inl (i, o, at, same)) =
          let number : v ≡ first + i = cc in
          let type : T ≡ o.type = cc in
          subst (λ k. IsVariable p f k T × IsKnown T) (sym number) (subst (λ U. IsVariable p f (first + i) U × IsKnown U) (sym type) (own_variable i o (front i o at)))
      by (inr e) = let g = around.globals name v T (object_before name v T e) in (g.0, g.1)

  code_of : (xs : List Own) (name g : ℕ) (x : Signature) → with_owns first xs names name ≡ Some (Code g x) → Agrees p g x
  code_of xs name g x e = by (found_own first xs names name (Code g x) e)
    where
      by : ((i : ℕ) × (o : Own) × (slice_get xs i ≡ Some o) × (Code g x ≡ Object (first + i) o.type)) ⊎ (names name ≡ Some (Code g x)) → Agrees p g x
      by (inl (i, o, at, same)) = absurd cc
      by (inr e) = around.codes name g x e

  own_scalar : (name v : ℕ) (T : CType) → with_owns first owns names name ≡ Some (Object v T) → IsTrue (is_own (body_of file (function_without f)) v) → IsTrue (is_scalar T) → IsScalarIn (slice_get p.variables v)
  own_scalar name v T e free scalar = by (found_own first owns names name (Object v T) e)
    where
      parts : IsTrue (nat_le first v) × IsTrue (not (addressed v))
      parts = and_parts (nat_le first v) (not (addressed v)) free

      no_block : (s a : Bool) → IsTrue s → IsTrue (not a) → IsTrue (not (not s || a))
      no_block true a i j = j
      no_block false a i j = absurd (false≢true i)

      by : ((i : ℕ) × (o : Own) × (slice_get owns i ≡ Some o) × (Object v T ≡ Object (first + i) o.type)) ⊎ (names name ≡ Some (Object v T)) → IsScalarIn (slice_get p.variables v)
      by (inl (i, o, at, same)) =
          let number : v ≡ first + i = cc in
          let type : T ≡ o.type = cc in
          let given = type_given addressed first 0 0 owns (own_variables f p.variables) around.own_is i o at in
          let no : IsTrue (not (has_block addressed (first + i) o.type)) = subst (λ k. IsTrue (not (not (is_scalar o.type) || addressed k))) number (no_block (is_scalar o.type) (addressed v) (subst (λ U. IsTrue (is_scalar U)) type scalar) parts.1) in
          let home = given.3 no in
          subst (λ k. IsScalarIn (slice_get p.variables k)) (sym number)
          (subst IsScalarIn (sym (around.own_at i given.0 given.1)) (subst IsOwnScalar (sym home.1) tt))
      by (inr e) =
          let g = around.globals name v T (object_before name v T e) in
          let le = leb-true first v parts.0 in
          let lt = g.2 in
          absurd (omega arith)

  -- a variable that is no scalar, or whose address is taken, is in external RAM
  in_ram : (xs : List Own) → AreFront xs → (name v : ℕ) (T : CType) → with_owns first xs names name ≡ Some (Object v T) → IsTrue (has_block addressed v T) → IsInRam (slice_get p.variables v)
  in_ram xs front name v T e held = by (found_own first xs names name (Object v T) e)
    where
      by : ((i : ℕ) × (o : Own) × (slice_get xs i ≡ Some o) × (Object v T ≡ Object (first + i) o.type)) ⊎ (names name ≡ Some (Object v T)) → IsInRam (slice_get p.variables v)
      by (inl (i, o, at, same)) =
          let number : v ≡ first + i = cc in
          let type : T ≡ o.type = cc in
          let given = type_given addressed first 0 0 owns (own_variables f p.variables) around.own_is i o (front i o at) in
          let home = given.4 (subst (λ k. IsTrue (has_block addressed k o.type)) number (subst (λ U. IsTrue (has_block addressed v U)) type held)) in
          subst (λ k. IsInRam (slice_get p.variables k)) (sym number) (subst IsInRam (sym (around.own_at i given.0 given.1)) (subst LivesInRam (sym home.1) tt))
      by (inr e) = (around.globals name v T (object_before name v T e)).3

  among : (xs : List ℕ) (n : ℕ) → Contains xs n → IsTrue (is_among xs n)
  among [] n there = absurd (contains_none n there)
  among (x ∷ xs) n there = by (nat_eq x n) refl (contains_cases x n xs there) (among xs n)
    where
      by : (b : Bool) → nat_eq x n ≡ b → (x ≡ n) ⊎ Contains xs n → (Contains xs n → IsTrue (is_among xs n)) → IsTrue (elim b [ true ↦ true | false ↦ is_among xs n ])
      by true e c later = refl
      by false e (inl same) later = absurd (false≢true (sym e ∙ eq-eqb x n same))
      by false e (inr c) later = later c

  all_taken : AreTaken addressed (function_addressed (function_without f))
  all_taken = among (function_addressed (function_without f))

  same_size : (T : CType) → IsKnown T → size_of file.structs T ≡ size_of p.structs T
  same_size T k = sym (ap (λ structs. size_of structs T) around.structs ∙ size_stays S around.more T (known_contains (length S) T k))

  -- ---- initialisers

  parameters_end : first_local file f.header ≡ first + length parameters
  parameters_end = ap (λ k. first + k) (sym (length_mapped (parameter_own S) (parameters_of f.header.parameters)))

  initialisers : (done : List Own) (rest : List Local) → done ++ map (local_own file.structs) rest ≡ owns → (v : ℕ) → v ≡ first + length done → (before : Meanings) → before ≡ with_owns first done names → AreLocals file.structs v before rest → AreTaken addressed (locals_addressed rest) → InitialisersFit p f rest v
  initialisers done [] split v at before e are t = tt
  initialisers done (x ∷ rest) split v at before e are t = (
    fits x.initialiser are.1 (taken_first addressed (first_value_addressed x.initialiser) (locals_addressed rest) t),
    initialisers (done ++ local_own S x ∷ []) rest (append_one done (local_own S x) (map (local_own S) rest) ∙ split) (suc v) (let size = length-append done (local_own S x ∷ []) in omega arith) (with_local S v x.declaration before) more are.2 (taken_last addressed (first_value_addressed x.initialiser) (locals_addressed rest) t),
  )
    where
      append_one : (xs : List Own) (y : Own) (ys : List Own) → (xs ++ y ∷ []) ++ ys ≡ xs ++ y ∷ ys
      append_one [] y ys = refl
      append_one (z ∷ xs) y ys = ap (λ zs. z ∷ zs) (append_one xs y ys)

      more : with_local S v x.declaration before ≡ with_owns first (done ++ local_own S x ∷ []) names
      more = ap₂ (λ k ns. with_owns k (local_own S x ∷ []) ns) at e ∙ sym (owns_append first done (local_own S x ∷ []) names)

      front : AreFront (done ++ local_own S x ∷ [])
      front i o is' =
          let w = slice_get_within (done ++ local_own S x ∷ []) i o is' in
          sym (ap (λ zs. slice_get zs i) (append_one done (local_own S x) (map (local_own S) rest) ∙ split)) ∙ get_front (done ++ local_own S x ∷ []) (map (local_own S) rest) i w ∙ is'

      own : IsVariable p f v (declaration_type S x.declaration) × IsKnown (declaration_type S x.declaration)
      own = subst (λ k. IsVariable p f k (declaration_type S x.declaration) × IsKnown (declaration_type S x.declaration)) (sym at) (own_variable (length done) (local_own S x) (sym (ap (λ zs. slice_get zs (length done)) split) ∙ get_behind done (map (local_own S) rest) (local_own S x)))

      type_is : variable_type p v ≡ declaration_type S x.declaration
      type_is = ap type_in own.0.is ∙ own.0.typed

      fits : (init : LocalInitialiser) → IsFirstValue (visible S (with_local S v x.declaration before)) (declaration_type S x.declaration) init → AreTaken addressed (first_value_addressed init) → InitialiserFits p f v init
      fits NoValue k t = tt
      fits (Value equals e') k t = (
        (typed p f (visible S (with_local S v x.declaration before))
            (λ name w T meant. variables (done ++ local_own S x ∷ []) front name w T (sym (ap (λ (ns : Meanings). ns name) more) ∙ meant)) same_size (member_known S around.laid)
            addressed (λ name w T meant. in_ram (done ++ local_own S x ∷ []) front name w T (sym (ap (λ (ns : Meanings). ns name) more) ∙ meant)) e' k.0.0 t).0,
        subst (IsVariable p f v) (sym type_is) own.0,
        subst IsShort (sym type_is) (short (length S) (declaration_type S x.declaration) own.1),
      )

  -- ---- the body

  the_names : with_locals file.structs (first_local file f.header) f.locals (names_at_locals file f.header) ≡ with_owns first owns names
  the_names =
      locals_are_owns S (first_local file f.header) f.locals (names_at_locals file f.header)
      ∙ ap₂ (λ k ns. with_owns k (map (local_own S) f.locals) ns) parameters_end (parameters_are_owns S first (parameters_of f.header.parameters) names)
      ∙ sym (owns_append first parameters (map (local_own S) f.locals) names)

  -- a function that is called in the body
  pub code_in_body : (name g : ℕ) (x : Signature) → meaning_of (body_of file (function_without f)).scope name ≡ Some (Code g x) → Agrees p g x
  code_in_body name g x meant = code_of owns name g x (sym (ap (λ (ns : Meanings). ns name) the_names) ∙ meant)

  pub function_fits : FunctionFits p paths n f
  function_fits =
      let le = let size = ap length around.structs ∙ length-append S around.more in let x : length S ≤ length p.structs = omega arith in x in
      let known = known_variables S (length S) addressed first 0 0 owns (own_variables f p.variables) around.own_is objects in
      record {
        scalars = known_scalars S (length S) (own_variables f p.variables) known;
        parameters = λ i lt.
            let size : f.parameters ≡ length (parameters_of f.header.parameters) = is.parameters in
            let begin = begin_scalars (length (parameters_of f.header.parameters)) addressed first 0 0 owns (own_variables f p.variables) around.own_is (parameters_are_scalars S (parameters_of f.header.parameters) (map (local_own S) f.locals) header) in
            let one = first_scalars (length (parameters_of f.header.parameters)) (own_variables f p.variables) begin i (omega arith) in
            let there : slice_get p.variables (f.first_variable + i) ≡ Some one.0 = ap (λ k. slice_get p.variables (k + i)) is.first_variable ∙ around.own_at i one.0 one.1 in
            one.2 ∙ ap (λ o. Some (type_in o)) (sym there);
        homes = homes;
        result = subst ResultFits (sym is.result) (result_fits S f.header.declared (and_parts (is_result S f.header.declared) (are_parameters S (parameters_of f.header.parameters) && has_few_parameters S (signature_of S f.header)) is.header).0);
        frame = subst (AreBetween p.structs (paths.begin n) (own_variables f p.variables)) (sym around.end)
            (between p.structs (length S) around.all_laid le (paths.begin n) (own_variables f p.variables) (in_all (own_variables f p.variables) known) around.frame);
        ends = around.ends;
        initialisers = initialisers parameters f.locals refl (f.first_variable + f.parameters)
            (ap₂ (λ a b. a + b) is.first_variable (is.parameters ∙ sym (length_mapped (parameter_own S) (parameters_of f.header.parameters))))
            (names_at_locals file f.header) (parameters_are_owns S first (parameters_of f.header.parameters) names)
            (subst (λ k. AreLocals S k (names_at_locals file f.header) f.locals) (sym (ap₂ (λ a b. a + b) is.first_variable is.parameters)) is.locals)
            (taken_first addressed (locals_addressed f.locals) (stmts_addressed (stmts_without f.body)) all_taken);
        body = statements_fit p paths n f (body_of file (function_without f))
            (λ name v T meant. variables owns (λ i o at. at) name v T (sym (ap (λ (ns : Meanings). ns name) the_names) ∙ meant)) same_size (member_known S around.laid)
            (λ name v T meant. own_scalar name v T (sym (ap (λ (ns : Meanings). ns name) the_names) ∙ meant))
            (λ name v T meant. in_ram owns (λ i o at. at) name v T (sym (ap (λ (ns : Meanings). ns name) the_names) ∙ meant))
            code_in_body
            around.below false f.body is.body (taken_last addressed (locals_addressed f.locals) (stmts_addressed (stmts_without f.body)) all_taken) (λ g c. c);
        depth = around.depth;
      }
    where
      in_all : (xs : List Variable') → AreKnownVariables file.structs (length file.structs) xs → AreKnownVariables p.structs (length file.structs) xs
      in_all [] are = tt
      in_all (x ∷ xs) are = (are.0, subst (λ k. 1 ≤ k) (same_size x.type are.0) are.1, in_all xs are.2)
