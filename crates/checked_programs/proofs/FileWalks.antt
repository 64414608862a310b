-- What is declared before each function of a program, and that it stays.
use Rattle.std.proofs.Common.{◌≡◌, ℕ, suc, Bool, true, false, IsTrue, ◌&&◌, List, [], ◌∷◌, ◌++◌, length, Option, Some, None, refl, sym, ap, ap₂, subst, ◌∙◌, arith, length-append, append_assoc, append-nil}
use Rattle.std.specs.Prelude.{slice_get, nat_eq, if◌then◌else◌}
use Rattle.std.proofs.lemmas.Bool.{false≢true, and_parts, eqb-true}
use Rattle.std.proofs.lemmas.Option.{none-some, slice_get_within}
use Rattle.clight_source.specs.Trees.{Global, Header, Prototype, Declared}
use Rattle.clight_source.specs.Trees as tree
use Rattle.clight_syntax.specs.declared.typed.Home.TheVariants as h
use Rattle.c_types.specs.Types.{CType, Void, Integer, Pointer, Array, Struct, StructType, type_eq}
use Rattle.c_types.specs.Kinds.{is_scalar}
use Rattle.clight_syntax.specs.TypedTrees.{Function, Item, StructItem, GlobalItem, PrototypeItem, FunctionItem, Variable'}
use Rattle.clight_types.specs.Scopes.{Signature, Meaning, Object, Code, declare}
use Rattle.clight_types.specs.Declarations.{declaration_type, signature_of, struct_type, types_eq}
use Rattle.clight_typing.specs.Functions.{File, is_struct, is_global, is_declaration, code, function_number, agrees, signature_eq, variables_of, has_numbers, takes_initialiser}
use Rattle.clight_typing.specs.Programs.{after_struct, after_global, after_prototype, after_function, global_variable}
use Rattle.checked_programs.proofs.KnownTypes.{is_known, known_later}
use Rattle.checked_programs.proofs.Structs.{AreLaidStructs, one_struct_more, struct_laid, declaration_known, get_front, get_last}
use Rattle.checked_programs.specs.Named.{IsKnownTag}

-- ---- globals

-- the numbers of the globals, in the order of the text
abbrev pub globals_of : List Item → List ℕ
globals_of [] = []
globals_of (GlobalItem x n ∷ items) = n ∷ globals_of items
globals_of (StructItem x ∷ items) = globals_of items
globals_of (PrototypeItem x ∷ items) = globals_of items
globals_of (FunctionItem f ∷ items) = globals_of items

pub globals_append : (xs ys : List Item) → globals_of (xs ++ ys) ≡ globals_of xs ++ globals_of ys
globals_append [] ys = refl
globals_append (GlobalItem x n ∷ xs) ys = ap (λ ns. n ∷ ns) (globals_append xs ys)
globals_append (StructItem x ∷ xs) ys = globals_append xs ys
globals_append (PrototypeItem x ∷ xs) ys = globals_append xs ys
globals_append (FunctionItem f ∷ xs) ys = globals_append xs ys

-- ---- the same shape of signatures

pub record SameShape (x y : Signature) : Type 0 where
  pub scalar : is_scalar x.result ≡ is_scalar y.result
  pub count : length x.parameters ≡ length y.parameters

pub shape_itself : (x : Signature) → SameShape x x
shape_itself x = record { scalar = refl; count = refl }

pub shape_then : (x y z : Signature) → SameShape x y → SameShape y z → SameShape x z
shape_then x y z a b = record { scalar = a.scalar ∙ b.scalar; count = a.count ∙ b.count }

same_kind : (S T : CType) → IsTrue (type_eq S T) → is_scalar S ≡ is_scalar T
same_kind Void Void e = refl
same_kind (Integer s g) (Integer t i) e = refl
same_kind (Pointer S) (Pointer T) e = refl
same_kind (Array S c) (Array T d) e = refl
same_kind (Struct m) (Struct n) e = refl
same_kind Void (Integer t i) e = absurd (false≢true e)
same_kind Void (Pointer T) e = absurd (false≢true e)
same_kind Void (Array T d) e = absurd (false≢true e)
same_kind Void (Struct n) e = absurd (false≢true e)
same_kind (Integer s g) Void e = absurd (false≢true e)
same_kind (Integer s g) (Pointer T) e = absurd (false≢true e)
same_kind (Integer s g) (Array T d) e = absurd (false≢true e)
same_kind (Integer s g) (Struct n) e = absurd (false≢true e)
same_kind (Pointer S) Void e = absurd (false≢true e)
same_kind (Pointer S) (Integer t i) e = absurd (false≢true e)
same_kind (Pointer S) (Array T d) e = absurd (false≢true e)
same_kind (Pointer S) (Struct n) e = absurd (false≢true e)
same_kind (Array S c) Void e = absurd (false≢true e)
same_kind (Array S c) (Integer t i) e = absurd (false≢true e)
same_kind (Array S c) (Pointer T) e = absurd (false≢true e)
same_kind (Array S c) (Struct n) e = absurd (false≢true e)
same_kind (Struct m) Void e = absurd (false≢true e)
same_kind (Struct m) (Integer t i) e = absurd (false≢true e)
same_kind (Struct m) (Pointer T) e = absurd (false≢true e)
same_kind (Struct m) (Array T d) e = absurd (false≢true e)

same_count : (xs ys : List CType) → IsTrue (types_eq xs ys) → length xs ≡ length ys
same_count [] [] e = refl
same_count (x ∷ xs) (y ∷ ys) e = ap suc (same_count xs ys (and_parts (type_eq x y) (types_eq xs ys) e).1)
same_count [] (y ∷ ys) e = absurd (false≢true e)
same_count (x ∷ xs) [] e = absurd (false≢true e)

same_signature : (x y : Signature) → IsTrue (signature_eq x y) → SameShape x y
same_signature x y e =
    let parts = and_parts (type_eq x.result y.result) (types_eq x.parameters y.parameters) e in
    record { scalar = same_kind x.result y.result parts.0; count = same_count x.parameters y.parameters parts.1 }

-- ---- what is declared

pub record IsDeclared (file : File) (done : List Item) (n : ℕ) (T : CType) : Type 0 where
  pub variable : Variable'
  pub is : slice_get file.variables n ≡ Some variable
  pub type : variable.type ≡ T
  pub block : ℕ
  pub home : variable.home ≡ h.Global block
  pub number : slice_get (globals_of done) block ≡ Some n
  pub known : IsTrue (is_known (length file.structs) T)

-- what holds of the declarations of these items
pub record AreFine (file : File) (done : List Item) : Type 0 where
  pub laid : AreLaidStructs file.structs
  pub count : file.globals ≡ length (globals_of done)
  pub objects : (name n : ℕ) (T : CType) → file.names name ≡ Some (Object n T) → IsDeclared file done n T
  pub codes : (name g : ℕ) (x : Signature) → file.names name ≡ Some (Code g x) → (slice_get file.definitions g ≡ Some name) × (g ≡ function_number file.definitions name)

-- the lists grow at their ends
pub record Grows (file later : File) : Type 0 where
  pub structs : List StructType
  pub structs_are : later.structs ≡ file.structs ++ structs
  pub variables : List Variable'
  pub variables_are : later.variables ≡ file.variables ++ variables
  pub definitions : later.definitions ≡ file.definitions

-- functions keep their numbers and their shapes
abbrev pub Stays : File → File → Type 0
Stays file later = (name g : ℕ) (x : Signature) → file.names name ≡ Some (Code g x) → (y : Signature) × (later.names name ≡ Some (Code g y)) × SameShape x y

pub grows_itself : (file : File) → Grows file file
grows_itself file = record { structs = []; structs_are = sym (append-nil file.structs); variables = []; variables_are = sym (append-nil file.variables); definitions = refl }

pub grows_then : (a b c : File) → Grows a b → Grows b c → Grows a c
grows_then a b c x y = record {
  structs = x.structs ++ y.structs;
  structs_are = y.structs_are ∙ ap (λ l. l ++ y.structs) x.structs_are ∙ append_assoc a.structs x.structs y.structs;
  variables = x.variables ++ y.variables;
  variables_are = y.variables_are ∙ ap (λ l. l ++ y.variables) x.variables_are ∙ append_assoc a.variables x.variables y.variables;
  definitions = y.definitions ∙ x.definitions;
}

pub stays_itself : (file : File) → Stays file file
stays_itself file name g x is = (x, is, shape_itself x)

pub stays_then : (a b c : File) → Stays a b → Stays b c → Stays a c
stays_then a b c x y name g s is =
    let one = x name g s is in
    let two = y name g one.0 one.1 in
    (two.0, two.1, shape_then s one.0 two.0 one.2 two.2)

-- a name that isn't the new one keeps its meaning
kept : (b : Bool) (m : Meaning) (old : Option Meaning) → b ≡ false → (if b then Some m else old) ≡ old
kept b m old e = ap (λ t. if t then Some m else old) e

-- ---- one item more

module _ (file : File) (done : List Item) (fine : AreFine file done) where
  pub struct_fine : (x : tree.Struct) → IsTrue (is_struct file.structs x) → AreFine (after_struct file x) (done ++ StructItem x ∷ [])
  struct_fine x is =
      let same : globals_of (done ++ StructItem x ∷ []) ≡ globals_of done = globals_append done (StructItem x ∷ []) ∙ append-nil (globals_of done) in
      let size = length-append file.structs (struct_type file.structs x ∷ []) in
      record {
        laid = one_struct_more file.structs (struct_type file.structs x) fine.laid (struct_laid file.structs x is);
        count = fine.count ∙ ap length (sym same);
        objects = λ name n T e.
            let d = fine.objects name n T e in
            record {
              variable = d.variable;
              is = d.is;
              type = d.type;
              block = d.block;
              home = d.home;
              number = ap (λ l. slice_get l d.block) same ∙ d.number;
              known = known_later (length file.structs) (length (file.structs ++ struct_type file.structs x ∷ [])) (omega arith) T d.known;
            };
        codes = fine.codes;
      }

  pub struct_grows : (x : tree.Struct) → Grows file (after_struct file x)
  struct_grows x = record { structs = struct_type file.structs x ∷ []; structs_are = refl; variables = []; variables_are = sym (append-nil file.variables); definitions = refl }

  pub global_fine : (x : Global) → IsTrue (is_global file.structs x) → IsKnownTag file.structs (length file.structs) x.declaration.declared.specifiers → AreFine (after_global file x) (done ++ GlobalItem x (length file.variables) ∷ [])
  global_fine x is tag =
      let same : globals_of (done ++ GlobalItem x (length file.variables) ∷ []) ≡ globals_of done ++ length file.variables ∷ [] = globals_append done (GlobalItem x (length file.variables) ∷ []) in
      let one = length-append (globals_of done) (length file.variables ∷ []) in
      let count = fine.count in
      let total = ap length same in
      record {
        laid = fine.laid;
        count = omega arith;
        objects = λ name n T e. by name n T same (nat_eq x.declaration.declared.name.number name) e;
        codes = λ name g s e. of_code name g s (nat_eq x.declaration.declared.name.number name) e;
      }
    where
      T0 : CType
      T0 = declaration_type file.structs x.declaration

      of_code : (name g : ℕ) (s : Signature) (b : Bool) → (if b then Some (Object (length file.variables) T0) else file.names name) ≡ Some (Code g s) → (slice_get file.definitions g ≡ Some name) × (g ≡ function_number file.definitions name)
      of_code name g s true e = absurd cc
      of_code name g s false e = fine.codes name g s e

      by : (name n : ℕ) (T : CType) → globals_of (done ++ GlobalItem x (length file.variables) ∷ []) ≡ globals_of done ++ length file.variables ∷ [] → (b : Bool)
          → (if b then Some (Object (length file.variables) T0) else file.names name) ≡ Some (Object n T) → IsDeclared (after_global file x) (done ++ GlobalItem x (length file.variables) ∷ []) n T
      by name n T same true e =
          let number : length file.variables ≡ n = cc in
          let type : T0 ≡ T = cc in
          let known = (declaration_known file.structs (length file.structs) x.declaration tag (and_parts (is_declaration file.structs x.declaration) (has_numbers x.initialiser && takes_initialiser T0 x.initialiser) is).0).0 in
          record {
            variable = global_variable file x;
            is = ap (slice_get (file.variables ++ global_variable file x ∷ [])) (sym number) ∙ get_last file.variables (global_variable file x);
            type = type;
            block = file.globals;
            home = refl;
            number = ap₂ (λ l k. slice_get l k) same fine.count ∙ get_last (globals_of done) (length file.variables) ∙ ap Some number;
            known = subst (λ U. IsTrue (is_known (length file.structs) U)) type known;
          }
      by name n T same false e =
          let d = fine.objects name n T e in
          let w = slice_get_within file.variables n d.variable d.is in
          let v = slice_get_within (globals_of done) d.block n d.number in
          record {
            variable = d.variable;
            is = get_front file.variables (global_variable file x ∷ []) n w ∙ d.is;
            type = d.type;
            block = d.block;
            home = d.home;
            number = ap (λ l. slice_get l d.block) same ∙ get_front (globals_of done) (length file.variables ∷ []) d.block v ∙ d.number;
            known = d.known;
          }

  pub global_grows : (x : Global) → Grows file (after_global file x)
  global_grows x = record { structs = []; structs_are = sym (append-nil file.structs); variables = global_variable file x ∷ []; variables_are = refl; definitions = refl }

  pub global_stays : (x : Global) → file.names x.declaration.declared.name.number ≡ None → Stays file (after_global file x)
  global_stays x new name g s is = by (nat_eq x.declaration.declared.name.number name) refl
    where
      by : (b : Bool) → nat_eq x.declaration.declared.name.number name ≡ b → (y : Signature) × ((after_global file x).names name ≡ Some (Code g y)) × SameShape s y
      by true e = absurd (none-some (Code g s) (sym new ∙ ap file.names (eqb-true x.declaration.declared.name.number name e) ∙ is))
      by false e = (s, kept (nat_eq x.declaration.declared.name.number name) _ (file.names name) e ∙ is, shape_itself s)

  -- a function is declared
  code_objects : (x : Header) (name n : ℕ) (T : CType) → declare (code file x) file.names name ≡ Some (Object n T) → file.names name ≡ Some (Object n T)
  code_objects x name n T e = by (nat_eq x.declared.name.number name) e
    where
      by : (b : Bool) → (if b then Some (Code (function_number file.definitions x.declared.name.number) (signature_of file.structs x)) else file.names name) ≡ Some (Object n T) → file.names name ≡ Some (Object n T)
      by true e = absurd cc
      by false e = e

  code_codes : (x : Header) → slice_get file.definitions (function_number file.definitions x.declared.name.number) ≡ Some x.declared.name.number → (name g : ℕ) (s : Signature) → declare (code file x) file.names name ≡ Some (Code g s) → (slice_get file.definitions g ≡ Some name) × (g ≡ function_number file.definitions name)
  code_codes x there name g s e = by (nat_eq x.declared.name.number name) refl e
    where
      by : (b : Bool) → nat_eq x.declared.name.number name ≡ b → (if b then Some (Code (function_number file.definitions x.declared.name.number) (signature_of file.structs x)) else file.names name) ≡ Some (Code g s) → (slice_get file.definitions g ≡ Some name) × (g ≡ function_number file.definitions name)
      by true same e =
          let number : function_number file.definitions x.declared.name.number ≡ g = cc in
          let name_is = eqb-true x.declared.name.number name same in
          (ap (slice_get file.definitions) (sym number) ∙ there ∙ ap Some name_is, sym number ∙ ap (function_number file.definitions) name_is)
      by false same e = fine.codes name g s e

  pub prototype_fine : (x : Prototype) → slice_get file.definitions (function_number file.definitions x.header.declared.name.number) ≡ Some x.header.declared.name.number → AreFine (after_prototype file x.header) (done ++ PrototypeItem x ∷ [])
  prototype_fine x there =
      let same : globals_of (done ++ PrototypeItem x ∷ []) ≡ globals_of done = globals_append done (PrototypeItem x ∷ []) ∙ append-nil (globals_of done) in
      record {
        laid = fine.laid;
        count = fine.count ∙ ap length (sym same);
        objects = λ name n T e.
            let d = fine.objects name n T (code_objects x.header name n T e) in
            record { variable = d.variable; is = d.is; type = d.type; block = d.block; home = d.home; number = ap (λ l. slice_get l d.block) same ∙ d.number; known = d.known };
        codes = code_codes x.header there;
      }

  pub prototype_grows : (x : Prototype) → Grows file (after_prototype file x.header)
  prototype_grows x = record { structs = []; structs_are = sym (append-nil file.structs); variables = []; variables_are = sym (append-nil file.variables); definitions = refl }

  pub prototype_stays : (x : Prototype) → file.names x.header.declared.name.number ≡ None → Stays file (after_prototype file x.header)
  prototype_stays x new name g s is = by (nat_eq x.header.declared.name.number name) refl
    where
      by : (b : Bool) → nat_eq x.header.declared.name.number name ≡ b → (y : Signature) × ((after_prototype file x.header).names name ≡ Some (Code g y)) × SameShape s y
      by true e = absurd (none-some (Code g s) (sym new ∙ ap file.names (eqb-true x.header.declared.name.number name e) ∙ is))
      by false e = (s, kept (nat_eq x.header.declared.name.number name) _ (file.names name) e ∙ is, shape_itself s)

  pub function_fine : {L : Type 0} (n : ℕ) (f : Function L) → slice_get file.definitions file.functions ≡ Some f.header.declared.name.number → function_number file.definitions f.header.declared.name.number ≡ file.functions
      → AreFine (after_function file f) (done ++ FunctionItem n ∷ [])
  function_fine n f there number =
      let same : globals_of (done ++ FunctionItem n ∷ []) ≡ globals_of done = globals_append done (FunctionItem n ∷ []) ∙ append-nil (globals_of done) in
      record {
        laid = fine.laid;
        count = fine.count ∙ ap length (sym same);
        objects = λ name v T e.
            let d = fine.objects name v T (code_objects f.header name v T e) in
            let w = slice_get_within file.variables v d.variable d.is in
            record { variable = d.variable; is = get_front file.variables (variables_of file f) v w ∙ d.is; type = d.type; block = d.block; home = d.home; number = ap (λ l. slice_get l d.block) same ∙ d.number; known = d.known };
        codes = code_codes f.header (ap (slice_get file.definitions) number ∙ there);
      }

  pub function_grows : {L : Type 0} (f : Function L) → Grows file (after_function file f)
  function_grows f = record { structs = []; structs_are = sym (append-nil file.structs); variables = variables_of file f; variables_are = refl; definitions = refl }

  pub function_stays : {L : Type 0} (f : Function L) → IsTrue (agrees (file.names f.header.declared.name.number) (signature_of file.structs f.header))
      → slice_get file.definitions file.functions ≡ Some f.header.declared.name.number → function_number file.definitions f.header.declared.name.number ≡ file.functions
      → Stays file (after_function file f)
  function_stays f agree there number name g s is = by (nat_eq f.header.declared.name.number name) refl
    where
      agreed : (m : Option Meaning) → m ≡ Some (Code g s) → IsTrue (agrees m (signature_of file.structs f.header)) → SameShape s (signature_of file.structs f.header)
      agreed m e k = same_signature s (signature_of file.structs f.header) (subst (λ o. IsTrue (agrees o (signature_of file.structs f.header))) e k)

      by : (b : Bool) → nat_eq f.header.declared.name.number name ≡ b → (y : Signature) × ((after_function file f).names name ≡ Some (Code g y)) × SameShape s y
      by true e =
          let same = eqb-true f.header.declared.name.number name e in
          let code_is : (after_function file f).names name ≡ Some (Code (function_number file.definitions f.header.declared.name.number) (signature_of file.structs f.header)) = ap (λ (t : Bool). if t then Some (Code (function_number file.definitions f.header.declared.name.number) (signature_of file.structs f.header)) else file.names name) e in
          let g_is : function_number file.definitions f.header.declared.name.number ≡ g = ap (function_number file.definitions) same ∙ sym (fine.codes name g s is).1 in
          (signature_of file.structs f.header, code_is ∙ ap (λ k. Some (Code k (signature_of file.structs f.header))) g_is, agreed (file.names f.header.declared.name.number) (ap file.names same ∙ is) agree)
      by false e = (s, kept (nat_eq f.header.declared.name.number name) _ (file.names name) e ∙ is, shape_itself s)
