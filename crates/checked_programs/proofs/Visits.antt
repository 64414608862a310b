-- A walk over the items of a well-typed program: what is declared before each function, and what is declared at the end.
use Rattle.std.proofs.Common.{◌≡◌, ℕ, zero, suc, ◌+◌, ◌≤◌, Bool, IsTrue, ◌&&◌, List, [], ◌∷◌, ◌++◌, length, map, Some, refl, sym, ap, ap₂, subst, ◌∙◌, arith, length-append, append_assoc, append-nil}
use Rattle.std.specs.Prelude.{slice_get}
use Rattle.std.proofs.lemmas.Bool.{and_parts}
use Rattle.std.proofs.lemmas.Option.{none-some, same_Some}
use Rattle.clight_source.specs.Trees.{Global}
use Rattle.clight_syntax.specs.declared.typed.Home.TheVariants as h
use Rattle.c_types.specs.Types.{StructType, size_of}
use Rattle.c_types.specs.Kinds.{is_scalar}
use Rattle.clight_syntax.specs.TypedTrees.{Function, Item, StructItem, GlobalItem, PrototypeItem, FunctionItem, Variable', own_count}
use Rattle.clight_types.specs.Declarations.{declaration_type, parameters_of}
use Rattle.clight_typing.specs.Functions.{File, IsFunction, is_declaration, has_numbers, takes_initialiser, function_number, Own, parameter_own, local_own, has_block, counted, variables_from, variables_of}
use Rattle.clight_typing.specs.Programs.{after_struct, after_global, after_prototype, after_function, global_variable, AreItems, over, a_struct, a_global, a_prototype, a_function}
use Rattle.checked_programs.proofs.KnownTypes.{is_known, known_later}
use Rattle.checked_programs.proofs.Structs.{declaration_known, known_contains, size_stays, get_front, get_last}
use Rattle.checked_programs.specs.Named.{AreKnownTags, locals_declared, AreNamed}
use Rattle.checked_programs.proofs.Layouts.{AreInTurn, turn_less}
use Rattle.checked_programs.proofs.FileWalks.{AreFine, Grows, Stays, grows_itself, grows_then, stays_itself, stays_then, struct_fine, struct_grows, global_fine, global_grows, global_stays, prototype_fine, prototype_grows, prototype_stays, function_fine, function_grows, function_stays}

-- a global, with its place among variables and blocks
pub record IsGlobalHere (structs : List StructType) (variables : List Variable') (block : ℕ) (x : Global) (n : ℕ) : Type 0 where
  pub variable : Variable'
  pub is : slice_get variables n ≡ Some variable
  pub home : variable.home ≡ h.Global block
  pub known : IsTrue (is_known (length structs) variable.type)
  pub some : 1 ≤ size_of structs variable.type
  pub takes : IsTrue (takes_initialiser variable.type x.initialiser)

-- the globals of items, of which the first has a number that isn't below this one
abbrev pub AreGlobalsHere : List StructType → List Variable' → (blocks low : ℕ) → List Item → Type 0
AreGlobalsHere structs variables blocks low [] = low ≤ length variables
AreGlobalsHere structs variables blocks low (GlobalItem x n ∷ items) = (low ≤ n) × IsGlobalHere structs variables blocks x n × AreGlobalsHere structs variables (suc blocks) (suc n) items
AreGlobalsHere structs variables blocks low (StructItem x ∷ items) = AreGlobalsHere structs variables blocks low items
AreGlobalsHere structs variables blocks low (PrototypeItem x ∷ items) = AreGlobalsHere structs variables blocks low items
AreGlobalsHere structs variables blocks low (FunctionItem f ∷ items) = AreGlobalsHere structs variables blocks low items

lower : (structs : List StructType) (variables : List Variable') (blocks low less : ℕ) (items : List Item) → less ≤ low → AreGlobalsHere structs variables blocks low items → AreGlobalsHere structs variables blocks less items
lower structs variables blocks low less [] le a = omega arith
lower structs variables blocks low less (GlobalItem x n ∷ items) le a = let a0 = a.0 in (omega arith, a.1, a.2)
lower structs variables blocks low less (StructItem x ∷ items) le a = lower structs variables blocks low less items le a
lower structs variables blocks low less (PrototypeItem x ∷ items) le a = lower structs variables blocks low less items le a
lower structs variables blocks low less (FunctionItem f ∷ items) le a = lower structs variables blocks low less items le a

-- the function with this number among the program's, and what is declared before it and at the end
pub record Visited {L : Type 0} (all : List Item) (end : File) (n : ℕ) (f : Function L) : Type 0 where
  pub file : File
  pub done : List Item
  pub number : file.functions ≡ n
  pub is : IsFunction file f
  pub fine : AreFine file done
  pub more : List Item
  pub items : all ≡ done ++ more
  pub grows : Grows (after_function file f) end
  pub stays : Stays (after_function file f) end
  pub parameter_tags : AreKnownTags file.structs (length file.structs) (parameters_of f.header.parameters)
  pub local_tags : AreKnownTags file.structs (length file.structs) (locals_declared f.locals)
  pub name_at : slice_get file.definitions file.functions ≡ Some f.header.declared.name.number
  pub name_number : function_number file.definitions f.header.declared.name.number ≡ file.functions

pub record Walked {L : Type 0} (file : File) (items all : List Item) (fs : List (Function L)) (end : File) : Type 0 where
  pub fine : AreFine end all
  pub grows : Grows file end
  pub stays : Stays file end
  pub visits : (k : ℕ) (f : Function L) → slice_get fs k ≡ Some f → Visited all end (file.functions + k) f
  pub globals : AreGlobalsHere end.structs end.variables file.globals (length file.variables) items
  pub turns : AreInTurn end.structs (length file.variables) fs (length end.variables)

length_from : (addressed : ℕ → Bool) (n blocks scalars : ℕ) (owns : List Own) → length (variables_from addressed n blocks scalars owns) ≡ length owns
length_from addressed n blocks scalars [] = refl
length_from addressed n blocks scalars (x ∷ xs) = ap suc (length_from addressed (suc n) (counted (has_block addressed n x.type) blocks) (counted (is_scalar x.type) scalars) xs)

length_mapped : {A B : Type 0} (g : A → B) (xs : List A) → length (map g xs) ≡ length xs
length_mapped g [] = refl
length_mapped g (x ∷ xs) = ap suc (length_mapped g xs)

-- a function has as many variables as it counts
pub own_length : {L : Type 0} (file : File) (f : Function L) → f.parameters ≡ length (parameters_of f.header.parameters) → length (variables_of file f) ≡ own_count f
own_length file f e =
    length_from _ _ 0 0 (map (parameter_own file.structs) (parameters_of f.header.parameters) ++ map (local_own file.structs) f.locals)
    ∙ length-append (map (parameter_own file.structs) (parameters_of f.header.parameters)) (map (local_own file.structs) f.locals)
    ∙ ap₂ (λ a b. a + b) (length_mapped (parameter_own file.structs) (parameters_of f.header.parameters) ∙ sym e) (length_mapped (local_own file.structs) f.locals)

one_done : (done : List Item) (x : Item) (items all : List Item) → all ≡ done ++ x ∷ items → all ≡ (done ++ x ∷ []) ++ items
one_done done x items all e = e ∙ sym (append_assoc done (x ∷ []) items)

pub walk : {L : Type 0} (file : File) (items : List Item) (fs : List (Function L)) (end : File) → AreItems file items fs end → AreNamed file items fs → (done all : List Item) → all ≡ done ++ items → AreFine file done → Walked file items all fs end
walk file _ _ _ over named done all e fine = record {
  fine = subst (AreFine file) (sym (e ∙ append-nil done)) fine;
  grows = grows_itself file;
  stays = stays_itself file;
  visits = λ k f is. absurd (none-some f is);
  globals = omega arith;
  turns = omega arith;
}
walk file _ fs end (a_struct {x = x} {items = items} is rest) named done all e fine =
    let w = walk (after_struct file x) items fs end rest named (done ++ StructItem x ∷ []) all (one_done done (StructItem x) items all e) (struct_fine file done fine x is) in
    record { fine = w.fine; grows = grows_then file (after_struct file x) end (struct_grows file done fine x) w.grows; stays = w.stays; visits = w.visits; globals = w.globals; turns = w.turns }
walk file _ fs end (a_global {x = x} {items = items} is rest) named done all e fine =
    let n = length file.variables in
    let w = walk (after_global file x) items fs end rest named.2 (done ++ GlobalItem x (length file.variables) ∷ []) all (one_done done (GlobalItem x (length file.variables)) items all e) (global_fine file done fine x is named.0) in
    let T = declaration_type file.structs x.declaration in
    let parts = and_parts (is_declaration file.structs x.declaration) (has_numbers x.initialiser && takes_initialiser (declaration_type file.structs x.declaration) x.initialiser) is in
    let known = declaration_known file.structs (length file.structs) x.declaration named.0 parts.0 in
    let size = ap length w.grows.structs_are ∙ length-append file.structs w.grows.structs in
    let one = length-append file.variables (global_variable file x ∷ []) in
    let same : size_of end.structs (declaration_type file.structs x.declaration) ≡ size_of file.structs (declaration_type file.structs x.declaration) =
    ap (λ structs. size_of structs (declaration_type file.structs x.declaration)) w.grows.structs_are ∙ size_stays file.structs w.grows.structs (declaration_type file.structs x.declaration) (known_contains (length file.structs) (declaration_type file.structs x.declaration) known.0)
    in
    let k1 = known.1 in
    record {
      fine = w.fine;
      grows = grows_then file (after_global file x) end (global_grows file done fine x) w.grows;
      stays = stays_then file (after_global file x) end (global_stays file done fine x named.1) w.stays;
      visits = w.visits;
      globals = (
        omega arith,
        record {
          variable = global_variable file x;
          is = ap (λ l. slice_get l (length file.variables)) w.grows.variables_are ∙ get_front (file.variables ++ global_variable file x ∷ []) w.grows.variables (length file.variables) (omega arith) ∙ get_last file.variables (global_variable file x);
          home = refl;
          known = known_later (length file.structs) (length end.structs) (omega arith) (declaration_type file.structs x.declaration) known.0;
          some = omega arith;
          takes = (and_parts (has_numbers x.initialiser) (takes_initialiser (declaration_type file.structs x.declaration) x.initialiser) parts.1).1;
        },
        lower end.structs end.variables (suc file.globals) (length (file.variables ++ global_variable file x ∷ [])) (suc (length file.variables)) items (omega arith) w.globals,
      );
      turns = turn_less end.structs (length (file.variables ++ global_variable file x ∷ [])) (length file.variables) fs (length end.variables) (omega arith) w.turns;
    }
walk file _ fs end (a_prototype {x = x} {items = items} is rest) named done all e fine =
    let w = walk (after_prototype file x.header) items fs end rest named.2 (done ++ PrototypeItem x ∷ []) all (one_done done (PrototypeItem x) items all e) (prototype_fine file done fine x named.1) in
    record {
      fine = w.fine;
      grows = grows_then file (after_prototype file x.header) end (prototype_grows file done fine x) w.grows;
      stays = stays_then file (after_prototype file x.header) end (prototype_stays file done fine x named.0) w.stays;
      visits = w.visits;
      globals = w.globals;
      turns = w.turns;
    }
walk file _ _ end (a_function {f = f} {items = items} {functions = fs} is rest) named done all e fine =
    let w = walk (after_function file f) items fs end rest named.4 (done ++ FunctionItem file.functions ∷ []) all (one_done done (FunctionItem file.functions) items all e) (function_fine file done fine file.functions f named.2 named.3) in
    let size = length-append file.variables (variables_of file f) in
    let own = own_length file f is.parameters in
    let begin = is.first_variable in
    record {
      fine = w.fine;
      grows = grows_then file (after_function file f) end (function_grows file done fine f) w.grows;
      stays = stays_then file (after_function file f) end (function_stays file done fine f is.agrees named.2 named.3) w.stays;
      visits = visit w.grows w.stays w.visits;
      globals = lower end.structs end.variables file.globals (length (file.variables ++ variables_of file f)) (length file.variables) items (omega arith) w.globals;
      turns = (omega arith, subst (λ k. AreInTurn end.structs k fs (length end.variables)) (let at : length (file.variables ++ variables_of file f) ≡ f.first_variable + own_count f = omega arith in at) w.turns);
    }
  where
    visit : Grows (after_function file f) end → Stays (after_function file f) end → ((k : ℕ) (g : Function _) → slice_get fs k ≡ Some g → Visited all end (suc file.functions + k) g)
        → (k : ℕ) (g : Function _) → slice_get (f ∷ fs) k ≡ Some g → Visited all end (file.functions + k) g
    visit grows stays later zero g at =
        let z : file.functions ≡ file.functions + 0 = omega arith in
        subst (λ k. Visited all end k g) z (subst (Visited all end file.functions) (same_Some _ _ at) (record {
          file = file;
          done = done;
          number = refl;
          is = is;
          fine = fine;
          more = FunctionItem file.functions ∷ items;
          items = e;
          grows = grows;
          stays = stays;
          parameter_tags = named.0;
          local_tags = named.1;
          name_at = named.2;
          name_number = named.3;
        }))
    visit grows stays later (suc k) g at = let z : suc file.functions + k ≡ file.functions + suc k = omega arith in subst (λ n. Visited all end n g) z (later k g at)
