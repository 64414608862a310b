-- A well-typed program whose names are right is a checked one once it is laid out, whatever labels it gets.
use Rattle.std.proofs.Common.{◌≡◌, ℕ, zero, suc, ◌+◌, ◌<◌, ◌≤◌, ◌⊎◌, Bool, true, false, not, IsTrue, ◌&&◌, List, [], ◌∷◌, ◌++◌, length, map, take, drop, filter, Some, refl, sym, ap, ap₂, subst, ◌∙◌, inl, inr, arith, length-append, eq-eqb}
use Rattle.std.specs.Prelude.{slice_get, slice_index, slice_index_or, nat_lt, Contains, if◌then◌else◌}
use Rattle.std.proofs.lemmas.Bool.{false≢true, and_parts, lt-ltb, leb-true}
use Rattle.std.proofs.lemmas.Option.{none-some, same_Some, slice_get_within}
use Rattle.std.proofs.lemmas.List.{take-map, drop-map}
use Rattle.call_graph.specs.CallPaths.{Calls}
use Rattle.call_graph.proofs.Entries.{contains_cases, contains_here, contains_there, contains_none}
use Rattle.call_graph.proofs.Consequences.{callee_begins_behind, ends_within_largest}
use Rattle.clight_source.specs.declared.tree.Specifiers.{Specifiers}
use Rattle.clight_source.specs.declared.tree.Specifiers.TheVariants as w
use Rattle.clight_source.specs.Trees.{Header, Parameters, NoParameters, Parameters'}
use Rattle.clight_syntax.specs.declared.typed.Home.TheVariants as h
use Rattle.c_types.specs.Types.{CType, Void, StructType, size_of as sizes}
use Rattle.c_types.specs.Kinds.{is_scalar}
use Rattle.clight_names.specs.Occurrences.{is_plain, is_void_words, is_starred, has_no_parameters}
use Rattle.std.specs.List.{sum_by}
use Rattle.clight_syntax.specs.Bounds.{parameter_bytes, scalar_bytes}
use Rattle.clight_syntax.specs.Labelling.{function_without, stmt_without, stmts_without, without_labels}
use Rattle.clight_syntax.specs.TypedTrees.{Stmt, Empty, Block, Assign, ReadPort, WritePort, CallOf, If, IfElse, While, Do, For, Break, Continue, Return, Stmts, NoStmts, Then, Function, Variable', TypedProgram, own_count, own_variables, variable_address}
use Rattle.clight_types.specs.Scopes.{Signature, Object, Code, declare, meaning_of}
use Rattle.clight_types.specs.Declarations.{named_type, declared_type, pointers_to, parameters_of, signature_of, bytes_of}
use Rattle.clight_typing.specs.Functions.{File, code, function_number, is_result, are_parameters, has_few_parameters, body_of, function_addressed, variables_of, local_own}
use Rattle.clight_typing.specs.Statements.{is_among}
use Rattle.clight_typing.specs.Programs.{after_function, AreItems, no_file, without_address, IsWellTyped}
use Rattle.clight_layout.specs.declared.sizes.Area.TheVariants.{Globals, Frame}
use Rattle.clight_layout.specs.Calls.{stmt_calls, stmts_calls, body_calls, callees}
use Rattle.clight_layout.specs.Frames.{frame_bytes, placed, with_frames}
use Rattle.clight_layout.specs.Frames.{bytes_of as area_bytes}
use Rattle.clight_layout.specs.Layout.{IsStart, IsLayout, frame_sizes, global_bytes}
use Rattle.clight_programs.specs.Scopes.{IsShortScalar, IsVariable, IsAtHome}
use Rattle.clight_programs.specs.Expressions.{LivesInRam, IsInRam}
use Rattle.clight_programs.specs.Statements.{Paths}
use Rattle.clight_programs.specs.Formed.{AreFormed, FunctionIsFormed}
use Rattle.clight_programs.specs.Programs.{FunctionFits, ResultFits, IsChecked}
use Rattle.checked_programs.specs.Named.{HasNames}
use Rattle.checked_programs.proofs.KnownTypes.{is_known}
use Rattle.checked_programs.proofs.TypedStatements.{Agrees}
use Rattle.checked_programs.proofs.Structs.{AreLaidStructs, get_front, size_stays, known_contains}
use Rattle.checked_programs.proofs.Homes.{AreLaid, placed_laid, placed_same}
use Rattle.checked_programs.proofs.Layouts.{AreInTurn, length_placed, frames_same, globals_laid, frames_placed, own_of}
use Rattle.checked_programs.proofs.Functions.{Around, function_fits, code_in_body, result_fits}
use Rattle.checked_programs.proofs.FormedStatements.{known_caller, short_result, statements_formed, parameters_bytes}
use Rattle.checked_programs.proofs.Depths.{AreDepths, depths}
use Rattle.checked_programs.proofs.FileWalks.{globals_of, globals_append, AreFine}
use Rattle.checked_programs.proofs.Visits.{Visited, Walked, AreGlobalsHere, walk, own_length}
use Rattle.checked_programs.proofs.GlobalPlaces.{get_mapped, bytes_same, address_of_global, globals_fit, globals_between}

-- ---- lists

get_of_map : {A B : Type 0} (g : A → B) (xs : List A) (i : ℕ) (x : A) → slice_get xs i ≡ Some x → slice_get (map g xs) i ≡ Some (g x)
get_of_map g [] i x is = absurd (none-some x is)
get_of_map g (y ∷ xs) zero x is = ap (λ z. Some (g z)) (same_Some _ _ is)
get_of_map g (y ∷ xs) (suc i) x is = get_of_map g xs i x is

get_before_map : {A B : Type 0} (g : A → B) (xs : List A) (i : ℕ) (y : B) → slice_get (map g xs) i ≡ Some y → (x : A) × (slice_get xs i ≡ Some x) × (g x ≡ y)
get_before_map g [] i y is = absurd (none-some y is)
get_before_map g (x ∷ xs) zero y is = (x, refl, same_Some _ _ is)
get_before_map g (x ∷ xs) (suc i) y is = get_before_map g xs i y is

index_of_map : {A B : Type 0} (g : A → B) (xs : List A) (i : ℕ) (x : A) (d : B) → slice_get xs i ≡ Some x → slice_index_or (map g xs) i d ≡ g x
index_of_map g [] i x d is = absurd (none-some x is)
index_of_map g (y ∷ xs) zero x d is = ap g (same_Some _ _ is)
index_of_map g (y ∷ xs) (suc i) x d is = index_of_map g xs i x d is

there_is : {A : Type 0} (xs : List A) (i : ℕ) → i < length xs → (x : A) × (slice_get xs i ≡ Some x)
there_is [] i lt = absurd (omega arith)
there_is (x ∷ xs) zero lt = (x, refl)
there_is (x ∷ xs) (suc i) lt = there_is xs i (omega arith)

read_at : (xs : List ℕ) (i : ℕ) → i < length xs → slice_get xs i ≡ Some (slice_index xs i)
read_at [] i lt = absurd (omega arith)
read_at (x ∷ xs) zero lt = refl
read_at (x ∷ xs) (suc i) lt = read_at xs i (omega arith)

length_of_map : {A B : Type 0} (g : A → B) (xs : List A) → length (map g xs) ≡ length xs
length_of_map g [] = refl
length_of_map g (x ∷ xs) = ap suc (length_of_map g xs)

get_taken : {A : Type 0} (xs : List A) (c i : ℕ) (x : A) → slice_get (take c xs) i ≡ Some x → slice_get xs i ≡ Some x
get_taken xs zero i x is = absurd (none-some x is)
get_taken [] (suc c) i x is = is
get_taken (y ∷ xs) (suc c) zero x is = is
get_taken (y ∷ xs) (suc c) (suc i) x is = get_taken xs c i x is

get_dropped : {A : Type 0} (xs : List A) (n i : ℕ) (x : A) → slice_get (drop n xs) i ≡ Some x → slice_get xs (n + i) ≡ Some x
get_dropped xs zero i x is = let z : i ≡ 0 + i = omega arith in ap (slice_get xs) (sym z) ∙ is
get_dropped [] (suc n) i x is = absurd (none-some x is)
get_dropped (y ∷ xs) (suc n) i x is = let z : suc n + i ≡ suc (n + i) = omega arith in ap (slice_get (y ∷ xs)) z ∙ get_dropped xs n i x is

contains_filtered : (test : ℕ → Bool) (xs : List ℕ) (x : ℕ) → Contains xs x → IsTrue (test x) → Contains (filter test xs) x
contains_filtered test [] x there is = absurd (contains_none x there)
contains_filtered test (y ∷ xs) x there is = by (contains_cases y x xs there) (contains_filtered test xs x)
  where
    keep : (b : Bool) (z : ℕ) (zs : List ℕ) → Contains zs z → Contains (if b then y ∷ zs else zs) z
    keep true z zs c = contains_there y z zs c
    keep false z zs c = c

    here : (b : Bool) → b ≡ true → Contains (if b then y ∷ filter test xs else filter test xs) y
    here true e = contains_here y (filter test xs)
    here false e = absurd (false≢true e)

    by : (y ≡ x) ⊎ Contains xs x → (Contains xs x → IsTrue (test x) → Contains (filter test xs) x) → Contains (filter test (y ∷ xs)) x
    by (inl e) later = subst (Contains (filter test (y ∷ xs))) e (here (test y) (ap test e ∙ is))
    by (inr c) later = keep (test y) x (filter test xs) (later c is)

-- ---- calls without labels

mutual
  calls_without : {L : Type 0} (s : Stmt L) → stmt_calls (stmt_without s) ≡ stmt_calls s
  calls_without (Empty a) = refl
  calls_without (Block left body right) = all_calls_without body
  calls_without (Assign x a) = refl
  calls_without (ReadPort target equals port a) = refl
  calls_without (WritePort port equals e a) = refl
  calls_without (CallOf x a back) = refl
  calls_without (If test one x other) = calls_without x
  calls_without (IfElse test one x a other y) = ap₂ (λ a b. a ++ b) (calls_without x) (calls_without y)
  calls_without (While test turn x after) = calls_without x
  calls_without (Do keyword x test again a after) = calls_without x
  calls_without (For head turn x after) = calls_without x
  calls_without (Break keyword a) = refl
  calls_without (Continue keyword a) = refl
  calls_without (Return keyword e a) = refl

  all_calls_without : {L : Type 0} (s : Stmts L) → stmts_calls (stmts_without s) ≡ stmts_calls s
  all_calls_without NoStmts = refl
  all_calls_without (Then earlier last) = ap₂ (λ a b. a ++ b) (all_calls_without earlier) (calls_without last)

-- ---- `void main(void)`

plain_header : (structs : List StructType) (x : Header) → IsTrue (is_plain x) → (declared_type structs x.declared ≡ Void) × (length (parameters_of x.parameters) ≡ 0)
plain_header structs x is =
    let parts = and_parts (is_void_words x.declared.specifiers) (not (is_starred x.declared.stars) && has_no_parameters x.parameters) is in
    let more = and_parts (not (is_starred x.declared.stars)) (has_no_parameters x.parameters) parts.1 in
    (stars x.declared.stars more.0 ∙ words x.declared.specifiers parts.0, none x.parameters more.1)
  where
    stars : {A : Type 0} (xs : List A) → IsTrue (not (is_starred xs)) → pointers_to xs (named_type structs x.declared.specifiers) ≡ named_type structs x.declared.specifiers
    stars [] i = refl
    stars (y ∷ xs) i = absurd (false≢true i)

    words : (s : Specifiers) → IsTrue (is_void_words s) → named_type structs s ≡ Void
    words (w.Void a) i = refl
    words (w.Struct a tag) i = absurd (false≢true i)
    words (w.Char a) i = absurd (false≢true i)
    words (w.SignedChar a c) i = absurd (false≢true i)
    words (w.UnsignedChar a c) i = absurd (false≢true i)
    words (w.Int a) i = absurd (false≢true i)
    words (w.Signed a) i = absurd (false≢true i)
    words (w.SignedInt a c) i = absurd (false≢true i)
    words (w.Unsigned a) i = absurd (false≢true i)
    words (w.UnsignedInt a c) i = absurd (false≢true i)
    words (w.Long a) i = absurd (false≢true i)
    words (w.LongInt a c) i = absurd (false≢true i)
    words (w.SignedLong a c) i = absurd (false≢true i)
    words (w.SignedLongInt a c d) i = absurd (false≢true i)
    words (w.UnsignedLong a c) i = absurd (false≢true i)
    words (w.UnsignedLongInt a c d) i = absurd (false≢true i)

    none : (ps : Parameters) → IsTrue (has_no_parameters ps) → length (parameters_of ps) ≡ 0
    none (NoParameters void) i = refl
    none (Parameters' earlier last) i = absurd (false≢true i)

-- ---- the program

module _ {L : Type 0} (p : TypedProgram L) (t : TypedProgram (Unit {0})) (well : IsWellTyped t) (defined : List ℕ) (items : AreItems (no_file defined) t.items t.functions well.end) (names : HasNames t defined) (layout : IsLayout t (without_labels p)) where
  abbrev end : File
  end = well.end

  fine_begin : AreFine (no_file defined) []
  fine_begin = record {
    laid = λ number s is. absurd (none-some s is);
    count = refl;
    objects = λ name n T e. absurd (none-some (Object n T) e);
    codes = λ name g x e. absurd (none-some (Code g x) e);
  }

  walked : Walked (no_file defined) t.items t.items t.functions well.end
  walked = walk (no_file defined) t.items t.functions well.end items names.named [] t.items refl fine_begin

  structs_are : p.structs ≡ t.structs
  structs_are = ap (λ (x : TypedProgram (Unit {0})). x.structs) layout.program

  items_are : p.items ≡ t.items
  items_are = ap (λ (x : TypedProgram (Unit {0})). x.items) layout.program

  functions_are : map function_without p.functions ≡ t.functions
  functions_are = ap (λ (x : TypedProgram (Unit {0})). x.functions) layout.program

  main_are : p.main ≡ t.main
  main_are = ap (λ (x : TypedProgram (Unit {0})). x.main) layout.program

  abbrev placed_variables : List Variable'
  placed_variables = with_frames t.structs t.functions p.frames (placed Globals t.structs 1 t.variables)

  variables_are : p.variables ≡ with_frames t.structs t.functions p.frames (placed Globals t.structs 1 t.variables)
  variables_are = ap (λ (x : TypedProgram (Unit {0})). x.variables) layout.program

  same_as_end : map without_address p.variables ≡ end.variables
  same_as_end =
      ap (map without_address) variables_are ∙ frames_same t.structs t.functions p.frames (placed Globals t.structs 1 t.variables) ∙ placed_same Globals t.structs 1 t.variables ∙ well.variables

  all_laid : AreLaidStructs p.structs
  all_laid = subst AreLaidStructs (sym (structs_are ∙ well.structs)) walked.fine.laid

  function_at : (n : ℕ) (f : Function L) → slice_get p.functions n ≡ Some f → slice_get t.functions n ≡ Some (function_without f)
  function_at n f is = sym (ap (λ fs. slice_get fs n) functions_are) ∙ get_of_map function_without p.functions n f is

  visit : (n : ℕ) (f : Function (Unit {0})) → slice_get t.functions n ≡ Some f → Visited t.items well.end n f
  visit n f is = let z : 0 + n ≡ n = omega arith in subst (λ k. Visited t.items well.end k f) z (walked.visits n f is)

  -- ---- own variables, in any list that is the program's but for addresses

  own_is : (n : ℕ) (f : Function L) (v : Visited t.items well.end n (function_without f)) (xs : List Variable') → map without_address xs ≡ end.variables → map without_address (own_variables f xs) ≡ variables_of v.file (function_without f)
  own_is n f v xs e =
      sym (take-map without_address (own_count f) (drop f.first_variable xs)) ∙ ap (take (own_count f)) (sym (drop-map without_address f.first_variable xs))
      ∙ ap (λ zs. take (own_count f) (drop f.first_variable zs)) (e ∙ v.grows.variables_are)
      ∙ own_of p.structs f v.file.variables (variables_of v.file (function_without f)) v.grows.variables (sym v.is.first_variable) (own_length v.file (function_without f) v.is.parameters)

  t_same : map without_address t.variables ≡ end.variables
  t_same = well.variables

  own_at : (n : ℕ) (f : Function L) (v : Visited t.items well.end n (function_without f)) (i : ℕ) (x : Variable') → slice_get (own_variables f p.variables) i ≡ Some x → slice_get p.variables (length v.file.variables + i) ≡ Some x
  own_at n f v i x is =
      ap (λ k. slice_get p.variables (k + i)) (sym v.is.first_variable) ∙ get_dropped p.variables f.first_variable i x (get_taken (drop f.first_variable p.variables) (own_count f) i x is)

  -- ---- paths

  abbrev calls : List (List ℕ)
  calls = callees t.functions

  many : length calls ≡ length t.functions
  many = length_of_map (body_calls (length t.functions)) t.functions

  the_depths : AreDepths calls layout.depth.0
  the_depths = depths calls p.calls layout.order layout.depth.0 layout.depth.1

  abbrev the_paths : Paths
  the_paths = record { begin = λ n. slice_index p.frames n; end = λ n. slice_index p.frames n + slice_index (frame_sizes t) n; depth = the_depths.depth }

  sizes_of : (n : ℕ) (f : Function L) → slice_get p.functions n ≡ Some f → slice_index (frame_sizes t) n ≡ area_bytes Frame p.structs (own_variables f p.variables)
  sizes_of n f is =
      let v = visit n (function_without f) (function_at n f is) in
      index_of_map (frame_bytes t.structs t.variables) t.functions n (function_without f) 0 (function_at n f is)
      ∙ bytes_same Frame t.structs (own_variables f t.variables) (own_variables f p.variables) (own_is n f v t.variables t_same ∙ sym (own_is n f v p.variables same_as_end))
      ∙ ap (λ structs. area_bytes Frame structs (own_variables f p.variables)) (sym structs_are)

  start : (n : ℕ) → n < length t.functions → IsStart t n (slice_index p.frames n)
  start n lt = layout.starts n lt

  within : (n : ℕ) (f : Function L) → slice_get p.functions n ≡ Some f → n < length t.functions
  within n f is = slice_get_within t.functions n (function_without f) (function_at n f is)

  -- ---- calls

  calls_of : (n g : ℕ) (f : Function L) → slice_get p.functions n ≡ Some f → Contains (stmts_calls f.body) g → g < length t.functions → Calls calls n g
  calls_of n g f is there lt =
      let own : slice_index_or calls n [] ≡ body_calls (length t.functions) (function_without f) = index_of_map (body_calls (length t.functions)) t.functions n (function_without f) [] (function_at n f is) in
      subst (λ xs. Contains xs g) (sym own)
      (contains_filtered (λ k. nat_lt k (length t.functions)) (stmts_calls (stmts_without f.body)) g (subst (λ xs. Contains xs g) (sym (all_calls_without f.body)) there) (lt-ltb g (length t.functions) lt))

  as_many : length p.functions ≡ length t.functions
  as_many = sym (length_of_map function_without p.functions) ∙ ap length functions_are

  below : (n : ℕ) (f : Function L) → slice_get p.functions n ≡ Some f → (g : ℕ) → Contains (stmts_calls f.body) g → g < length p.functions → (the_paths.end n ≤ the_paths.begin g) × (the_paths.depth n < the_paths.depth g)
  below n f is g there lt =
      let m = as_many in
      let c = many in
      let lg : g < length t.functions = omega arith in
      let ln = within n f is in
      let cn : n < length calls = omega arith in
      let cg : g < length calls = omega arith in
      let call = calls_of n g f is there lg in
      let caller = start n ln in
      let callee = start g lg in
      let behind = callee_begins_behind (length calls) (Calls calls) (frame_sizes t) n g caller.before callee.before caller.is_largest callee.is_largest call in
      let at = caller.is in
      let at' = callee.is in
      let after : slice_index p.frames n + slice_index (frame_sizes t) n ≤ slice_index p.frames g = omega arith in
      (after, the_depths.deeper n g cn cg call)

  -- ---- functions that are called

  agrees_with : (n : ℕ) (f : Function (Unit {0})) (v : Visited t.items well.end n f) (name g : ℕ) (x : Signature) → declare (code v.file f.header) v.file.names name ≡ Some (Code g x) → Agrees p g x
  agrees_with n f v name g x meant =
      let last = v.stays name g x meant in
      let known = walked.fine.codes name g last.0 last.1 in
      let defined_at : slice_get defined g ≡ Some name = sym (ap (λ ds. slice_get ds g) walked.grows.definitions) ∙ known.0 in
      let lt : g < length t.functions = let w = slice_get_within defined g name defined_at in let c = names.count in omega arith in
      let callee = there_is t.functions g lt in
      let labelled = get_before_map function_without p.functions g callee.0 (ap (λ fs. slice_get fs g) functions_are ∙ callee.1) in
      let v' = visit g callee.0 callee.1 in
      let own_name : slice_get defined g ≡ Some callee.0.header.declared.name.number =
      sym (ap (λ ds. slice_get ds g) walked.grows.definitions) ∙ ap (λ ds. slice_get ds g) v'.grows.definitions ∙ ap (slice_get v'.file.definitions) (sym v'.number) ∙ v'.name_at
      in
      let same_name : callee.0.header.declared.name.number ≡ name = same_Some _ _ (sym own_name ∙ defined_at) in
      let own_number : function_number v'.file.definitions callee.0.header.declared.name.number ≡ g = v'.name_number ∙ v'.number in
      let own = v'.stays callee.0.header.declared.name.number (function_number v'.file.definitions callee.0.header.declared.name.number) (signature_of v'.file.structs callee.0.header) (declared_here v'.file callee.0) in
      let same_code : Some (Code (function_number v'.file.definitions callee.0.header.declared.name.number) own.0) ≡ Some (Code g last.0) =
      sym own.1 ∙ ap end.names same_name ∙ last.1
      in
      let same_signature = one_signature _ _ _ _ same_code in
      let scalar : is_scalar x.result ≡ is_scalar (signature_of v'.file.structs callee.0.header).result = last.2.scalar ∙ ap (λ (y : Signature). is_scalar y.result) (sym same_signature) ∙ sym own.2.scalar in
      let count : length x.parameters ≡ length (signature_of v'.file.structs callee.0.header).parameters = last.2.count ∙ ap (λ (y : Signature). length y.parameters) (sym same_signature) ∙ sym own.2.count in
      let result : labelled.0.result ≡ declared_type v'.file.structs callee.0.header.declared = ap (λ (c : Function (Unit {0})). c.result) labelled.2 ∙ v'.is.result in
      record {
        callee = labelled.0;
        is = labelled.1;
        count = ap (λ (c : Function (Unit {0})). c.parameters) labelled.2 ∙ v'.is.parameters ∙ sym (length_of_map (declared_type v'.file.structs) (parameters_of callee.0.header.parameters)) ∙ sym count;
        result = λ s. subst IsShortScalar (sym result)
            (short_result (declared_type v'.file.structs callee.0.header.declared)
            (result_fits v'.file.structs callee.0.header.declared (and_parts (is_result v'.file.structs callee.0.header.declared) (are_parameters v'.file.structs (parameters_of callee.0.header.parameters) && has_few_parameters v'.file.structs (signature_of v'.file.structs callee.0.header)) v'.is.header).0)
            (sym scalar ∙ s));
      }
    where
      declared_here : (file : File) (g : Function (Unit {0})) → (after_function file g).names g.header.declared.name.number ≡ Some (Code (function_number file.definitions g.header.declared.name.number) (signature_of file.structs g.header))
      declared_here file g = ap (λ (b : Bool). if b then Some (Code (function_number file.definitions g.header.declared.name.number) (signature_of file.structs g.header)) else file.names g.header.declared.name.number) (eq-eqb g.header.declared.name.number g.header.declared.name.number refl)

      one_signature : (a b : ℕ) (x y : Signature) → Some (Code a x) ≡ Some (Code b y) → x ≡ y
      one_signature a b x y e = cc

  -- ---- globals

  global_of : (n : ℕ) (f : Function L) (v : Visited t.items well.end n (function_without f)) (name k : ℕ) (T : CType) → v.file.names name ≡ Some (Object k T) → IsVariable p f k T × IsTrue (is_known (length v.file.structs) T) × (k < length v.file.variables) × IsInRam (slice_get p.variables k)
  global_of n f v name k T meant =
      let d = v.fine.objects name k T meant in
      let w = slice_get_within v.file.variables k d.variable d.is in
      let own = length-append v.file.variables (variables_of v.file (function_without f)) in
      let in_end : slice_get end.variables k ≡ Some d.variable =
      ap (λ l. slice_get l k) v.grows.variables_are ∙ get_front (v.file.variables ++ variables_of v.file (function_without f)) v.grows.variables k (omega arith) ∙ get_front v.file.variables (variables_of v.file (function_without f)) k w ∙ d.is
      in
      let at = get_mapped p.variables end.variables same_as_end k d.variable in_end in
      let type : at.0.type ≡ T = ap (λ (x : Variable'). x.type) at.2 ∙ d.type in
      let home : at.0.home ≡ h.Global d.block = ap (λ (x : Variable'). x.home) at.2 ∙ d.home in
      let number : slice_get (globals_of p.items) d.block ≡ Some k =
      ap (λ l. slice_get (globals_of l) d.block) (items_are ∙ v.items) ∙ ap (λ l. slice_get l d.block) (globals_append v.done v.more)
      ∙ get_front (globals_of v.done) (globals_of v.more) d.block (slice_get_within (globals_of v.done) d.block k d.number) ∙ d.number
      in (
        record {
          variable = at.0;
          is = at.1;
          typed = type;
          home = subst (λ o. IsAtHome p f o at.0.type at.0.address) (sym home) (address_of_global p end.variables same_as_end all_laid p.items d.block k number ∙ ap (λ o. Some (variable_address o)) at.1);
        },
        d.known,
        w,
        subst IsInRam (sym at.1) (subst LivesInRam (sym home) tt),
      )

  -- ---- frames

  frame_laid : (n : ℕ) (f : Function L) → slice_get p.functions n ≡ Some f → AreLaid Frame p.structs (slice_index p.frames n) (own_variables f p.variables)
  frame_laid n f is =
      let lt : n < length p.frames = let w = within n f is in let c = layout.count in omega arith in
      let size : length (placed Globals t.structs 1 t.variables) ≡ length end.variables = length_placed Globals t.structs 1 t.variables ∙ sym (length_of_map without_address t.variables) ∙ ap length t_same in
      let turns : AreInTurn t.structs 0 t.functions (length (placed Globals t.structs 1 t.variables)) =
      subst (λ k. AreInTurn t.structs 0 t.functions k) (sym size) (subst (λ structs. AreInTurn structs 0 t.functions (length end.variables)) (sym well.structs) walked.turns)
      in
      let is_placed = frames_placed t.structs 0 t.functions p.frames (placed Globals t.structs 1 t.variables) turns n (function_without f) (slice_index p.frames n) (function_at n f is) (read_at p.frames n lt) in
      subst (λ structs. AreLaid Frame structs (slice_index p.frames n) (own_variables f p.variables)) (sym structs_are)
      (subst (λ xs. AreLaid Frame t.structs (slice_index p.frames n) xs) (sym (ap (own_variables f) variables_are ∙ is_placed))
      (placed_laid Frame t.structs (slice_index p.frames n) (own_variables f (placed Globals t.structs 1 t.variables))))

  ends : (n : ℕ) → n < length t.functions → the_paths.end n ≤ suc p.data_bytes
  ends n lt =
      let s = start n lt in
      let total = layout.total in
      let le = ends_within_largest (length calls) (Calls calls) (frame_sizes t) n s.before total.largest total.is_largest s.is_largest in
      let at = s.is in
      let all = total.is in
      let within_all : slice_index p.frames n + slice_index (frame_sizes t) n ≤ suc p.data_bytes = omega arith in
      within_all

  -- ---- what stands around a function

  around : (n : ℕ) (f : Function L) (is : slice_get p.functions n ≡ Some f) (v : Visited t.items well.end n (function_without f)) → Around p the_paths n f v.file
  around n f is v =
      let lt = within n f is in
      let le = layout.depth.2 in
      let deep = the_depths.most n (let e = many in let x : n < length calls = omega arith in x) in
      record {
        more = v.grows.structs;
        structs = structs_are ∙ well.structs ∙ v.grows.structs_are;
        laid = v.fine.laid;
        all_laid = all_laid;
        own_is = own_is n f v p.variables same_as_end;
        own_at = own_at n f v;
        globals = global_of n f v;
        codes = agrees_with n (function_without f) v;
        parameter_tags = v.parameter_tags;
        local_tags = v.local_tags;
        below = below n f is;
        frame = frame_laid n f is;
        end = ap (λ k. slice_index p.frames n + k) (sizes_of n f is);
        ends = ends n lt;
        depth = (the_depths.some n, omega arith);
      }

  fits : (n : ℕ) (f : Function L) → slice_get p.functions n ≡ Some f → FunctionFits p the_paths n f
  fits n f is =
      let v = visit n (function_without f) (function_at n f is) in
      function_fits p the_paths n f v.file v.is (around n f is v)

  -- ---- form

  few : (n : ℕ) (f : Function L) → slice_get p.functions n ≡ Some f → parameter_bytes p (Some f) ≤ 12
  few n f is =
      let v = visit n (function_without f) (function_at n f is) in
      let S = v.file.structs in
      let header = and_parts (is_result v.file.structs f.header.declared) (are_parameters v.file.structs (parameters_of f.header.parameters) && has_few_parameters v.file.structs (signature_of v.file.structs f.header)) v.is.header in
      let parameters = and_parts (are_parameters v.file.structs (parameters_of f.header.parameters)) (has_few_parameters v.file.structs (signature_of v.file.structs f.header)) header.1 in
      let same : (T : CType) → IsTrue (is_known (length v.file.structs) T) → sizes v.file.structs T ≡ sizes p.structs T = λ T k. sym (ap (λ structs. sizes structs T) (structs_are ∙ well.structs ∙ v.grows.structs_are) ∙ size_stays v.file.structs v.grows.structs T (known_contains (length v.file.structs) T k)) in
      let bytes = parameters_bytes v.file.structs p.structs same (is_among (function_addressed (function_without f))) (length v.file.variables) 0 0 (parameters_of f.header.parameters) (map (local_own v.file.structs) f.locals) (own_variables f p.variables)
      (own_is n f v p.variables same_as_end) v.parameter_tags parameters.0
      in
      let count : f.parameters ≡ length (parameters_of f.header.parameters) = v.is.parameters in
      let sum : parameter_bytes p (Some f) ≡ bytes_of v.file.structs (map (declared_type v.file.structs) (parameters_of f.header.parameters)) = ap (λ k. sum_by (scalar_bytes p.structs) (take k (own_variables f p.variables))) count ∙ bytes in
      let le = leb-true (bytes_of v.file.structs (map (declared_type v.file.structs) (parameters_of f.header.parameters))) 12 parameters.1 in
      omega arith

  formed : (n : ℕ) (f : Function L) → slice_get p.functions n ≡ Some f → FunctionIsFormed p n f
  formed n f is =
      let v = visit n (function_without f) (function_at n f is) in
      let result = v.is.result in
      let fit : ResultFits (declared_type v.file.structs f.header.declared) =
      result_fits v.file.structs f.header.declared (and_parts (is_result v.file.structs f.header.declared) (are_parameters v.file.structs (parameters_of f.header.parameters) && has_few_parameters v.file.structs (signature_of v.file.structs f.header)) v.is.header).0
      in
      record {
        few = few n f is;
        body = subst (λ T. AreFormed p.calls n T false f.body) (sym result)
            (statements_formed p.calls n (body_of v.file (function_without f)) fit (stmts_calls f.body)
            (λ name g x meant there.
            let call = fits_call n f is v name g x meant in
            known_caller p.calls layout.order.in_order n g ((layout.order.calls n g).1 (calls_of n g f is there call)))
            false f.body v.is.body (λ g c. c));
      }
    where
      fits_call : (n : ℕ) (f : Function L) (is : slice_get p.functions n ≡ Some f) (v : Visited t.items well.end n (function_without f)) (name g : ℕ) (x : Signature) → meaning_of (body_of v.file (function_without f)).scope name ≡ Some (Code g x) → g < length t.functions
      fits_call n f is v name g x meant =
          let agree = code_in_body p the_paths n f v.file v.is (around n f is v) name g x meant in
          let w = slice_get_within p.functions g agree.callee agree.is in
          let m = as_many in
          omega arith

  -- ---- all

  pub checked : IsChecked p
  checked =
      let plain = get_before_map function_without p.functions t.main names.main (ap (λ fs. slice_get fs t.main) functions_are ∙ names.main_is) in
      let main_at : slice_get p.functions p.main ≡ Some plain.0 = ap (slice_get p.functions) main_are ∙ plain.1 in
      let v = visit t.main names.main names.main_is in
      let header = plain_header v.file.structs names.main.header names.plain in
      let lt : p.main < length t.functions = within p.main plain.0 main_at in
      let s = start p.main lt in
      let at = s.is in
      let same_bytes : area_bytes Globals p.structs p.variables ≡ global_bytes t = ap (λ structs. area_bytes Globals structs p.variables) structs_are ∙ bytes_same Globals t.structs p.variables t.variables (same_as_end ∙ sym t_same) in
      let fit = layout.fits in
      let globals_here : AreGlobalsHere p.structs end.variables 0 0 p.items =
      subst (λ structs. AreGlobalsHere structs end.variables 0 0 p.items) (sym (structs_are ∙ well.structs)) (subst (AreGlobalsHere end.structs end.variables 0 0) (sym items_are) walked.globals)
      in
      let globals_placed : AreLaid Globals p.structs 1 p.variables =
      subst (λ structs. AreLaid Globals structs 1 p.variables) (sym structs_are) (subst (AreLaid Globals t.structs 1) (sym variables_are) (globals_laid t.structs t.functions p.frames 1 (placed Globals t.structs 1 t.variables) (placed_laid Globals t.structs 1 t.variables)))
      in
      record {
        paths = the_paths;
        functions = fits;
        main = plain.0;
        main_is = main_at;
        main_plain = (ap (λ (f : Function (Unit {0})). f.parameters) plain.2 ∙ v.is.parameters ∙ header.1, ap (λ (f : Function (Unit {0})). f.result) plain.2 ∙ v.is.result ∙ header.0);
        globals = globals_between p end.variables same_as_end all_laid globals_placed (slice_index p.frames p.main) (omega arith) 1 0 0 (omega arith) p.items globals_here;
        few_bytes = omega arith;
        first_values = globals_fit p end.variables same_as_end all_laid 0 0 p.items globals_here;
        formed = record {
          functions = formed;
          ordered = λ f lf. (layout.order.functions f).1 (let m = as_many in let c = many in let x : f < length calls = omega arith in x);
          no_others = λ f there. let lf = (layout.order.functions f).0 there in let m = as_many in let c = many in let x : f < length p.functions = omega arith in x;
        };
      }
