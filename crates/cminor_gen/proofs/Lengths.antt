-- The code of the translation is no longer than the source's bound, with every place in internal RAM and every jump long.
use Rattle.std.proofs.Common.{◌≡◌, ℕ, zero, suc, ◌+◌, ◌*◌, ◌/◌, ◌%◌, ◌≤◌, List, [], ◌∷◌, length, map, Option, Some, None, Bool, true, false, refl, ap, arith}
use Rattle.std.specs.Prelude.{slice_get, sum_by, if◌then◌else◌}
use Rattle.std.proofs.lemmas.List.{length-append}
use Rattle.std.proofs.lemmas.List.Sums.{sum_by-cons}
use Rattle.cerco_base.specs.declared.events.Label.{Label}
use Rattle.cerco_middle.specs.declared.operators.Held.{Held}
use Rattle.cerco_middle.specs.declared.operators.Held.TheVariants.{U8, I8, W16}
use Rattle.cerco_middle.specs.Calls.{variable_held}
use Rattle.cerco_middle.specs.Operators.{held_bytes, all_held_bytes}
use Rattle.cerco_middle.specs.Cminor.Trees as cm
use Rattle.cerco_middle.specs.Cminor.Trees.{CmStmts, CmFunction}
use Rattle.cerco_middle.specs.Cminor.Sums.{stmts_length, end_length, function_length, functions_length, long_length}
use Rattle.c_types.specs.declared.integers.IntegerType.{IntegerType}
use Rattle.c_types.specs.Types.{CType, Void, Integer, Pointer, Array, Struct, StructType, size_of, bytes}
use Rattle.c_types.specs.Kinds.{is_scalar, integer_type}
use Rattle.clight_source.specs.declared.tree.SignedNumber.{SignedNumber}
use Rattle.clight_values.specs.Globals.{numbers_of}
use Rattle.clight_syntax.specs.declared.typed.Home.{Home}
use Rattle.clight_syntax.specs.declared.typed.Home.TheVariants as home
use Rattle.clight_syntax.specs.Bounds as b
use Rattle.clight_syntax.specs.TypedTrees.{LocalInitialiser, NoValue, Value, Local, Function, Variable', TypedProgram, Item, StructItem, GlobalItem, PrototypeItem, FunctionItem, own_variables, address_at}
use Rattle.clight_meaning.specs.Meaning.{type_in, variable_type}
use Rattle.clight_programs.specs.Statements.{Paths}
use Rattle.clight_programs.specs.Programs.{InitialiserFits, InitialisersFit, FunctionFits, IsChecked}
use Rattle.flat_memory.specs.HeldTypes.{held_of}
use Rattle.cminor_gen.specs.Translation.Expressions as x
use Rattle.cminor_gen.specs.Translation.Statements as s
use Rattle.cminor_gen.specs.Translation.Programs.{translated}
use Rattle.cminor_gen.specs.Translation.Start.{first_bits, bytes_from, integers_from, integers_if_any, global_bytes, item_bytes, items_bytes, is_initialised}
use Rattle.cminor_gen.proofs.Needs.{scalar_few}
use Rattle.cminor_gen.proofs.ExpressionLengths.{get_short, store_short, value_length}
use Rattle.cminor_gen.proofs.StatementLengths.{set_length, stmts_length_fit}

-- ---- functions

some_bytes : (h : Held) → 1 ≤ held_bytes h
some_bytes U8 = omega arith
some_bytes I8 = omega arith
some_bytes W16 = omega arith

end_short : (r : Option Held) → end_length r ≤ 16
end_short None = omega arith
end_short (Some U8) = omega arith
end_short (Some I8) = omega arith
end_short (Some W16) = omega arith

module _ (p : TypedProgram Label) (paths : Paths) (functions : (h : ℕ) (g : Function Label) → slice_get p.functions h ≡ Some g → FunctionFits p paths h g) (h : ℕ) (f : Function Label) (held : List Held) (result : Option Held) where
  abbrev fs : List CmFunction
  fs = (translated p).functions

  home_length : (q : Home) (T : CType) (a n : ℕ) (earlier : CmStmts) → stmts_length fs held result (s.home_after q T a n earlier) ≤ stmts_length fs held result earlier + (16 + (if elim q [ home.Global n ↦ false | home.Block n ↦ false | home.Scalar n ↦ true ] then 0 else 24))
  home_length (home.Global b) T a n earlier = omega arith
  home_length (home.Block b) T a n earlier = let i = get_short (variable_held held n) in let j = store_short (held_of T) in omega arith
  home_length (home.Scalar b) T a n earlier = omega arith

  -- the variables of a function at its start, and those that are stored in their blocks
  homes_length : (ys : List Variable') (n : ℕ) (earlier : CmStmts) → stmts_length fs held result (s.homes_after ys n earlier) + 3 * all_held_bytes (s.held_scalars ys) ≤ stmts_length fs held result earlier + sum_by (b.own_bound p.structs) ys
  homes_length [] n earlier = omega arith
  homes_length (y ∷ ys) n earlier =
      let more = sum_by-cons (b.own_bound p.structs) y ys in
      let one = by (is_scalar y.type) refl (homes_length ys) in
      omega arith
    where
      by : (t : Bool) → is_scalar y.type ≡ t → ((n : ℕ) (earlier : CmStmts) → stmts_length fs held result (s.homes_after ys n earlier) + 3 * all_held_bytes (s.held_scalars ys) ≤ stmts_length fs held result earlier + sum_by (b.own_bound p.structs) ys)
          → stmts_length fs held result (if t then s.homes_after ys (suc n) (s.home_after y.home y.type y.address n earlier) else s.homes_after ys n earlier) + 3 * all_held_bytes (if t then held_of y.type ∷ s.held_scalars ys else s.held_scalars ys)
          ≤ stmts_length fs held result earlier + ((24 * (if t then size_of p.structs y.type else 0) + (if t then (if b.is_held_in (Some y) then 0 else 24) else 0)) + sum_by (b.own_bound p.structs) ys)
      by true is ih =
          let few = scalar_few p p.structs y.type is in
          let some = some_bytes (held_of y.type) in
          let one = home_length y.home y.type y.address n earlier in
          let rest = ih (suc n) (s.home_after y.home y.type y.address n earlier) in
          omega arith
      by false is ih = let rest = ih n earlier in omega arith

  initialiser_length : (v : LocalInitialiser) (n : ℕ) (earlier : CmStmts) → InitialiserFits p f n v
      → stmts_length fs held result (s.initialiser_after p n v earlier) ≤ stmts_length fs held result earlier + elim v [ NoValue ↦ 0 | Value equals value ↦ 32 + b.value_bound p value ]
  initialiser_length NoValue n earlier fit = omega arith
  initialiser_length (Value equals e) n earlier fit =
      let i = set_length p f held paths functions h result (x.scalar_in (slice_get p.variables n)) (s.variable_held p n) (cm.Const (address_at p n)) (x.value p e) 0 (b.value_bound p e) (omega arith) (value_length held p f e fit.0) in
      omega arith

  initialisers_length : (ls : List Local) (n : ℕ) (earlier : CmStmts) → InitialisersFit p f ls n → stmts_length fs held result (s.initialisers_after p ls n earlier) ≤ stmts_length fs held result earlier + sum_by (b.local_bound p) ls
  initialisers_length [] n earlier fit = omega arith
  initialisers_length (l ∷ ls) n earlier fit =
      let more = sum_by-cons (b.local_bound p) l ls in
      let i = initialiser_length l.initialiser n earlier fit.0 in
      let ih = initialisers_length ls (suc n) (s.initialiser_after p n l.initialiser earlier) fit.1 in
      omega arith

function_fits : (p : TypedProgram Label) (paths : Paths) → ((h : ℕ) (g : Function Label) → slice_get p.functions h ≡ Some g → FunctionFits p paths h g)
    → (h : ℕ) (f : Function Label) → FunctionFits p paths h f → function_length (translated p).functions (s.function p f) ≤ b.function_bound p f
function_fits p paths functions h f fit =
    let own = own_variables f p.variables in
    let held = s.held_scalars own in
    let r = s.result_of f.result in
    let last = end_short r in
    let homes = homes_length p paths functions h f held r own 0 cm.NoStmts in
    let firsts = initialisers_length p paths functions h f held r f.locals (f.first_variable + f.parameters) (s.homes_after own 0 cm.NoStmts) fit.initialisers in
    let body = stmts_length_fit p f held paths functions h r f.body (s.prologue p f) fit.body in
    omega arith

functions_fit : (p : TypedProgram Label) (gs : List (Function Label)) → ((h : ℕ) (f : Function Label) → slice_get gs h ≡ Some f → function_length (translated p).functions (s.function p f) ≤ b.function_bound p f)
    → functions_length (translated p).functions (map (s.function p) gs) ≤ sum_by (b.function_bound p) gs
functions_fit p [] each = omega arith
functions_fit p (g ∷ gs) each =
    let more = sum_by-cons (b.function_bound p) g gs in
    let one = each 0 g refl in
    let ih = functions_fit p gs (λ h f is. each (suc h) f is) in
    omega arith

-- ---- bytes at the start

count_bytes : (k a m : ℕ) → length (bytes_from k a m) ≡ k
count_bytes zero a m = refl
count_bytes (suc k) a m = ap suc (count_bytes k ((a + 1) % 65536) (m / 256))

count_integers : (T : IntegerType) (ns : List SignedNumber) (k i a : ℕ) → length (integers_from T ns k i a) ≡ k * bytes T.size
count_integers T ns zero i a = omega arith
count_integers T ns (suc k) i a =
    let both = length-append (bytes_from (bytes T.size) a (first_bits T (slice_get ns i))) (integers_from T ns k (i + 1) ((a + bytes T.size) % 65536)) in
    let one = count_bytes (bytes T.size) a (first_bits T (slice_get ns i)) in
    let ih = count_integers T ns k (i + 1) ((a + bytes T.size) % 65536) in
    omega arith

-- an array of integers, or an integer as an array of one
count_array : (structs : List StructType) (T : CType) (ns : List SignedNumber) (k a : ℕ) → length (integers_if_any (integer_type T) ns k a) ≤ k * size_of structs T
count_array structs (Integer size g) ns k a = let all = count_integers (record { size = size; signed = g }) ns k 0 a in omega arith
count_array structs Void ns k a = omega arith
count_array structs (Pointer T) ns k a = omega arith
count_array structs (Array T n) ns k a = omega arith
count_array structs (Struct n) ns k a = omega arith

count_global : (structs : List StructType) (T : CType) (ns : List SignedNumber) (a : ℕ) → length (global_bytes T ns a) ≤ size_of structs T
count_global structs (Array T n) ns a = count_array structs T ns n a
count_global structs (Integer size g) ns a = let one = count_array structs (Integer size g) ns 1 a in omega arith
count_global structs Void ns a = omega arith
count_global structs (Pointer T) ns a = omega arith
count_global structs (Struct n) ns a = omega arith

count_items : (p : TypedProgram Label) (items : List Item) → 6 * length (items_bytes p items) ≤ sum_by (b.item_bound p) items
count_items p [] = omega arith
count_items p (GlobalItem g n ∷ items) =
    let more = sum_by-cons (b.item_bound p) (GlobalItem g n) items in
    let both = length-append (item_bytes p (GlobalItem g n)) (items_bytes p items) in
    let one = by (is_initialised g.initialiser) in
    let ih = count_items p items in
    omega arith
  where
    same_type : (z : Option Variable') → type_in z ≡ b.type_of_variable z
    same_type None = refl
    same_type (Some v) = refl

    by : (t : Bool) → 6 * length (if t then global_bytes (variable_type p n) (numbers_of g.initialiser) (address_at p n) else []) ≤ (if t then 6 * size_of p.structs (b.type_of_variable (slice_get p.variables n)) else 0)
    by true =
        let few = count_global p.structs (variable_type p n) (numbers_of g.initialiser) (address_at p n) in
        let same = ap (size_of p.structs) (same_type (slice_get p.variables n)) in
        omega arith
    by false = omega arith
count_items p (StructItem z ∷ items) = let more = sum_by-cons (b.item_bound p) (StructItem z) items in let ih = count_items p items in omega arith
count_items p (PrototypeItem q ∷ items) = let more = sum_by-cons (b.item_bound p) (PrototypeItem q) items in let ih = count_items p items in omega arith
count_items p (FunctionItem f ∷ items) = let more = sum_by-cons (b.item_bound p) (FunctionItem f) items in let ih = count_items p items in omega arith

-- ---- the program

pub is_short : (p : TypedProgram Label) → IsChecked p → long_length (translated p) ≤ b.code_bound p
is_short p ok =
    let start = count_items p p.items in
    let code = functions_fit p p.functions (λ h f is. function_fits p ok.paths ok.functions h f (ok.functions h f is)) in
    omega arith
