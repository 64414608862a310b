-- The generator's programs are sound, and have room.
use Rattle.std.proofs.Common.{◌≡◌, ℕ, zero, suc, ◌<◌, ◌≤◌, List, [], ◌∷◌, ◌++◌, length, map, Option, Some, None, Ok, refl, sym, ap, ap₂, subst, ◌∙◌, arith}
use Rattle.std.specs.Prelude.{slice_get}
use Rattle.std.specs.List.{flat_map}
use Rattle.std.proofs.lemmas.List.{map_push}
use Rattle.cerco_base.specs.CallOrder.{Called}
use Rattle.clight_source.specs.Trees as tree
use Rattle.c_types.specs.Conversions.{unsigned_int}
use Rattle.clight_syntax.specs.TypedTrees.{Function, FunctionItem, Variable'}
use Rattle.clight_typing.specs.Sources.{function_source, item_source}
use Rattle.clight_typing.specs.Functions.{function_number}
use Rattle.clight_typing.specs.Programs.{AreItems, no_file, IsWellTyped, definitions, without_address}
use Rattle.clight_typing.specs.TypedPrograms.{typed_program}
use Rattle.clight_typing.proofs.TypingLaws as typing
use Rattle.clight_names.specs.Spellings.{main_name}
use Rattle.sample_texts.specs.declared.draws.Numbers.{Numbers}
use Rattle.sample_texts.specs.Texts.{each_below}
use Rattle.sample_programs.proofs.Families.{each, flat-each-last, slice_get-each, length-each, same-joined, map-joined}
use Rattle.sample_programs.proofs.Trees.{own_name, main_number, value_number, held, own_variables, Labels, Places, one_function, last_function, all_functions, all_variables, program}
use Rattle.sample_programs.proofs.Numbering.{definitions_of, main_place}
use Rattle.sample_programs.proofs.Typing.{AreWithin, last_file, last_variables, items_right}
use Rattle.sample_programs.proofs.Sources.{source_function, source_items}

still-there : {A : Type 0} (xs ys : List A) (f : ℕ) (x : A) → slice_get xs f ≡ Some x → slice_get (xs ++ ys) f ≡ Some x
still-there [] ys f x e = cc
still-there (y ∷ xs) ys zero x e = e
still-there (y ∷ xs) ys (suc f) x e = still-there xs ys f x e

first-function : {A : Type 0} (g : ℕ → A) (n f : ℕ) (last : A) → f < n → slice_get (each g n ++ last ∷ []) f ≡ Some (g f)
first-function g n f last lt = still-there (each g n) (last ∷ []) f (g f) (slice_get-each g n f lt)

only : {A : Type 0} (front : List A) (x : A) (m : ℕ) → length front ≡ m → slice_get (front ++ x ∷ []) m ≡ Some x
only [] x zero e = refl
only [] x (suc m) e = absurd (omega arith)
only (y ∷ front) x zero e = absurd (omega arith)
only (y ∷ front) x (suc m) e = only front x m (omega arith)

singles : {A : Type 0} (g : ℕ → A) (n : ℕ) → each_below (λ f. g f ∷ []) n ≡ each g n
singles g zero = refl
singles g (suc n) = ap (λ xs. xs ++ g n ∷ []) (singles g n)

-- the source of the program
pub source-items : {L : Type 0} (l : Labels L) (p : Places) (numbers : ℕ → Numbers) (start n : ℕ) → flat_map (item_source (all_functions l p numbers start n)) (each FunctionItem n ++ FunctionItem n ∷ []) ≡ source_items l p numbers start n
source-items {L = L} l p numbers start n =
    flat-each-last (item_source (all_functions l p numbers start n)) FunctionItem n (FunctionItem n)
    ∙ ap₂ (λ (xs ys : List tree.Item). xs ++ ys)
    (same-joined (λ f. item_source (all_functions l p numbers start n) (FunctionItem f)) (λ f. source_function l p numbers f ∷ []) n
    (λ f h. ap found (first-function (one_function l p numbers) n f (last_function l p start n) h)) ∙ singles (source_function l p numbers) n)
    (ap found (only (each (one_function l p numbers) n) (last_function l p start n) n (length-each (one_function l p numbers) n)))
  where
    found : Option (Function L) → List tree.Item
    found (Some f) = tree.FunctionItem (function_source f) ∷ []
    found None = []

definitions-push : (xs : List tree.Item) (f : tree.Function) → definitions (xs ++ tree.FunctionItem f ∷ []) ≡ definitions xs ++ f.header.declared.name.number ∷ []
definitions-push [] f = refl
definitions-push (tree.StructItem x ∷ xs) f = definitions-push xs f
definitions-push (tree.GlobalItem x ∷ xs) f = definitions-push xs f
definitions-push (tree.PrototypeItem x ∷ xs) f = definitions-push xs f
definitions-push (tree.FunctionItem g ∷ xs) f = ap (λ ys. g.header.declared.name.number ∷ ys) (definitions-push xs f)

definitions-each : {L : Type 0} (l : Labels L) (p : Places) (numbers : ℕ → Numbers) (n : ℕ) → definitions (each (source_function l p numbers) n) ≡ each own_name n
definitions-each l p numbers zero = refl
definitions-each l p numbers (suc n) = definitions-push (each (source_function l p numbers) n) _ ∙ ap (λ xs. xs ++ own_name n ∷ []) (definitions-each l p numbers n)

definitions-are : {L : Type 0} (l : Labels L) (p : Places) (numbers : ℕ → Numbers) (start n : ℕ) → definitions (source_items l p numbers start n) ≡ definitions_of n
definitions-are l p numbers start n = definitions-push (each (source_function l p numbers) n) _ ∙ ap (λ xs. xs ++ main_number n ∷ []) (definitions-each l p numbers n)

no-addresses : (p : Places) (n : ℕ) → map without_address (all_variables p n) ≡ all_variables p n
no-addresses p n =
    map_push without_address (each_below (λ f. own_variables (p.of_function f)) n) (held (value_number n) (p.of_main 8) unsigned_int 0)
    ∙ ap (λ (xs : List Variable'). xs ++ held (value_number n) (p.of_main 8) unsigned_int 0 ∷ []) (map-joined without_address (λ f. own_variables (p.of_function f)) n)

well-typed : {L : Type 0} (l : Labels L) (p : Places) (numbers : ℕ → Numbers) (start n : ℕ) (frames : List ℕ) (calls : List Called) → main_name (program l p numbers start n frames calls).names ≡ main_number n → start ≤ 65535 → ((f : ℕ) → f < n → AreWithin (numbers f)) → IsWellTyped (program l p numbers start n frames calls)
well-typed l p numbers start n frames calls named small within = record {
  end = last_file l p start n;
  items =
      subst (λ d. AreItems (no_file d) (each FunctionItem n ++ FunctionItem n ∷ []) (all_functions l p numbers start n) (last_file l p start n))
      (sym (ap definitions (source-items l p numbers start n) ∙ definitions-are l p numbers start n))
      (items_right l p numbers start n small within);
  structs = refl;
  variables = no-addresses p n ∙ last_variables l p start n;
  main = sym (ap (function_number (definitions_of n)) named ∙ main_place n);
}

-- the program is what its source is given
pub typed : (l : Labels (Unit {0})) (p : Places) (numbers : ℕ → Numbers) (start n : ℕ) → main_name (program l p numbers start n [] []).names ≡ main_number n → start ≤ 65535 → ((f : ℕ) → f < n → AreWithin (numbers f)) → typed_program (record { names = (program l p numbers start n [] []).names; items = source_items l p numbers start n; span = p.whole }) ≡ Ok (program l p numbers start n [] [])
typed l p numbers start n named small within =
    ap (λ (items : List tree.Item). typed_program (record { names = (program l p numbers start n [] []).names; items = items; span = p.whole })) (sym (source-items l p numbers start n))
    ∙ (typing.complete (program l p numbers start n [] []) (well-typed l p numbers start n [] [] named small within)
    ∙ ap (λ (vs : List Variable'). Ok (record (program l p numbers start n [] []) { variables = vs })) (no-addresses p n))
