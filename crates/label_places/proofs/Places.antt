-- The places of the code of an accepted source ascend.
use Rattle.std.proofs.Common.{◌≡◌, ℕ, suc, List, [], ◌∷◌, ◌++◌, length, map, Some, None, refl, sym, ap, subst, ◌∙◌, append_assoc, slice_get, arith}
use Rattle.std.specs.Prelude.{IfOk}
use Rattle.std.specs.List.{flat_map}
use Rattle.std.proofs.lemmas.List.{length-append}
use Rattle.clight_source.specs.declared.span.Span.{Span}
use Rattle.clight_source.specs.Trees as s
use Rattle.clight_source.specs.Spelling.{header_terminals, local_terminals, stmts_terminals, function_terminals, item_terminals, items_terminals}
use Rattle.clight_tokens.specs.Tokens.{Token}
use Rattle.clight_tokens.specs.Tokens as t
use Rattle.clight_tokens.specs.Symbols.{names_of, terminal_of, terminals_of}
use Rattle.clight_tokens.specs.SourceTrees.{IsSourceTree}
use Rattle.clight_tokens.proofs.Spans.{ascending_whole}
use Rattle.clight_syntax.specs.TypedTrees.{Function, Item, StructItem, GlobalItem, PrototypeItem, FunctionItem, TypedProgram}
use Rattle.clight_syntax.specs.TypedSpans.{body_spans, code_spans, stmts_spans, AreAscending}
use Rattle.clight_typing.specs.Functions.{File}
use Rattle.clight_typing.specs.Programs.{AreItems, over, a_struct, a_global, a_prototype, a_function, after_function}
use Rattle.clight_typing.specs.Sources.{local_source, stmts_source, function_source, item_source, program_source}
use Rattle.clight_typing.specs.Laws.{IsTypingOf}
use Rattle.clight_typing.proofs.TypedProgramLaws.{program_right}
use Rattle.label_places.specs.Laws.{PlacesAscend}
use Rattle.label_places.proofs.Spelled.{spans_of, both, stmts_spelled}
use Rattle.label_places.proofs.Thinning.{IsThinned, front_left_out, kept_first, thinned_both}

-- ---- tokens

-- the places of terminal symbols are those of the tokens
terminals_ascend : (names : List (List ℕ)) (from to : ℕ) (tokens : List Token) → t.AreAscending from tokens to → AreAscending from (spans_of (map (terminal_of names) tokens)) to
terminals_ascend names from to [] h = h
terminals_ascend names from to (x ∷ tokens) h = (h.0, (let size = h.1 in omega arith), terminals_ascend names x.span.to to tokens h.2)

-- ---- functions and items

abbrev F : Type 0
F = Function (Unit {0})

-- the places of a function's code are some of those that its source spells
function_thinned : (f : F) → IsThinned (body_spans f) (spans_of (function_terminals (function_source f)))
function_thinned f =
    let header = header_terminals f.header in
    let locals = flat_map local_terminals (map local_source f.locals) in
    let body = stmts_spans f.body ++ f.right ∷ [] in
    let spelled : spans_of (function_terminals (function_source f)) ≡ spans_of header ++ (f.left ∷ (spans_of locals ++ body)) =
    both header _ _ _ refl (ap (λ (spans : List Span). f.left ∷ spans) (both locals _ _ _ refl (both (stmts_terminals (stmts_source f.body)) _ _ _ (stmts_spelled f.body) refl))) in
    subst (IsThinned (body_spans f)) (sym spelled)
    (front_left_out (spans_of header) (f.left ∷ body) (f.left ∷ (spans_of locals ++ body))
    (kept_first f.left body (spans_of locals ++ body) (front_left_out (spans_of locals) body body (λ from to h. h))))

-- the item of the list behind some others
at_length : (others : List F) (f : F) (rest : List F) → slice_get (others ++ f ∷ rest) (length others) ≡ Some f
at_length [] f rest = refl
at_length (x ∷ others) f rest = at_length others f rest

module _ (others : List F) (f : F) (rest : List F) (number : ℕ) (items : List Item) (is : length others ≡ number) where
  the_function : slice_get (others ++ f ∷ rest) number ≡ Some f
  the_function = subst (λ n. slice_get (others ++ f ∷ rest) n ≡ Some f) is (at_length others f rest)

  function_item : flat_map (item_source (others ++ f ∷ rest)) (FunctionItem number ∷ items) ≡ s.FunctionItem (function_source f) ∷ flat_map (item_source ((others ++ f ∷ []) ++ rest)) items
  function_item =
      ap (λ o. (elim o [ Some f ↦ s.FunctionItem (function_source f) ∷ [] | None ↦ [] ]) ++ flat_map (item_source (others ++ f ∷ rest)) items) the_function
      ∙ ap (λ functions. s.FunctionItem (function_source f) ∷ flat_map (item_source functions) items) (sym (append_assoc others (f ∷ []) rest))

abbrev Thinned : List F → List s.Item → Type 0
Thinned functions items = IsThinned (flat_map body_spans functions) (spans_of (items_terminals items))

-- an item that defines no function
beside : (functions : List F) (item : s.Item) (items : List s.Item) → Thinned functions items → Thinned functions (item ∷ items)
beside functions item items h =
    subst (IsThinned (flat_map body_spans functions)) (sym (both (item_terminals item) (items_terminals items) _ _ refl refl))
    (front_left_out (spans_of (item_terminals item)) (flat_map body_spans functions) (spans_of (items_terminals items)) h)

one_more : (f : F) (functions : List F) (items : List s.Item) → Thinned functions items → Thinned (f ∷ functions) (s.FunctionItem (function_source f) ∷ items)
one_more f functions items h =
    subst (IsThinned (flat_map body_spans (f ∷ functions))) (sym (both (function_terminals (function_source f)) (items_terminals items) _ _ refl refl))
    (thinned_both (body_spans f) (spans_of (function_terminals (function_source f))) (flat_map body_spans functions) (spans_of (items_terminals items)) (function_thinned f) h)

items_thinned : (file : File) (items : List Item) (functions : List F) (end : File) → AreItems file items functions end → (others : List F) → length others ≡ file.functions → Thinned functions (flat_map (item_source (others ++ functions)) items)
items_thinned file _ _ _ over others is = λ from to h. h
items_thinned file _ functions end (a_struct {x = x} {items = items} h g) others is = beside functions (s.StructItem x) _ (items_thinned _ items functions end g others is)
items_thinned file _ functions end (a_global {x = x} {items = items} h g) others is = beside functions (s.GlobalItem x) _ (items_thinned _ items functions end g others is)
items_thinned file _ functions end (a_prototype {x = x} {items = items} h g) others is = beside functions (s.PrototypeItem x) _ (items_thinned _ items functions end g others is)
items_thinned file _ _ end (a_function {f = f} {items = items} {functions = functions} h g) others is =
    let count : length (others ++ f ∷ []) ≡ suc file.functions = length-append others (f ∷ []) ∙ omega (arith, is) in
    subst (Thinned (f ∷ functions)) (sym (function_item others f functions file.functions items is))
    (one_more f functions _ (items_thinned (after_function file f) items functions end g (others ++ f ∷ []) count))

-- ---- whole programs

-- the typed tree before its layout
ascends : (text : List ℕ) (tree : s.Program) (typed : TypedProgram (Unit {0})) → IsSourceTree text tree → IsTypingOf tree typed → AreAscending 0 (code_spans typed) (length text)
ascends text tree typed source typing =
    let spelled : items_terminals (program_source typed).items ≡ terminals_of source.list = ap (λ (p : s.Program). items_terminals p.items) typing.1 ∙ source.tree.spelled.1 in
    let tokens = terminals_ascend (names_of source.list) 0 (length text) source.list (ascending_whole text source.list (length text) refl source.tokens.tokens) in
    items_thinned _ typed.items typed.functions typing.0.end typing.0.items [] refl 0 (length text)
    (subst (λ terminals. AreAscending 0 (spans_of terminals) (length text)) (sym spelled) tokens)

pub places_ascend : PlacesAscend
places_ascend text tree typed source sound =
    let typing : IsTypingOf tree sound.typed = subst (λ result. IfOk result (IsTypingOf tree)) sound.typing (program_right tree) in
    subst (λ (p : TypedProgram (Unit {0})). AreAscending 0 (code_spans p) (length text)) (sym sound.layout.program) (ascends text tree sound.typed source typing)
