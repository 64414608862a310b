-- The trees of the generator's programs, which their tokens spell.
use Rattle.std.proofs.Common.{◌≡◌, ℕ, zero, suc, ◌+◌, ◌*◌, ◌<◌, ◌≤◌, List, [], ◌∷◌, ◌++◌, length, map, decimal, codes, cond, refl, sym, ap, ap₂, subst, ◌∙◌, arith, append_assoc, append-nil}
use Rattle.std.specs.Prelude.{Bool, true, false, nat_le, All}
use Rattle.std.specs.List.{flat_map, list_all}
use Rattle.std.proofs.lemmas.Bool.{leb-true, and_parts, and_from}
use Rattle.std.proofs.lemmas.Bool.Decides.{nat_tests}
use Rattle.std.proofs.lemmas.List.{map-append}
use Rattle.std.proofs.lemmas.List.Elements.{All-nil, All-append, All-push, All-weaker}
use Rattle.std.proofs.lemmas.List.Sums.{AllPass-from_list_all}
use Rattle.clight_source.specs.declared.span.Span.{Span}
use Rattle.clight_source.specs.declared.symbol.Symbol.{Symbol}
use Rattle.clight_source.specs.declared.symbol.Symbol.TheVariants as s
use Rattle.clight_source.specs.declared.symbol.Terminal.{Terminal}
use Rattle.clight_source.specs.Trees as tree
use Rattle.clight_source.specs.Spelling.{terminal, stmt_terminals, stmts_terminals, header_terminals, local_terminals, function_terminals, items_terminals, item_terminals, IsItem, IsLocal, AreItems, AreStatements}
use Rattle.clight_source.specs.Depth.{Node, item_nodes, stmt_nodes, stmts_nodes, IsShallow, depth_limit}
use Rattle.clight_typing.specs.Sources.{function_source, stmt_source, stmts_source, local_source}
use Rattle.clight_tokens.specs.Tokens.{Token}
use Rattle.clight_tokens.specs.Lexemes.{is_digit, is_letter}
use Rattle.clight_tokens.specs.Constants.{constant_of}
use Rattle.clight_tokens.specs.Symbols.{keywords, marks, symbol_of, terminal_of, number_symbol}
use Rattle.sample_texts.specs.declared.draws.Numbers.{Numbers}
use Rattle.sample_texts.specs.Texts.{each_below}
use Rattle.sample_programs.proofs.Decimals.{literal, decimal-digits, plain-constant, unsigned-constant}
use Rattle.sample_programs.proofs.Families.{each, flat-each-last, same-joined, map-joined, all-each, all-joined}
use Rattle.sample_programs.proofs.Pieces.{Piece, Blank, Mark, Fixed, Own, Count, Unsigned, is_gap, piece_text, piece_end, token_of, end_of, tokens_from}
use Rattle.sample_programs.proofs.Trees.{own_name, own_text, all_names, main_number, value_number, Five, Labels, Places, places, function, main_body, main_function, main_header, call, writing, one_function, last_function, function_pieces, front_pieces, call_pieces, back_pieces, main_pieces, all_pieces}
use Rattle.sample_programs.proofs.Typing.{AreWithin}
use Rattle.sample_programs.proofs.Spellings.{symbol-own, symbol-a, symbol-b, symbol-i, symbol-main, symbol-value}

-- ---- tokens and their places

end-append : (at : ℕ) (ps qs : List Piece) → end_of at (ps ++ qs) ≡ end_of (end_of at ps) qs
end-append at [] qs = refl
end-append at (p ∷ ps) qs = end-append (piece_end at p) ps qs

pub tokens-append : (at : ℕ) (ps qs : List Piece) → tokens_from at (ps ++ qs) ≡ tokens_from at ps ++ tokens_from (end_of at ps) qs
tokens-append at [] qs = refl
tokens-append at (Blank x ∷ ps) qs = tokens-append (piece_end at (Blank x)) ps qs
tokens-append at (Mark x ∷ ps) qs = ap (λ l. (token_of at (Mark x)) ∷ l) (tokens-append (piece_end at (Mark x)) ps qs)
tokens-append at (Fixed t ∷ ps) qs = ap (λ l. (token_of at (Fixed t)) ∷ l) (tokens-append (piece_end at (Fixed t)) ps qs)
tokens-append at (Own n ∷ ps) qs = ap (λ l. (token_of at (Own n)) ∷ l) (tokens-append (piece_end at (Own n)) ps qs)
tokens-append at (Count n ∷ ps) qs = ap (λ l. (token_of at (Count n)) ∷ l) (tokens-append (piece_end at (Count n)) ps qs)
tokens-append at (Unsigned n ∷ ps) qs = ap (λ l. (token_of at (Unsigned n)) ∷ l) (tokens-append (piece_end at (Unsigned n)) ps qs)

tokens-joined : (at : ℕ) (f : ℕ → List Piece) (n : ℕ) → tokens_from at (each_below f n) ≡ each_below (λ k. tokens_from (end_of at (each_below f k)) (f k)) n
tokens-joined at f zero = refl
tokens-joined at f (suc n) = tokens-append at (each_below f n) (f n) ∙ ap (λ l. l ++ tokens_from (end_of at (each_below f n)) (f n)) (tokens-joined at f n)

abbrev with_places : List Symbol → (ℕ → Span) → List Terminal
with_places [] at = []
with_places (x ∷ xs) at = terminal x (at 0) ∷ with_places xs (λ k. at (suc k))

abbrev symbols : List (List ℕ) → List Piece → List Symbol
symbols names [] = []
symbols names (p ∷ ps) = cond (is_gap p) (symbols names ps) (symbol_of names (piece_text p) ∷ symbols names ps)

token-symbols : (names : List (List ℕ)) (at : ℕ) (ps : List Piece) → map (λ (t : Token). symbol_of names t.text) (tokens_from at ps) ≡ symbols names ps
token-symbols names at [] = refl
token-symbols names at (Blank x ∷ ps) = token-symbols names (piece_end at (Blank x)) ps
token-symbols names at (Mark x ∷ ps) = ap (λ l. (symbol_of names (piece_text (Mark x))) ∷ l) (token-symbols names (piece_end at (Mark x)) ps)
token-symbols names at (Fixed t ∷ ps) = ap (λ l. (symbol_of names (piece_text (Fixed t))) ∷ l) (token-symbols names (piece_end at (Fixed t)) ps)
token-symbols names at (Own n ∷ ps) = ap (λ l. (symbol_of names (piece_text (Own n))) ∷ l) (token-symbols names (piece_end at (Own n)) ps)
token-symbols names at (Count n ∷ ps) = ap (λ l. (symbol_of names (piece_text (Count n))) ∷ l) (token-symbols names (piece_end at (Count n)) ps)
token-symbols names at (Unsigned n ∷ ps) = ap (λ l. (symbol_of names (piece_text (Unsigned n))) ∷ l) (token-symbols names (piece_end at (Unsigned n)) ps)

token-places : (names : List (List ℕ)) (l : List Token) → map (terminal_of names) l ≡ with_places (map (λ (t : Token). symbol_of names t.text) l) (places l)
token-places names [] = refl
token-places names (t ∷ l) = ap (λ (xs : List Terminal). terminal_of names t ∷ xs) (token-places names l)

terminals-are : (names : List (List ℕ)) (at : ℕ) (ps : List Piece) → map (terminal_of names) (tokens_from at ps) ≡ with_places (symbols names ps) (places (tokens_from at ps))
terminals-are names at ps = token-places names (tokens_from at ps) ∙ ap (λ xs. with_places xs (places (tokens_from at ps))) (token-symbols names at ps)

-- ---- numbers

pub no-letter : (d : ℕ) → is_digit d ≡ true → is_letter d ≡ false
no-letter d h = grind (arith, nat_tests)

number-by : (names : List (List ℕ)) (d : ℕ) (more : List ℕ) → is_digit d ≡ true → symbol_of names (d ∷ more) ≡ number_symbol (constant_of (d ∷ more))
number-by names d more h = rw (no-letter d h, h) refl

number-text : (names : List (List ℕ)) (ds after : List ℕ) → 0 < length ds → list_all is_digit ds ≡ true → symbol_of names (ds ++ after) ≡ number_symbol (constant_of (ds ++ after))
number-text names [] after h a = absurd (omega arith)
number-text names (d ∷ ds) after h a = number-by names d (ds ++ after) (and_parts (is_digit d) _ a).0

symbol-count : (names : List (List ℕ)) (n : ℕ) → n ≤ 65535 → symbol_of names (decimal n) ≡ s.Number (literal n false)
symbol-count names n h =
    let a = decimal-digits n h in
    subst (λ t. symbol_of names t ≡ number_symbol (constant_of t)) (append-nil (decimal n)) (number-text names (decimal n) [] a.some a.digits) ∙ ap number_symbol (plain-constant n h)

symbol-unsigned : (names : List (List ℕ)) (n : ℕ) → n ≤ 65535 → symbol_of names (decimal n ++ 117 ∷ []) ≡ s.Number (literal n true)
symbol-unsigned names n h =
    let a = decimal-digits n h in number-text names (decimal n) (117 ∷ []) a.some a.digits ∙ ap number_symbol (unsigned-constant n h)

-- ---- a function

abbrev function_symbols : (f a b i k m c x : Symbol) → List Symbol
function_symbols f a b i k m c x =
    s.Unsigned ∷ s.Int ∷ f ∷ s.LeftParenthesis ∷ s.Unsigned ∷ s.Int ∷ a ∷ s.RightParenthesis ∷ s.LeftBrace ∷
    s.Unsigned ∷ s.Int ∷ b ∷ s.Semicolon ∷ s.Unsigned ∷ s.Char ∷ i ∷ s.Semicolon ∷ b ∷ s.Assign ∷ a ∷ s.Semicolon ∷
    i ∷ s.Assign ∷ s.Number (literal 0 false) ∷ s.Semicolon ∷ s.While ∷ s.LeftParenthesis ∷ i ∷ s.Less ∷ k ∷ s.RightParenthesis ∷ s.LeftBrace ∷
    b ∷ s.Assign ∷ b ∷ s.Plus ∷ m ∷ s.Caret ∷ c ∷ s.Semicolon ∷
    s.If ∷ s.LeftParenthesis ∷ b ∷ s.Ampersand ∷ s.Number (literal 1 false) ∷ s.RightParenthesis ∷ b ∷ s.Assign ∷ b ∷ s.Caret ∷ x ∷ s.Semicolon ∷
    i ∷ s.Assign ∷ i ∷ s.Plus ∷ s.Number (literal 1 false) ∷ s.Semicolon ∷ s.RightBrace ∷ s.Return ∷ b ∷ s.Semicolon ∷ s.RightBrace ∷ []

function-shape : (names : List (List ℕ)) (x : Numbers) (f : ℕ) → symbols names (function_pieces x f) ≡ function_symbols (symbol_of names (own_text f)) (symbol_of names (codes "a")) (symbol_of names (codes "b")) (symbol_of names (codes "i")) (symbol_of names (decimal x.turns)) (symbol_of names (decimal x.added ++ 117 ∷ [])) (symbol_of names (decimal x.mixed ++ 117 ∷ [])) (symbol_of names (decimal x.mixed_odd ++ 117 ∷ []))
unfolding keywords marks constant_of
function-shape names x f = refl

shape-is : (f a b i k m c x f' a' b' i' k' m' c' x' : Symbol) → f ≡ f' → a ≡ a' → b ≡ b' → i ≡ i' → k ≡ k' → m ≡ m' → c ≡ c' → x ≡ x' → function_symbols f a b i k m c x ≡ function_symbols f' a' b' i' k' m' c' x'
shape-is f a b i k m c x f' a' b' i' k' m' c' x' e1 e2 e3 e4 e5 e6 e7 e8 = rw (e1, e2, e3, e4, e5, e6, e7, e8) refl

function-spelled : {L : Type 0} (l : Five L) (at : ℕ → Span) (x : Numbers) (own v : ℕ) → function_terminals (function_source (function l at x own v)) ≡ with_places (function_symbols (s.Name own) (s.Name 1) (s.Name 2) (s.Name 3) (s.Number (literal x.turns false)) (s.Number (literal x.added true)) (s.Number (literal x.mixed true)) (s.Number (literal x.mixed_odd true))) at
function-spelled l at x own v = refl

pub function-terminals : {L : Type 0} (k : ℕ) (l : Five L) (at : ℕ) (x : Numbers) (f v : ℕ) → k ≤ 64 → f < suc k → AreWithin x → function_terminals (function_source (function l (places (tokens_from at (function_pieces x f))) x (own_name f) v)) ≡ map (terminal_of (all_names (suc k))) (tokens_from at (function_pieces x f))
function-terminals k l at x f v small h w =
    let names : List (List ℕ) = all_names (suc k) in
    let t = w.turns in
    function-spelled l (places (tokens_from at (function_pieces x f))) x (own_name f) v
    ∙ (ap (λ xs. with_places xs (places (tokens_from at (function_pieces x f))))
    (sym (function-shape (all_names (suc k)) x f
    ∙ shape-is _ _ _ _ _ _ _ _ _ _ _ _ _ _ _ _ (symbol-own k f small h) (symbol-a k) (symbol-b k) (symbol-i k) (symbol-count (all_names (suc k)) x.turns (omega arith)) (symbol-unsigned (all_names (suc k)) x.added w.added) (symbol-unsigned (all_names (suc k)) x.mixed w.mixed) (symbol-unsigned (all_names (suc k)) x.mixed_odd w.mixed_odd)))
    ∙ sym (terminals-are (all_names (suc k)) at (function_pieces x f)))

-- ---- `main`

abbrev front_symbols : (main x start : Symbol) → List Symbol
front_symbols main x start =
    s.Void ∷ main ∷ s.LeftParenthesis ∷ s.Void ∷ s.RightParenthesis ∷ s.LeftBrace ∷ s.Unsigned ∷ s.Int ∷ x ∷ s.Semicolon ∷ x ∷ s.Assign ∷ start ∷ s.Semicolon ∷ []

abbrev call_symbols : (x f : Symbol) → List Symbol
call_symbols x f = x ∷ s.Assign ∷ f ∷ s.LeftParenthesis ∷ x ∷ s.RightParenthesis ∷ s.Semicolon ∷ s.PortOne ∷ s.Assign ∷ x ∷ s.Semicolon ∷ []

front-shape : (names : List (List ℕ)) (start : ℕ) → symbols names (front_pieces start) ≡ front_symbols (symbol_of names (codes "main")) (symbol_of names (codes "x")) (symbol_of names (decimal start ++ 117 ∷ []))
unfolding keywords marks
front-shape names start = refl

call-shape : (names : List (List ℕ)) (f : ℕ) → symbols names (call_pieces f) ≡ call_symbols (symbol_of names (codes "x")) (symbol_of names (own_text f))
unfolding keywords marks
call-shape names f = refl

back-shape : (names : List (List ℕ)) → symbols names back_pieces ≡ s.RightBrace ∷ []
unfolding marks
back-shape names = refl

front-terminals : (k at start : ℕ) → start ≤ 65535 → with_places (front_symbols (s.Name (main_number (suc k))) (s.Name (value_number (suc k))) (s.Number (literal start true))) (places (tokens_from at (front_pieces start))) ≡ map (terminal_of (all_names (suc k))) (tokens_from at (front_pieces start))
front-terminals k at start h =
    ap (λ xs. with_places xs (places (tokens_from at (front_pieces start))))
    (sym (front-shape (all_names (suc k)) start ∙ by _ _ _ _ _ _ (symbol-main k) (symbol-value k) (symbol-unsigned (all_names (suc k)) start h)))
    ∙ sym (terminals-are (all_names (suc k)) at (front_pieces start))
  where
    by : (m x t m' x' t' : Symbol) → m ≡ m' → x ≡ x' → t ≡ t' → front_symbols m x t ≡ front_symbols m' x' t'
    by m x t m' x' t' e f g = rw (e, f, g) refl

call-terminals : (k at f : ℕ) → k ≤ 64 → f < suc k → with_places (call_symbols (s.Name (value_number (suc k))) (s.Name (own_name f))) (places (tokens_from at (call_pieces f))) ≡ map (terminal_of (all_names (suc k))) (tokens_from at (call_pieces f))
call-terminals k at f small h =
    ap (λ xs. with_places xs (places (tokens_from at (call_pieces f))))
    (sym (call-shape (all_names (suc k)) f ∙ by _ _ _ _ (symbol-value k) (symbol-own k f small h)))
    ∙ sym (terminals-are (all_names (suc k)) at (call_pieces f))
  where
    by : (x f x' f' : Symbol) → x ≡ x' → f ≡ f' → call_symbols x f ≡ call_symbols x' f'
    by x f x' f' e g = rw (e, g) refl

back-terminals : (k at : ℕ) → terminal s.RightBrace (places (tokens_from at back_pieces) 0) ∷ [] ≡ map (terminal_of (all_names (suc k))) (tokens_from at back_pieces)
back-terminals k at = ap (λ xs. with_places xs (places (tokens_from at back_pieces))) (sym (back-shape (all_names (suc k)))) ∙ sym (terminals-are (all_names (suc k)) at back_pieces)

-- the statements of `main`
body-terminals : {L : Type 0} (back : ℕ → L) (at : ℕ → Span) (call_at : ℕ → ℕ → Span) (start n v k : ℕ) → stmts_terminals (stmts_source (main_body back at call_at start n v k)) ≡ with_places (s.Name n ∷ s.Assign ∷ s.Number (literal start true) ∷ s.Semicolon ∷ []) (λ j. at (10 + j)) ++ each_below (λ f. with_places (call_symbols (s.Name n) (s.Name (own_name f))) (call_at f)) k
body-terminals {L = L} back at call_at start n v zero = refl
body-terminals {L = L} back at call_at start n v (suc k) =
    let first : List Terminal = with_places (s.Name n ∷ s.Assign ∷ s.Number (literal start true) ∷ s.Semicolon ∷ []) (λ j. at (10 + j)) in
    let calls : List Terminal = each_below (λ f. with_places (call_symbols (s.Name n) (s.Name (own_name f))) (call_at f)) k in
    let one : List Terminal = stmt_terminals (stmt_source (call (back k) (call_at k) n v k)) in
    let two : List Terminal = stmt_terminals (stmt_source (writing {L = L} (call_at k) n v)) in
    ap (λ (xs : List Terminal). (xs ++ stmt_terminals (stmt_source (call (back k) (call_at k) n v k))) ++ stmt_terminals (stmt_source (writing {L = L} (call_at k) n v))) (body-terminals back at call_at start n v k)
    ∙ (append_assoc (first ++ calls) one two ∙ append_assoc first calls (one ++ two))

main-spelled : {L : Type 0} (entry : L) (back : ℕ → L) (at : ℕ → Span) (call_at : ℕ → ℕ → Span) (right : Span) (start v n : ℕ) → function_terminals (function_source (main_function entry back at call_at right start v n)) ≡ with_places (front_symbols (s.Name (main_number n)) (s.Name (value_number n)) (s.Number (literal start true))) at ++ (each_below (λ f. with_places (call_symbols (s.Name (value_number n)) (s.Name (own_name f))) (call_at f)) n ++ terminal s.RightBrace right ∷ [])
main-spelled entry back at call_at right start v n =
    ap (λ (b : List Terminal). header_terminals (main_header at (main_number n)) ++ (terminal s.LeftBrace (at 5) ∷ (flat_map local_terminals (map local_source (main_function entry back at call_at right start v n).locals) ++ (b ++ terminal s.RightBrace right ∷ []))))
    (body-terminals back at call_at start (value_number n) v n)

-- ---- the places of a program

abbrev main_at : (ℕ → Numbers) → ℕ → ℕ
main_at numbers n = end_of 0 (each_below (λ f. function_pieces (numbers f) f) n)

abbrev calls_at : (ℕ → Numbers) → (start n : ℕ) → ℕ
calls_at numbers start n = end_of (main_at numbers n) (front_pieces start)

abbrev pub places_of : (numbers : ℕ → Numbers) → (start n length : ℕ) → Places
places_of numbers start n length = record {
  of_function = λ f. places (tokens_from (end_of 0 (each_below (λ g. function_pieces (numbers g) g) f)) (function_pieces (numbers f) f));
  of_main = places (tokens_from (main_at numbers n) (front_pieces start));
  of_call = λ f. places (tokens_from (end_of (calls_at numbers start n) (each_below call_pieces f)) (call_pieces f));
  right = places (tokens_from (end_of (calls_at numbers start n) (each_below call_pieces n)) back_pieces) 0;
  whole = record { from = 0; to = length };
}

-- ---- items

abbrev pub source_function : {L : Type 0} → Labels L → Places → (ℕ → Numbers) → ℕ → tree.Item
source_function l p numbers f = tree.FunctionItem (function_source (one_function l p numbers f))

abbrev pub source_items : {L : Type 0} → Labels L → Places → (ℕ → Numbers) → (start n : ℕ) → List tree.Item
source_items l p numbers start n = each (source_function l p numbers) n ++ tree.FunctionItem (function_source (last_function l p start n)) ∷ []

pub items-spelled : {L : Type 0} (l : Labels L) (numbers : ℕ → Numbers) (start k length : ℕ) → k ≤ 63 → ((f : ℕ) → f < suc k → AreWithin (numbers f)) → start ≤ 65535 → items_terminals (source_items l (places_of numbers start (suc k) length) numbers start (suc k)) ≡ map (terminal_of (all_names (suc k))) (tokens_from 0 (all_pieces numbers start (suc k)))
items-spelled l numbers start k length small w s' =
    let n : ℕ = suc k in
    let p : Places = places_of numbers start (suc k) length in
    let t : List Token → List Terminal = map (terminal_of (all_names (suc k))) in
    let functions : List Piece = each_below (λ f. function_pieces (numbers f) f) (suc k) in
    flat-each-last item_terminals (source_function l p numbers) (suc k) (tree.FunctionItem (function_source (last_function l p start (suc k))))
    ∙ (ap₂ (λ (xs ys : List Terminal). xs ++ ys)
    (same-joined (λ f. item_terminals (source_function l p numbers f)) (λ f. map (terminal_of (all_names (suc k))) (tokens_from (end_of 0 (each_below (λ g. function_pieces (numbers g) g) f)) (function_pieces (numbers f) f))) (suc k)
    (λ f h. function-terminals k (l.of_function f) (end_of 0 (each_below (λ g. function_pieces (numbers g) g) f)) (numbers f) f (3 * f) (omega arith) h (w f h))
    ∙ (sym (map-joined (terminal_of (all_names (suc k))) (λ f. tokens_from (end_of 0 (each_below (λ g. function_pieces (numbers g) g) f)) (function_pieces (numbers f) f)) (suc k))
    ∙ ap (map (terminal_of (all_names (suc k)))) (sym (tokens-joined 0 (λ f. function_pieces (numbers f) f) (suc k)))))
    (main-spelled l.entry l.back p.of_main p.of_call p.right start (3 * suc k) (suc k)
    ∙ (ap₂ (λ (xs ys : List Terminal). xs ++ ys) (front-terminals k (main_at numbers (suc k)) start s')
    (ap₂ (λ (xs ys : List Terminal). xs ++ ys)
    (same-joined (λ f. with_places (call_symbols (s.Name (value_number (suc k))) (s.Name (own_name f))) (p.of_call f)) (λ f. map (terminal_of (all_names (suc k))) (tokens_from (end_of (calls_at numbers start (suc k)) (each_below call_pieces f)) (call_pieces f))) (suc k)
    (λ f h. call-terminals k (end_of (calls_at numbers start (suc k)) (each_below call_pieces f)) f (omega arith) h)
    ∙ (sym (map-joined (terminal_of (all_names (suc k))) (λ f. tokens_from (end_of (calls_at numbers start (suc k)) (each_below call_pieces f)) (call_pieces f)) (suc k))
    ∙ ap (map (terminal_of (all_names (suc k)))) (sym (tokens-joined (calls_at numbers start (suc k)) call_pieces (suc k)))))
    (back-terminals k (end_of (calls_at numbers start (suc k)) (each_below call_pieces (suc k))))
    ∙ (sym (map-append (terminal_of (all_names (suc k))) (tokens_from (calls_at numbers start (suc k)) (each_below call_pieces (suc k))) (tokens_from (end_of (calls_at numbers start (suc k)) (each_below call_pieces (suc k))) back_pieces))
    ∙ ap (map (terminal_of (all_names (suc k)))) (sym (tokens-append (calls_at numbers start (suc k)) (each_below call_pieces (suc k)) back_pieces))))
    ∙ (sym (map-append (terminal_of (all_names (suc k))) (tokens_from (main_at numbers (suc k)) (front_pieces start)) (tokens_from (calls_at numbers start (suc k)) (each_below call_pieces (suc k) ++ back_pieces)))
    ∙ ap (map (terminal_of (all_names (suc k)))) (sym (tokens-append (main_at numbers (suc k)) (front_pieces start) (each_below call_pieces (suc k) ++ back_pieces))))))
    ∙ (sym (map-append (terminal_of (all_names (suc k))) (tokens_from 0 functions) (tokens_from (end_of 0 functions) (main_pieces start (suc k))))
    ∙ ap (map (terminal_of (all_names (suc k)))) (sym (tokens-append 0 functions (main_pieces start (suc k))))))

-- ---- the grammar has them

le : (a b : ℕ) → nat_le a b ≡ true → a ≤ b
le a b e = leb-true a b e

locals-obey : {L : Type 0} (l : Labels L) (p : Places) (numbers : ℕ → Numbers) (f : ℕ) → All IsLocal (function_source (one_function l p numbers f)).locals
locals-obey l p numbers f zero d h = tt
locals-obey l p numbers f (suc zero) d h = tt
locals-obey l p numbers f (suc (suc k)) d h = absurd (omega arith)

function-obeys : {L : Type 0} (l : Labels L) (p : Places) (numbers : ℕ → Numbers) (f : ℕ) → IsItem (source_function l p numbers f)
function-obeys l p numbers f = (
  locals-obey l p numbers f,
  ((((tt, (tt, tt)), (tt, tt)), ((le 1 8 refl, tt, tt), (((tt, (tt, (le 1 5 refl, (le 5 10 refl, tt, tt), tt))), ((le 1 6 refl, tt, tt), (tt, (le 1 5 refl, tt, tt)))), (tt, (le 1 10 refl, tt, tt))))), tt),
)

body-obeys : {L : Type 0} (back : ℕ → L) (at : ℕ → Span) (call_at : ℕ → ℕ → Span) (start n v k : ℕ) → AreStatements (stmts_source (main_body back at call_at start n v k))
body-obeys back at call_at start n v zero = (tt, (tt, tt))
body-obeys back at call_at start n v (suc k) = ((body-obeys back at call_at start n v k, (All-nil _, tt)), tt)

last-locals-obey : {L : Type 0} (l : Labels L) (p : Places) (start n : ℕ) → All IsLocal (function_source (last_function l p start n)).locals
last-locals-obey l p start n zero d h = tt
last-locals-obey l p start n (suc k) d h = absurd (omega arith)

pub items-obey : {L : Type 0} (l : Labels L) (p : Places) (numbers : ℕ → Numbers) (start n : ℕ) → AreItems (source_items l p numbers start n)
items-obey l p numbers start n =
    All-push IsItem (each (source_function l p numbers) n) (tree.FunctionItem (function_source (last_function l p start n)))
    (all-each IsItem (source_function l p numbers) n (λ f h. function-obeys l p numbers f))
    (last-locals-obey l p start n, body-obeys l.back p.of_main p.of_call start (value_number n) (3 * n) n)

-- ---- their depth

abbrev is_shallow : Node → Bool
is_shallow x = nat_le x.depth 64

shallow : (l : List Node) → list_all is_shallow l ≡ true → All (λ x. x.depth ≤ depth_limit) l
shallow l e = All-weaker (λ x. is_shallow x ≡ true) (λ x. x.depth ≤ depth_limit) (λ x h. leb-true x.depth 64 h) l (AllPass-from_list_all is_shallow l e)

all-over : (xs ys : List Node) → list_all is_shallow xs ≡ true → list_all is_shallow ys ≡ true → list_all is_shallow (xs ++ ys) ≡ true
all-over [] ys h g = g
all-over (x ∷ xs) ys h g = let a = and_parts (is_shallow x) _ h in and_from _ _ a.0 (all-over xs ys a.1 g)

function-shallow : {L : Type 0} (l : Labels L) (p : Places) (numbers : ℕ → Numbers) (f : ℕ) → list_all is_shallow (item_nodes (source_function l p numbers f)) ≡ true
function-shallow l p numbers f = refl

body-shallow : {L : Type 0} (back : ℕ → L) (at : ℕ → Span) (call_at : ℕ → ℕ → Span) (start n v k : ℕ) → list_all is_shallow (stmts_nodes (stmts_source (main_body back at call_at start n v k))) ≡ true
body-shallow {L = L} back at call_at start n v zero = refl
body-shallow {L = L} back at call_at start n v (suc k) =
    let before : List Node = stmts_nodes (stmts_source (main_body back at call_at start n v k)) in
    let one : List Node = stmt_nodes (stmt_source (call (back k) (call_at k) n v k)) in
    let two : List Node = stmt_nodes (stmt_source (writing {L = L} (call_at k) n v)) in
    all-over (before ++ one) two (all-over before one (body-shallow back at call_at start n v k) refl) refl

main-shallow : {L : Type 0} (l : Labels L) (p : Places) (start n : ℕ) → list_all is_shallow (item_nodes (tree.FunctionItem (function_source (last_function l p start n)))) ≡ true
main-shallow l p start n = body-shallow l.back p.of_main p.of_call start (value_number n) (3 * n) n

pub items-shallow : {L : Type 0} (l : Labels L) (p : Places) (numbers : ℕ → Numbers) (start n : ℕ) → IsShallow (source_items l p numbers start n)
items-shallow l p numbers start n =
    subst (λ xs. All (λ (x : Node). x.depth ≤ depth_limit) xs) (sym (flat-each-last item_nodes (source_function l p numbers) n (tree.FunctionItem (function_source (last_function l p start n)))))
    (All-append (λ (x : Node). x.depth ≤ depth_limit) (each_below (λ f. item_nodes (source_function l p numbers f)) n) (item_nodes (tree.FunctionItem (function_source (last_function l p start n))))
    (all-joined (λ (x : Node). x.depth ≤ depth_limit) (λ f. item_nodes (source_function l p numbers f)) n (λ f h. shallow (item_nodes (source_function l p numbers f)) (function-shallow l p numbers f)))
    (shallow (item_nodes (tree.FunctionItem (function_source (last_function l p start n)))) (main-shallow l p start n)))
