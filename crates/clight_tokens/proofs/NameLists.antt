-- The names of a set of slices, and what is left of a list in a loop.
use Rattle.std.proofs.Common.{◌≡◌, ◌≤◌, ◌<◌, ◌+◌, ◌^◌, ℕ, Bool, true, false, List, [], ◌∷◌, ◌++◌, map, drop, length, get_or, refl, sym, ap, ◌∙◌, arith, drop-cons, add-one, append_assoc}
use Rattle.std.specs.Prelude.{◌||◌, cond, not, filter, fold, Option, None}
use Rattle.std.specs.Borrow.{Bor}
use Rattle.std.specs.List.{list_any, position, prefix_len}
use Rattle.std.specs.Str.{bytes_eq}
use Rattle.std.proofs.lemmas.List.{drop_all, length-map, map-append}
use Rattle.indexmap.specs.IndexSet.{insert_key}
use Rattle.clight_source.specs.declared.span.Span.{Span}
use Rattle.clight_source.specs.declared.symbol.Terminal.{Terminal}
use Rattle.clight_source.specs.declared.symbol.Symbol.{Symbol}
use Rattle.clight_tokens.specs.Symbols.{is_name, with_name, keyword_of, name_symbol, word_symbol}
use Rattle.clight_tokens.specs.Tokens as s
use Rattle.clight_tokens.specs.Code.SymbolViews.{with_token}
use Rattle.clight_tokens.specs.Code.TokenViews.{token_of}
use Rattle.clight_tokens.specs.declared.token_list.Token.{Token}

abbrev pub texts : List (Bor (List ℕ)) → List (List ℕ)
texts ks = map (λ (k : Bor (List ℕ)). k.now) ks

any_text : (text : List ℕ) (ks : List (Bor (List ℕ))) → list_any (λ (k : Bor (List ℕ)). bytes_eq text k.now) ks ≡ list_any (bytes_eq text) (texts ks)
any_text text [] = refl
any_text text (k ∷ ks) = ap (λ v. bytes_eq text k.now || v) (any_text text ks)

with_by : (v : Bool) (ks : List (Bor (List ℕ))) (k : Bor (List ℕ)) → texts (cond v ks (ks ++ k ∷ [])) ≡ cond v (texts ks) (texts ks ++ k.now ∷ [])
with_by true ks k = refl
with_by false ks k = map-append (λ (x : Bor (List ℕ)). x.now) ks (k ∷ [])

pub texts-insert_key : (ks : List (Bor (List ℕ))) (k : Bor (List ℕ)) → texts (insert_key (λ (x y : Bor (List ℕ)). bytes_eq x.now y.now) ks k) ≡ with_name (texts ks) k.now
texts-insert_key ks k =
    with_by (list_any (λ (y : Bor (List ℕ)). bytes_eq k.now y.now) ks) ks k ∙ ap (λ v. cond v (texts ks) (texts ks ++ k.now ∷ [])) (any_text k.now ks)

prefix_map : (p : List ℕ → Bool) (ks : List (Bor (List ℕ))) → prefix_len p (texts ks) ≡ prefix_len (λ (k : Bor (List ℕ)). p k.now) ks
prefix_map p [] = refl
prefix_map p (k ∷ ks) = ap (λ n. cond (p k.now) (1 + n) 0) (prefix_map p ks)

pub position-texts : (p : List ℕ → Bool) (ks : List (Bor (List ℕ))) → position p (texts ks) ≡ position (λ (k : Bor (List ℕ)). p k.now) ks
position-texts p ks = rw (prefix_map (λ x. not (p x)) ks, length-map ks (λ (k : Bor (List ℕ)). k.now)) refl

-- ---- the names of the tokens

abbrev pub names_among : List (List ℕ) → List s.Token → List (List ℕ)
names_among names l = fold with_name names (filter is_name (map (λ (t : s.Token). t.text) l))

one_more_by : (v : Bool) (names : List (List ℕ)) (text : List ℕ) (rest : List (List ℕ)) → fold with_name names (cond v (text ∷ rest) rest) ≡ fold with_name (cond v (with_name names text) names) rest
one_more_by true names text rest = refl
one_more_by false names text rest = refl

pub one_more : (names : List (List ℕ)) (t : s.Token) (l : List s.Token) → names_among names (t ∷ l) ≡ names_among (with_token names t.text) l
one_more names t l = one_more_by (is_name t.text) names t.text (filter is_name (map (λ (x : s.Token). x.text) l))

token_front : (ts : List Token) (i : ℕ) (d : Token) → i < length ts → map token_of (drop i ts) ≡ token_of (get_or ts i d) ∷ map token_of (drop (i + 1) ts)
token_front ts i d h = rw (add-one, drop-cons ts i d h) refl

pub names-step : (names now : List (List ℕ)) (ts : List Token) (i : ℕ) (d : Token) (all : List (List ℕ)) → i < length ts → now ≡ with_token names (get_or ts i d).text.now → names_among names (map token_of (drop i ts)) ≡ all → names_among now (map token_of (drop (i + 1) ts)) ≡ all
names-step names now ts i d all h e g =
    ap (λ (x : List (List ℕ)). names_among x (map token_of (drop (i + 1) ts))) e ∙
    (sym (one_more names (token_of (get_or ts i d)) (map token_of (drop (i + 1) ts))) ∙ (sym (ap (names_among names) (token_front ts i d h)) ∙ g))

pub names-end : (names all : List (List ℕ)) (ts : List Token) (i : ℕ) → length ts ≤ i → names_among names (map token_of (drop i ts)) ≡ all → names ≡ all
names-end names all ts i h g = let e = rw (drop_all i ts h) at g in e

-- ---- a list that grows by what is left

regroup : {X : Type 0} (own : List X) (x : X) (rest : List X) → (own ++ x ∷ []) ++ rest ≡ own ++ (x ∷ rest)
regroup own x rest = append_assoc own (x ∷ []) rest

pub texts-step : (own now : List (List ℕ)) (ks : List (Bor (List ℕ))) (i : ℕ) (d : Bor (List ℕ)) (all : List (List ℕ)) → i < length ks → now ≡ own ++ (get_or ks i d).now ∷ [] → own ++ texts (drop i ks) ≡ all → now ++ texts (drop (i + 1) ks) ≡ all
texts-step own now ks i d all h e g =
    let front : texts (drop i ks) ≡ (get_or ks i d).now ∷ texts (drop (i + 1) ks) = rw (add-one, drop-cons ks i d h) refl in
    ap (λ (x : List (List ℕ)). x ++ texts (drop (i + 1) ks)) e ∙ (regroup own (get_or ks i d).now (texts (drop (i + 1) ks)) ∙ (sym (ap (λ (x : List (List ℕ)). own ++ x) front) ∙ g))

pub terminals-step : (f : s.Token → Terminal) (list now : List Terminal) (ts : List Token) (i : ℕ) (d : Token) (all : List Terminal) → i < length ts → now ≡ list ++ f (token_of (get_or ts i d)) ∷ [] → list ++ map f (map token_of (drop i ts)) ≡ all → now ++ map f (map token_of (drop (i + 1) ts)) ≡ all
terminals-step f list now ts i d all h e g =
    let front : map f (map token_of (drop i ts)) ≡ f (token_of (get_or ts i d)) ∷ map f (map token_of (drop (i + 1) ts)) = ap (map f) (token_front ts i d h) in
    ap (λ (x : List Terminal). x ++ map f (map token_of (drop (i + 1) ts))) e ∙ (regroup list (f (token_of (get_or ts i d))) (map f (map token_of (drop (i + 1) ts))) ∙ (sym (ap (λ (x : List Terminal). list ++ x) front) ∙ g))

-- ---- a word

word_by : (known : Option Symbol) (place : Option ℕ) (names : List (List ℕ)) (text : List ℕ) → keyword_of text ≡ known → known ≡ None → position (bytes_eq text) names ≡ place → name_symbol place ≡ word_symbol names text
word_by known place names text e k p = rw (e, k, p) refl

-- a word that is no keyword has the symbol of its place among the names
pub word-place : (ks : List (Bor (List ℕ))) (text : List ℕ) (known : Option Symbol) (found place : Option ℕ) → known ≡ keyword_of text → known ≡ None → found ≡ position (λ (k : Bor (List ℕ)). bytes_eq text k.now) ks → found ≡ place → name_symbol place ≡ word_symbol (texts ks) text
word-place ks text known found place e k p f = word_by known place (texts ks) text (sym e) k (position-texts (bytes_eq text) ks ∙ (sym p ∙ f))

-- a name is put among those that are there
pub noted : (ks now : List (Bor (List ℕ))) (k : Bor (List ℕ)) → is_name k.now ≡ true → now ≡ insert_key (λ (x y : Bor (List ℕ)). bytes_eq x.now y.now) ks k → texts now ≡ with_token (texts ks) k.now
noted ks now k h e = rw (e, h) (texts-insert_key ks k)

pub pushed : (list now : List Terminal) (x y : Symbol) (span : Span) → now ≡ list ++ record { symbol = x; span = span } ∷ [] → x ≡ y → now ≡ list ++ record { symbol = y; span = span } ∷ []
pushed list now x y span e h = e ∙ ap (λ (z : Symbol). list ++ record { symbol = z; span = span } ∷ []) h

-- ---- how many tokens there are

count : (p : ℕ) (l : List s.Token) (e : ℕ) → s.AreAscending p l e → p + length l ≤ e
count p [] e a = omega arith
count p (t ∷ l) e a = let b = a.0 in let c = a.1 in let d = count t.span.to l e a.2 in omega arith

-- the tokens of a text are fewer than 65,536, and so are the names among them
pub few : (t : s.Tokenised) (ts : List Token) (n : ℕ) → map token_of ts ≡ t.tokens → s.IsTokenised t → s.AreAscending 0 t.tokens t.length → n ≤ length ts → n < 2 ^ 32
few t ts n e is up h =
    let a = count 0 t.tokens t.length up in
    let short = is.tokens.source.short in
    let whole = is.length_is in
    let same : length ts ≡ length t.tokens = sym (length-map ts token_of) ∙ ap length e in
    omega arith
