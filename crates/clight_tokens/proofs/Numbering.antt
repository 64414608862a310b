-- Each name of a list of tokens has a number, and the number has its spelling.
use Rattle.std.proofs.Common.{◌≡◌, ◌<◌, ◌+◌, ℕ, suc, Bool, true, false, List, [], ◌∷◌, ◌++◌, length, get_or, refl, sym, ap, ◌∙◌, arith}
use Rattle.std.specs.Prelude.{◌||◌, not, cond, nat_lt, Option, Some, None, is_none, slice_index}
use Rattle.std.specs.List.{list_any, position, position_or_len}
use Rattle.std.specs.Str.{bytes_eq}
use Rattle.std.proofs.lemmas.Bool.Decides.{nat_tests}
use Rattle.std.proofs.lemmas.Slice.Eq.{bytes_eq-Decides}
use Rattle.std.proofs.lemmas.List.Folds.{list_any-append}
use Rattle.std.proofs.lemmas.List.Sums.{passes_at_first}
use Rattle.std.proofs.lemmas.Option.{slice_get-get_or}
use Rattle.clight_source.specs.declared.symbol.Symbol.{Symbol}
use Rattle.clight_tokens.specs.Lexemes.{is_letter}
use Rattle.clight_tokens.specs.Symbols.{is_name, with_name, names_of, keyword_of, IsNumbered}
use Rattle.clight_tokens.specs.Tokens.{Token}
use Rattle.clight_tokens.specs.Code.SymbolViews.{with_token}
use Rattle.clight_tokens.proofs.PunctuatorTable.{and_left, and_right}
use Rattle.clight_tokens.proofs.NameLists.{names_among, one_more}

abbrev has : List ℕ → List (List ℕ) → Bool
has text names = list_any (bytes_eq text) names

or_left : (a b : Bool) → a ≡ true → (a || b) ≡ true
or_left a b h = rw h refl

or_right : (a b : Bool) → b ≡ true → (a || b) ≡ true
or_right true b h = refl
or_right false b h = h

same_text : (text : List ℕ) → bytes_eq text text ≡ true
same_text text = (bytes_eq-Decides text text).1 refl

kept_by : (b : Bool) (x text : List ℕ) (names : List (List ℕ)) → has x names ≡ true → has x (cond b names (names ++ text ∷ [])) ≡ true
kept_by true x text names h = h
kept_by false x text names h = list_any-append (bytes_eq x) names (text ∷ []) ∙ or_left _ _ h

kept_token : (b : Bool) (x text : List ℕ) (names : List (List ℕ)) → has x names ≡ true → has x (cond b (with_name names text) names) ≡ true
kept_token true x text names h = kept_by (has text names) x text names h
kept_token false x text names h = h

-- a name that is there stays
kept : (x : List ℕ) (names : List (List ℕ)) (l : List Token) → has x names ≡ true → has x (names_among names l) ≡ true
kept x names [] h = h
kept x names (t ∷ l) h = ap (has x) (one_more names t l) ∙ kept x (with_token names t.text) l (kept_token (is_name t.text) x t.text names h)

put_by : (b : Bool) (text : List ℕ) (names : List (List ℕ)) → has text names ≡ b → has text (cond b names (names ++ text ∷ [])) ≡ true
put_by true text names h = h
put_by false text names h = list_any-append (bytes_eq text) names (text ∷ []) ∙ or_right _ _ (or_left _ _ (same_text text))

put : (text : List ℕ) (names : List (List ℕ)) → is_name text ≡ true → has text (with_token names text) ≡ true
put text names h = rw h (put_by (has text names) text names refl)

-- each name of the tokens is among their names
among : (names : List (List ℕ)) (before : List Token) (t : Token) (after : List Token) → is_name t.text ≡ true → has t.text (names_among names (before ++ t ∷ after)) ≡ true
among names [] t after h = ap (has t.text) (one_more names t after) ∙ kept t.text (with_token names t.text) after (put t.text names h)
among names (b ∷ before) t after h = ap (has t.text) (one_more names b (before ++ t ∷ after)) ∙ among (with_token names b.text) before t after h

found_by : (p : List ℕ → Bool) (v : Bool) (x : List ℕ) (n m : ℕ) → p x ≡ v → (v ≡ false → n < m) → cond (not v) (1 + n) 0 < 1 + m
found_by p true x n m h f = omega arith
found_by p false x n m h f = let g = f refl in omega arith

next : (i n : ℕ) → i < 1 + n → i < suc n
next i n h = omega arith

others : (a b : Bool) → a ≡ false → (a || b) ≡ true → b ≡ true
others a b e h = let g = rw e at h in g

within : (p : List ℕ → Bool) (names : List (List ℕ)) → list_any p names ≡ true → position_or_len p names < length names
within p [] h = cc
within p (x ∷ names) h =
    next _ _ (found_by p (p x) x (position_or_len p names) (length names) refl (λ e. within p names (others (p x) (list_any p names) e h)))

below : (m n : ℕ) → m < n → nat_lt m n ≡ true
below m n h = grind (arith, nat_tests)

no_keyword : (o : Option Symbol) → is_none o ≡ true → o ≡ None
no_keyword None h = refl
no_keyword (Some x) h = cc

pub numbered : (names : List (List ℕ)) (text : List ℕ) → is_name text ≡ true → has text names ≡ true → IsNumbered names text
numbered names text n h =
    let p = bytes_eq text in
    let i = position_or_len p names in
    let lt : i < length names = within p names h in
    let at : position p names ≡ Some i = rw (below i (length names) lt) refl in
    let letter : is_letter (slice_index text 0) ≡ true = and_left _ _ n in
    let unknown : keyword_of text ≡ None = no_keyword (keyword_of text) (and_right _ _ n) in
    let same : text ≡ get_or names i [] = (bytes_eq-Decides text (get_or names i [])).0 (passes_at_first p names [] lt) in
    record { number = i; symbol = rw (letter, unknown, at) refl; spelling = slice_get-get_or names i [] lt ∙ ap Some (sym same) }

pub names_numbered : (before after : List Token) (t : Token) → is_name t.text ≡ true → IsNumbered (names_of (before ++ t ∷ after)) t.text
names_numbered before after t h = numbered (names_of (before ++ t ∷ after)) t.text h (among [] before t after h)
