-- The names of the generator's texts, in the order of their first appearance.
use Rattle.std.proofs.Common.{◌≡◌, ℕ, zero, suc, ◌<◌, ◌≤◌, List, [], ◌∷◌, ◌++◌, length, map, decimal, codes, cond, refl, sym, ap, ap₂, subst, ◌∙◌, inl, inr, arith, append_assoc, append-nil}
use Rattle.std.specs.Prelude.{Bool, true, false, ◌||◌, filter, fold, is_none}
use Rattle.std.specs.List.{list_any, list_all}
use Rattle.std.specs.Str.{bytes_eq}
use Rattle.std.proofs.lemmas.Bool.{cases_lt, and_parts, and_left, or_left, or_right, or_from, cond-true, cond-false}
use Rattle.std.proofs.lemmas.List.Sums.{fold-append}
use Rattle.clight_tokens.specs.Lexemes.{is_digit, is_punctuator}
use Rattle.clight_tokens.specs.Tokens.{Token}
use Rattle.clight_tokens.specs.Symbols.{keywords, is_name, with_name, names_of}
use Rattle.clight_tokens.proofs.PunctuatorTable.{no_letter}
use Rattle.sample_texts.specs.declared.draws.Numbers.{Numbers}
use Rattle.sample_texts.specs.Texts.{each_below}
use Rattle.sample_programs.proofs.Decimals.{decimal-digits}
use Rattle.sample_programs.proofs.Families.{each}
use Rattle.sample_programs.proofs.Pieces.{Piece, Blank, Mark, Fixed, Own, Count, Unsigned, tokens_from, fits, all_fit, numbers_in, AreSmall}
use Rattle.sample_programs.proofs.Trees.{own_text, names_after, all_names, function_pieces, front_pieces, call_pieces, back_pieces, main_pieces, all_pieces}
use Rattle.sample_programs.proofs.Typing.{AreWithin}
use Rattle.sample_programs.proofs.SourceTexts.{all-fine}
use Rattle.sample_programs.proofs.Spellings.{same-text, apart-own, no-keyword}
use Rattle.sample_programs.proofs.Sources.{no-letter}

-- the names among the pieces
abbrev name_texts : List Piece → List (List ℕ)
name_texts [] = []
name_texts (Fixed t ∷ ps) = cond (is_name t) (t ∷ name_texts ps) (name_texts ps)
name_texts (Own f ∷ ps) = own_text f ∷ name_texts ps
name_texts (p ∷ ps) = name_texts ps

digits-no-name : (ds after : List ℕ) → 0 < length ds → list_all is_digit ds ≡ true → is_name (ds ++ after) ≡ false
digits-no-name [] after h a = absurd (omega arith)
digits-no-name (d ∷ ds) after h a = and_left _ _ (no-letter d (and_parts (is_digit d) _ a).0)

number-no-name : (n : ℕ) (after : List ℕ) → n ≤ 65535 → is_name (decimal n ++ after) ≡ false
number-no-name n after h = let a = decimal-digits n h in digits-no-name (decimal n) after a.some a.digits

abbrev texts_of : List Token → List (List ℕ)
texts_of l = map (λ (t : Token). t.text) l

left-out : (t : List ℕ) (rest more : List (List ℕ)) → is_name t ≡ false → rest ≡ more → cond (is_name t) (t ∷ rest) rest ≡ more
left-out t rest more e f = cond-false (is_name t) (t ∷ rest) rest e ∙ f

names-of-pieces : (ps : List Piece) (at : ℕ) → all_fit ps ≡ true → AreSmall (numbers_in ps) → filter is_name (texts_of (tokens_from at ps)) ≡ name_texts ps
names-of-pieces [] at f s = refl
names-of-pieces (Blank x ∷ ps) at f s = names-of-pieces ps _ (and_parts _ _ f).1 s
names-of-pieces (Mark x ∷ ps) at f s =
    let a = and_parts (fits (Mark x) ps) _ f in
    left-out (x ∷ []) _ _ (and_left _ _ (no_letter x [] (and_parts (is_punctuator (x ∷ [])) _ a.0).0)) (names-of-pieces ps _ a.1 s)
names-of-pieces (Fixed t ∷ ps) at f s = ap (λ (l : List (List ℕ)). cond (is_name t) (t ∷ l) l) (names-of-pieces ps _ (and_parts _ _ f).1 s)
names-of-pieces (Own n ∷ ps) at f s =
    cond-true (is_name (own_text n)) _ _ (ap is_none (no-keyword n s.0)) ∙ ap (λ l. own_text n ∷ l) (names-of-pieces ps _ (and_parts _ _ f).1 s.1)
names-of-pieces (Count n ∷ ps) at f s =
    left-out (decimal n) _ _ (subst (λ t. is_name t ≡ false) (append-nil (decimal n)) (number-no-name n [] s.0)) (names-of-pieces ps _ (and_parts _ _ f).1 s.1)
names-of-pieces (Unsigned n ∷ ps) at f s = left-out (decimal n ++ 117 ∷ []) _ _ (number-no-name n (117 ∷ []) s.0) (names-of-pieces ps _ (and_parts _ _ f).1 s.1)

name-over : (v : Bool) (t : List ℕ) (all xs ys : List (List ℕ)) → all ≡ xs ++ ys → cond v (t ∷ all) all ≡ cond v (t ∷ xs) xs ++ ys
name-over true t all xs ys e = ap (λ l. t ∷ l) e
name-over false t all xs ys e = e

names-over : (ps qs : List Piece) → name_texts (ps ++ qs) ≡ name_texts ps ++ name_texts qs
names-over [] qs = refl
names-over (Blank x ∷ ps) qs = names-over ps qs
names-over (Mark x ∷ ps) qs = names-over ps qs
names-over (Fixed t ∷ ps) qs = name-over (is_name t) t (name_texts (ps ++ qs)) (name_texts ps) (name_texts qs) (names-over ps qs)
names-over (Own n ∷ ps) qs = ap (λ l. own_text n ∷ l) (names-over ps qs)
names-over (Count n ∷ ps) qs = names-over ps qs
names-over (Unsigned n ∷ ps) qs = names-over ps qs

names-joined : (f : ℕ → List Piece) (g : ℕ → List (List ℕ)) (n : ℕ) → ((k : ℕ) → name_texts (f k) ≡ g k) → name_texts (each_below f n) ≡ each_below g n
names-joined f g zero e = refl
names-joined f g (suc n) e = names-over (each_below f n) (f n) ∙ ap₂ (λ (xs ys : List (List ℕ)). xs ++ ys) (names-joined f g n e) (e n)

-- ---- the names of a function

abbrev own_words : List (List ℕ)
own_words = codes "a" ∷ codes "b" ∷ codes "i" ∷ codes "b" ∷ codes "a" ∷ codes "i" ∷ codes "i" ∷ codes "b" ∷ codes "b" ∷ codes "b" ∷ codes "b" ∷ codes "b" ∷ codes "i" ∷ codes "i" ∷ codes "b" ∷ []

function-words : (x : Numbers) (f : ℕ) → name_texts (function_pieces x f) ≡ own_text f ∷ own_words
unfolding keywords
function-words x f = refl

call-words : (f : ℕ) → name_texts (call_pieces f) ≡ codes "x" ∷ own_text f ∷ codes "x" ∷ codes "x" ∷ []
unfolding keywords
call-words f = refl

front-words : (start : ℕ) → name_texts (front_pieces start) ≡ codes "main" ∷ codes "x" ∷ codes "x" ∷ []
unfolding keywords
front-words start = refl

-- ---- lists that have a name, or have it not

any-over : (p : List ℕ → Bool) (xs ys : List (List ℕ)) → list_any p (xs ++ ys) ≡ (list_any p xs || list_any p ys)
any-over p [] ys = refl
any-over p (x ∷ xs) ys = ap (λ v. p x || v) (any-over p xs ys) ∙ assoc (p x) (list_any p xs) (list_any p ys)
  where
    assoc : (a b c : Bool) → (a || (b || c)) ≡ ((a || b) || c)
    assoc true b c = refl
    assoc false b c = refl

none-of : (p : List ℕ → Bool) (f : ℕ → List ℕ) (n : ℕ) → ((k : ℕ) → k < n → p (f k) ≡ false) → list_any p (each f n) ≡ false
none-of p f zero h = refl
none-of p f (suc n) h = any-over p (each f n) (f n ∷ []) ∙ or_from _ _ (none-of p f n (λ k g. h k (omega arith))) (or_from _ false (h n (omega arith)) refl)

some-of : (p : List ℕ → Bool) (f : ℕ → List ℕ) (n k : ℕ) → k < n → p (f k) ≡ true → list_any p (each f n) ≡ true
some-of p f zero k h e = absurd (omega arith)
some-of p f (suc n) k h e =
    any-over p (each f n) (f n ∷ [])
    ∙ elim (cases_lt k n) [
      | inl lt ↦ or_left _ _ (some-of p f n k lt e)
      | inr le ↦ let same : k ≡ n = omega arith in or_right _ _ (or_left _ false (ap (λ j. p (f j)) (sym same) ∙ e))
    ]

there : (names : List (List ℕ)) (t : List ℕ) → list_any (bytes_eq t) names ≡ true → with_name names t ≡ names
there names t e = cond-true (list_any (bytes_eq t) names) names (names ++ t ∷ []) e

new : (names : List (List ℕ)) (t : List ℕ) → list_any (bytes_eq t) names ≡ false → with_name names t ≡ names ++ t ∷ []
new names t e = cond-false (list_any (bytes_eq t) names) names (names ++ t ∷ []) e

-- the words of a function are there once the first function is
words-there : (rest : List (List ℕ)) → fold with_name (own_text 0 ∷ codes "a" ∷ codes "b" ∷ codes "i" ∷ rest) own_words ≡ own_text 0 ∷ codes "a" ∷ codes "b" ∷ codes "i" ∷ rest
words-there rest = refl

function-new : (k : ℕ) → k ≤ 63 → list_any (bytes_eq (own_text (suc k))) (names_after (suc k)) ≡ false
function-new k h =
    or_from _ _ (apart-own (suc k) 0 (omega arith) (omega arith) (λ e. absurd (omega arith)))
    (none-of (bytes_eq (own_text (suc k))) (λ f. own_text (suc f)) k (λ f g. apart-own (suc k) (suc f) (omega arith) (omega arith) (λ e. absurd (omega arith))))

functions-names : (n : ℕ) → n ≤ 64 → fold with_name [] (each_below (λ f. own_text f ∷ own_words) n) ≡ names_after n
functions-names zero h = refl
functions-names (suc zero) h = refl
functions-names (suc (suc k)) h =
    fold-append with_name [] (each_below (λ f. own_text f ∷ own_words) (suc k)) (own_text (suc k) ∷ own_words)
    ∙ (ap (λ ns. fold with_name ns (own_text (suc k) ∷ own_words)) (functions-names (suc k) (omega arith))
    ∙ (ap (λ ns. fold with_name ns own_words) (new (names_after (suc k)) (own_text (suc k)) (function-new k (omega arith))) ∙ words-there (each (λ f. own_text (suc f)) (suc k))))

-- ---- the names of `main`

main-new : (k : ℕ) → list_any (bytes_eq (codes "main")) (names_after (suc k)) ≡ false
main-new k = none-of (bytes_eq (codes "main")) (λ f. own_text (suc f)) k (λ f g. refl)

value-new : (k : ℕ) → list_any (bytes_eq (codes "x")) (names_after (suc k) ++ codes "main" ∷ []) ≡ false
value-new k = any-over (bytes_eq (codes "x")) (names_after (suc k)) (codes "main" ∷ []) ∙ or_from _ _ (none-of (bytes_eq (codes "x")) (λ f. own_text (suc f)) k (λ f g. refl)) refl

value-there : (k : ℕ) → list_any (bytes_eq (codes "x")) (all_names (suc k)) ≡ true
value-there k = any-over (bytes_eq (codes "x")) (names_after (suc k)) (codes "main" ∷ codes "x" ∷ []) ∙ or_right _ _ refl

own-there : (k f : ℕ) → f < suc k → list_any (bytes_eq (own_text f)) (all_names (suc k)) ≡ true
own-there k zero h = or_left _ _ (same-text (own_text 0))
own-there k (suc f) h =
    any-over (bytes_eq (own_text (suc f))) (names_after (suc k)) (codes "main" ∷ codes "x" ∷ [])
    ∙ or_left _ _ (or_right _ _ (some-of (bytes_eq (own_text (suc f))) (λ g. own_text (suc g)) k f (omega arith) (same-text (own_text (suc f)))))

front-names : (k : ℕ) → fold with_name (names_after (suc k)) (codes "main" ∷ codes "x" ∷ codes "x" ∷ []) ≡ all_names (suc k)
front-names k =
    ap (λ ns. with_name (with_name ns (codes "x")) (codes "x")) (new (names_after (suc k)) (codes "main") (main-new k))
    ∙ (ap (λ ns. with_name ns (codes "x")) (new (names_after (suc k) ++ codes "main" ∷ []) (codes "x") (value-new k) ∙ append_assoc (names_after (suc k)) (codes "main" ∷ []) (codes "x" ∷ []))
    ∙ there (all_names (suc k)) (codes "x") (value-there k))

call-names : (k f : ℕ) → f < suc k → fold with_name (all_names (suc k)) (codes "x" ∷ own_text f ∷ codes "x" ∷ codes "x" ∷ []) ≡ all_names (suc k)
call-names k f h =
    let x = there (all_names (suc k)) (codes "x") (value-there k) in
    ap (λ ns. with_name (with_name (with_name ns (own_text f)) (codes "x")) (codes "x")) x
    ∙ (ap (λ ns. with_name (with_name ns (codes "x")) (codes "x")) (there (all_names (suc k)) (own_text f) (own-there k f h)) ∙ (ap (λ ns. with_name ns (codes "x")) x ∙ x))

calls-names : (k n : ℕ) → n ≤ suc k → fold with_name (all_names (suc k)) (each_below (λ f. codes "x" ∷ own_text f ∷ codes "x" ∷ codes "x" ∷ []) n) ≡ all_names (suc k)
calls-names k zero h = refl
calls-names k (suc n) h =
    fold-append with_name (all_names (suc k)) (each_below (λ f. codes "x" ∷ own_text f ∷ codes "x" ∷ codes "x" ∷ []) n) _
    ∙ (ap (λ ns. fold with_name ns (codes "x" ∷ own_text n ∷ codes "x" ∷ codes "x" ∷ [])) (calls-names k n (omega arith)) ∙ call-names k n (omega arith))

pub names-are : (numbers : ℕ → Numbers) (start k : ℕ) → ((f : ℕ) → f < suc k → AreWithin (numbers f)) → start ≤ 65535 → k ≤ 63 → names_of (tokens_from 0 (all_pieces numbers start (suc k))) ≡ all_names (suc k)
names-are numbers start k w s h =
    let n : ℕ = suc k in
    let fine = all-fine numbers start n w s (omega arith) in
    let functions : List Piece = each_below (λ f. function_pieces (numbers f) f) n in
    let words : List (List ℕ) = each_below (λ f. own_text f ∷ own_words) n in
    let calls : List (List ℕ) = each_below (λ f. codes "x" ∷ own_text f ∷ codes "x" ∷ codes "x" ∷ []) n in
    ap (fold with_name []) (names-of-pieces (all_pieces numbers start (suc k)) 0 fine.fit fine.small
    ∙ (names-over functions (main_pieces start n)
    ∙ ap₂ (λ (xs ys : List (List ℕ)). xs ++ ys) (names-joined (λ f. function_pieces (numbers f) f) (λ f. own_text f ∷ own_words) n (λ f. function-words (numbers f) f))
    (names-over (front_pieces start) (each_below call_pieces n ++ back_pieces)
    ∙ ap₂ (λ (xs ys : List (List ℕ)). xs ++ ys) (front-words start)
    (names-over (each_below call_pieces n) back_pieces ∙ (append-nil _ ∙ names-joined call_pieces (λ f. codes "x" ∷ own_text f ∷ codes "x" ∷ codes "x" ∷ []) n call-words)))))
    ∙ (fold-append with_name [] words (codes "main" ∷ codes "x" ∷ codes "x" ∷ calls)
    ∙ (ap (λ ns. fold with_name ns (codes "main" ∷ codes "x" ∷ codes "x" ∷ calls)) (functions-names n (omega arith))
    ∙ (fold-append with_name (names_after n) (codes "main" ∷ codes "x" ∷ codes "x" ∷ []) calls ∙ (ap (λ ns. fold with_name ns calls) (front-names k) ∙ calls-names k n (omega arith)))))
