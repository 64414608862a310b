-- Texts as lists of pieces: tokens and blanks. Where each piece ends before the next one, the pieces that are tokens are the tokens of
-- the text.
use Rattle.std.proofs.Common.{◌≡◌, ℕ, suc, ◌+◌, ◌<◌, ◌≤◌, ◌==◌, Bool, true, false, List, [], ◌∷◌, ◌++◌, length, get_or, decimal, refl, sym, ap, subst, ◌∙◌, ◌⊎◌, inl, inr, arith, append_assoc, take_at, drop_at}
use Rattle.std.specs.Prelude.{not, ◌&&◌, ◌||◌, cond, Option, Some, None, is_some, nat_le}
use Rattle.std.specs.List.{list_all, list_any}
use Rattle.std.specs.Str.{bytes_eq}
use Rattle.std.proofs.lemmas.Slice.Eq.{bytes_eq-Decides}
use Rattle.std.proofs.lemmas.Bool.{and_parts, and_from, or_cases, or_left, or_right, not-true, both_ways, leb-true}
use Rattle.clight_tokens.specs.Lexemes.{Kind, is_blank, is_digit, is_letter, is_word_byte, is_lexeme, is_punctuator, punctuators, IsLongest}
use Rattle.clight_tokens.specs.Lexemes as k
use Rattle.clight_tokens.specs.Tokens.{Token, TokensFrom, gap, token, is_token, flaw}
use Rattle.clight_tokens.specs.Constants.{constant_of}
use Rattle.clight_tokens.specs.Code.Views.{run_length, begins_comment, begins_double, begins_triple}
use Rattle.clight_tokens.proofs.Longer.{longest_word, longest_number, longest_blank, longest_single}
use Rattle.sample_programs.proofs.Decimals.{decimal-digits, plain-constant, unsigned-constant, all-words, digit-word}

pub data Piece : Type 0 where
  Blank : (byte : ℕ) → Piece
  Mark : (byte : ℕ) → Piece
  -- a word or a constant
  Fixed : (text : List ℕ) → Piece
  -- the name of a function by its number
  Own : (function : ℕ) → Piece
  -- a number in decimal, and one with a `u`
  Count : (number : ℕ) → Piece
  Unsigned : (number : ℕ) → Piece

abbrev pub piece_text : Piece → List ℕ
piece_text (Blank byte) = byte ∷ []
piece_text (Mark byte) = byte ∷ []
piece_text (Fixed text) = text
piece_text (Own function) = 102 ∷ decimal function
piece_text (Count number) = decimal number
piece_text (Unsigned number) = decimal number ++ 117 ∷ []

-- the text of pieces, before another text
abbrev pub text_onto : List Piece → List ℕ → List ℕ
text_onto [] rest = rest
text_onto (Blank byte ∷ ps) rest = byte ∷ text_onto ps rest
text_onto (Mark byte ∷ ps) rest = byte ∷ text_onto ps rest
text_onto (Fixed text ∷ ps) rest = text ++ text_onto ps rest
text_onto (Own function ∷ ps) rest = 102 ∷ (decimal function ++ text_onto ps rest)
text_onto (Count number ∷ ps) rest = decimal number ++ text_onto ps rest
text_onto (Unsigned number ∷ ps) rest = decimal number ++ (117 ∷ text_onto ps rest)

abbrev pub piece_end : ℕ → Piece → ℕ
piece_end at p = at + length (piece_text p)

-- where the pieces end that begin at an offset
abbrev pub end_of : ℕ → List Piece → ℕ
end_of at [] = at
end_of at (p ∷ ps) = end_of (piece_end at p) ps

abbrev pub is_gap : Piece → Bool
is_gap (Blank byte) = true
is_gap p = false

abbrev pub token_of : ℕ → Piece → Token
token_of at p = record { text = piece_text p; span = record { from = at; to = piece_end at p } }

-- the tokens of pieces that begin at an offset
abbrev pub tokens_from : ℕ → List Piece → List Token
tokens_from at [] = []
tokens_from at (p ∷ ps) = cond (is_gap p) (tokens_from (piece_end at p) ps) (token_of at p ∷ tokens_from (piece_end at p) ps)

-- ---- where pieces end

-- no punctuator of more than one byte begins with it
abbrev pub is_bracket : ℕ → Bool
is_bracket b = b == 40 || (b == 41 || (b == 123 || (b == 125 || b == 59)))

-- a word or a number comes next
abbrev pub begins_word : List Piece → Bool
begins_word [] = false
begins_word (Blank byte ∷ ps) = false
begins_word (Mark byte ∷ ps) = false
begins_word (p ∷ ps) = true

-- a blank or a punctuator comes next
abbrev pub begins_other : List Piece → Bool
begins_other [] = false
begins_other (Blank byte ∷ ps) = not (is_word_byte byte)
begins_other (Mark byte ∷ ps) = not (is_word_byte byte)
begins_other (p ∷ ps) = false

abbrev pub is_fixed : List ℕ → Bool
is_fixed text = is_lexeme k.Word text || (is_lexeme k.Number text && is_some (constant_of text))

abbrev pub fits : Piece → List Piece → Bool
fits (Blank byte) ps = is_blank byte
fits (Mark byte) ps = is_punctuator (byte ∷ []) && (not (byte == 47) && (is_bracket byte || begins_word ps))
fits (Fixed text) ps = is_fixed text && begins_other ps
fits p ps = begins_other ps

abbrev pub all_fit : List Piece → Bool
all_fit [] = true
all_fit (p ∷ ps) = fits p ps && all_fit ps

-- the numbers in the pieces
abbrev pub numbers_in : List Piece → List ℕ
numbers_in [] = []
numbers_in (Own function ∷ ps) = function ∷ numbers_in ps
numbers_in (Count number ∷ ps) = number ∷ numbers_in ps
numbers_in (Unsigned number ∷ ps) = number ∷ numbers_in ps
numbers_in (p ∷ ps) = numbers_in ps

abbrev pub AreSmall : List ℕ → Type 0
AreSmall [] = Unit {0}
AreSmall (n ∷ ns) = (n ≤ 65535) × AreSmall ns

abbrev pub IsSmall : Piece → Type 0
IsSmall (Own function) = function ≤ 65535
IsSmall (Count number) = number ≤ 65535
IsSmall (Unsigned number) = number ≤ 65535
IsSmall p = Unit {0}

small_front : (p : Piece) (ps : List Piece) → AreSmall (numbers_in (p ∷ ps)) → IsSmall p × AreSmall (numbers_in ps)
small_front (Blank b) ps h = (tt, h)
small_front (Mark b) ps h = (tt, h)
small_front (Fixed t) ps h = (tt, h)
small_front (Own n) ps h = (h.0, h.1)
small_front (Count n) ps h = (h.0, h.1)
small_front (Unsigned n) ps h = (h.0, h.1)

-- ---- the next byte

abbrev BeginsWith : (ℕ → Bool) → List ℕ → Type 0
BeginsWith test s = (b : ℕ) × (more : List ℕ) × (s ≡ b ∷ more) × (test b ≡ true)

digits_begin : (ds rest : List ℕ) → 0 < length ds → list_all is_word_byte ds ≡ true → BeginsWith is_word_byte (ds ++ rest)
digits_begin [] rest h a = absurd (omega arith)
digits_begin (d ∷ ds) rest h a = (d, ds ++ rest, refl, (and_parts (is_word_byte d) _ a).0)

letter_word : (b : ℕ) → is_letter b ≡ true → is_word_byte b ≡ true
letter_word b h = or_left (is_letter b) (is_digit b) h

fixed_begins : (text rest : List ℕ) → is_fixed text ≡ true → BeginsWith is_word_byte (text ++ rest)
fixed_begins [] rest h = cc
fixed_begins (b ∷ s) rest h = (
  b,
  s ++ rest,
  refl,
  elim (or_cases (is_lexeme k.Word (b ∷ s)) (is_lexeme k.Number (b ∷ s) && is_some (constant_of (b ∷ s))) h) [
    | inl w ↦ letter_word b (and_parts (is_letter b) (list_all is_word_byte s) w).0
    | inr n ↦ digit-word b (and_parts (is_digit b) (list_all is_word_byte s) (and_parts (is_lexeme k.Number (b ∷ s)) (is_some (constant_of (b ∷ s))) n).0).0
  ],
)

word_next : (ps : List Piece) (rest : List ℕ) → begins_word ps ≡ true → all_fit ps ≡ true → AreSmall (numbers_in ps) → BeginsWith is_word_byte (text_onto ps rest)
word_next [] rest b f h = cc
word_next (Blank x ∷ ps) rest b f h = cc
word_next (Mark x ∷ ps) rest b f h = cc
word_next (Fixed t ∷ ps) rest b f h = fixed_begins t (text_onto ps rest) (and_parts (is_fixed t) _ (and_parts _ _ f).0).0
word_next (Own n ∷ ps) rest b f h = (102, decimal n ++ text_onto ps rest, refl, refl)
word_next (Count n ∷ ps) rest b f h =
    let a = decimal-digits n h.0 in digits_begin (decimal n) (text_onto ps rest) a.some (all-words (decimal n) a.digits)
word_next (Unsigned n ∷ ps) rest b f h =
    let a = decimal-digits n h.0 in digits_begin (decimal n) (117 ∷ text_onto ps rest) a.some (all-words (decimal n) a.digits)

abbrev is_other : ℕ → Bool
is_other b = not (is_word_byte b)

other_next : (ps : List Piece) (rest : List ℕ) → begins_other ps ≡ true → BeginsWith is_other (text_onto ps rest)
other_next [] rest b = cc
other_next (Blank x ∷ ps) rest b = (x, text_onto ps rest, refl, b)
other_next (Mark x ∷ ps) rest b = (x, text_onto ps rest, refl, b)
other_next (Fixed t ∷ ps) rest b = cc
other_next (Own n ∷ ps) rest b = cc
other_next (Count n ∷ ps) rest b = cc
other_next (Unsigned n ∷ ps) rest b = cc

-- ---- words and numbers

run_stops : (p : ℕ → Bool) (s : List ℕ) (b : ℕ) (rest : List ℕ) → list_all p s ≡ true → p b ≡ false → run_length p (s ++ b ∷ rest) ≡ length s
run_stops p [] b rest a h = ap (λ v. cond v (suc (run_length p rest)) 0) h
run_stops p (c ∷ s) b rest a h =
    let parts = and_parts (p c) (list_all p s) a in
    ap (λ v. cond v (suc (run_length p (s ++ b ∷ rest))) 0) parts.0 ∙ ap suc (run_stops p s b rest parts.1 h)

word_at : (text : List ℕ) (rest : List ℕ) → is_lexeme k.Word text ≡ true → BeginsWith is_other rest → IsLongest (text ++ rest) (length text) k.Word
word_at [] rest w o = cc
word_at (c ∷ s) rest w o =
    let parts = and_parts (is_letter c) _ w in
    let e : run_length is_word_byte (s ++ rest) ≡ length s =
    ap (λ r. run_length is_word_byte (s ++ r)) o.2 ∙ run_stops is_word_byte s o.0 o.1 parts.1 (not-true (is_word_byte o.0) o.3)
    in
    subst (λ n. IsLongest (c ∷ (s ++ rest)) (suc n) k.Word) e (longest_word c (s ++ rest) parts.0)

number_at : (text : List ℕ) (rest : List ℕ) → is_lexeme k.Number text ≡ true → BeginsWith is_other rest → IsLongest (text ++ rest) (length text) k.Number
number_at [] rest w o = cc
number_at (c ∷ s) rest w o =
    let parts = and_parts (is_digit c) _ w in
    let e : run_length is_word_byte (s ++ rest) ≡ length s =
    ap (λ r. run_length is_word_byte (s ++ r)) o.2 ∙ run_stops is_word_byte s o.0 o.1 parts.1 (not-true (is_word_byte o.0) o.3)
    in
    subst (λ n. IsLongest (c ∷ (s ++ rest)) (suc n) k.Number) e (longest_number c (s ++ rest) parts.0)

number_flaw : (text rest : List ℕ) → is_some (constant_of text) ≡ true → flaw k.Number (length text) (text ++ rest) ≡ None
number_flaw text rest s =
    ap (λ x. cond (is_some (constant_of x)) None (Some 0)) (take_at text rest (length text) refl) ∙ ap (λ v. cond v None (Some 0)) s

-- ---- punctuators

not_true : (v : Bool) → not v ≡ true → v ≡ false
not_true true h = cc
not_true false h = refl

table_by : (q : List ℕ → Bool) (p s : List ℕ) (v more : Bool) → bytes_eq p s ≡ v → q p ≡ true → (more ≡ true → q s ≡ true) → (v || more) ≡ true → q s ≡ true
table_by q p s true more e here later h = let same : p ≡ s = (bytes_eq-Decides p s).0 e in subst (λ x. q x ≡ true) same here
table_by q p s false more e here later h = later h

of_table : (q : List ℕ → Bool) (t : List (List ℕ)) (s : List ℕ) → list_all q t ≡ true → list_any (λ p. bytes_eq p s) t ≡ true → q s ≡ true
of_table q [] s a h = cc
of_table q (p ∷ t) s a h =
    let parts = and_parts (q p) (list_all q t) a in
    table_by q p s (bytes_eq p s) (list_any (λ x. bytes_eq x s) t) refl parts.0 (of_table q t s parts.1) h

passes : (q : List ℕ → Bool) (s : List ℕ) → list_all q punctuators ≡ true → is_punctuator s ≡ true → q s ≡ true
unfolding is_punctuator
passes q s a h = of_table q punctuators s a h

-- a bracket or a semicolon stands alone
abbrev alone_test : List ℕ → Bool
alone_test s = not (is_bracket (get_or s 0 0)) || nat_le (length s) 1

bracket_alone : (b x : ℕ) (s : List ℕ) → is_bracket b ≡ true → is_punctuator (b ∷ x ∷ s) ≡ true → ⊥
bracket_alone b x s h p =
    let t : alone_test (b ∷ x ∷ s) ≡ true = passes alone_test (b ∷ x ∷ s) refl p in
    elim (or_cases _ _ t) [
      | inl n ↦ both_ways (is_bracket b) (not_true _ n) h
      | inr l ↦ no_more (length s) l
    ]
  where
    no_more : (n : ℕ) → nat_le (suc (suc n)) 1 ≡ true → ⊥
    no_more n l = let e : suc (suc n) ≤ 1 = leb-true (suc (suc n)) 1 l in absurd (omega arith)

-- the second byte of a punctuator is in no word
word_alone : (b x : ℕ) (s : List ℕ) → is_word_byte x ≡ true → is_punctuator (b ∷ x ∷ s) ≡ true → ⊥
word_alone b x s h p =
    let t : not (is_word_byte x) ≡ true = passes (λ y. not (is_word_byte (get_or y 1 0))) (b ∷ x ∷ s) refl p in
    both_ways (is_word_byte x) (not_true _ t) h

false_of : (v : Bool) → (v ≡ true → ⊥) → v ≡ false
false_of true n = absurd (n refl)
false_of false n = refl

single : (b : ℕ) (s : List ℕ) → is_punctuator (b ∷ []) ≡ true → not (b == 47) ≡ true → ((x : ℕ) (more t : List ℕ) → s ≡ x ∷ more → is_punctuator (b ∷ x ∷ t) ≡ true → ⊥) → IsLongest (b ∷ s) 1 k.Punctuator
single b s p c none = longest_single b s p (comment s) (triple s none) (double s none)
  where
    comment : (s : List ℕ) → begins_comment (b ∷ s) ≡ false
    comment [] = refl
    comment (x ∷ s) = ap (λ v. v && (x == 47 || x == 42)) (not_true (b == 47) c)

    double : (s : List ℕ) → ((x : ℕ) (more t : List ℕ) → s ≡ x ∷ more → is_punctuator (b ∷ x ∷ t) ≡ true → ⊥) → begins_double (b ∷ s) ≡ false
    double [] none = refl
    double (x ∷ s) none = false_of _ (none x s [] refl)

    triple : (s : List ℕ) → ((x : ℕ) (more t : List ℕ) → s ≡ x ∷ more → is_punctuator (b ∷ x ∷ t) ≡ true → ⊥) → begins_triple (b ∷ s) ≡ false
    triple [] none = refl
    triple (x ∷ []) none = refl
    triple (x ∷ y ∷ s) none = false_of _ (none x (y ∷ s) (y ∷ []) refl)

mark_at : (b : ℕ) (ps : List Piece) (rest : List ℕ) → fits (Mark b) ps ≡ true → all_fit ps ≡ true → AreSmall (numbers_in ps) → IsLongest (b ∷ text_onto ps rest) 1 k.Punctuator
mark_at b ps rest f all small =
    let parts = and_parts (is_punctuator (b ∷ [])) _ f in
    let more = and_parts (not (b == 47)) _ parts.1 in
    single b (text_onto ps rest) parts.0 more.0 (by (or_cases (is_bracket b) (begins_word ps) more.1))
  where
    by : (is_bracket b ≡ true) ⊎ (begins_word ps ≡ true) → (x : ℕ) (more t : List ℕ) → text_onto ps rest ≡ x ∷ more → is_punctuator (b ∷ x ∷ t) ≡ true → ⊥
    by (inl h) x more t e p = bracket_alone b x t h p
    by (inr h) x more t e p =
        let w = word_next ps rest h all small in
        let same : w.0 ≡ x = ap (λ (s : List ℕ). get_or s 0 0) (sym w.2 ∙ e) in
        word_alone b x t (subst (λ (y : ℕ). is_word_byte y ≡ true) same w.3) p

-- ---- the tokens of a text of pieces

-- a token at the front
front : (at : ℕ) (text rest : List ℕ) (kind : Kind) (l : List Token) → IsLongest (text ++ rest) (length text) kind → is_token kind ≡ true → flaw kind (length text) (text ++ rest) ≡ None → TokensFrom (at + length text) rest l → TokensFrom at (text ++ rest) (record { text = text; span = record { from = at; to = at + length text } } ∷ l)
front at text rest kind l longest t f more =
    subst (λ (x : List ℕ). TokensFrom at (text ++ rest) (record { text = x; span = record { from = at; to = at + length text } } ∷ l)) (take_at text rest (length text) refl)
    (token longest t f (subst (λ x. TokensFrom (at + length text) x l) (sym (drop_at text rest (length text) refl)) more))

word_front : (at : ℕ) (text rest : List ℕ) (l : List Token) → is_fixed text ≡ true → BeginsWith is_other rest → TokensFrom (at + length text) rest l → TokensFrom at (text ++ rest) (record { text = text; span = record { from = at; to = at + length text } } ∷ l)
word_front at text rest l h o more =
    elim (or_cases _ _ h) [
      | inl w ↦ front at text rest k.Word l (word_at text rest w o) refl refl more
      | inr n ↦
          let parts = and_parts (is_lexeme k.Number text) _ n in
          front at text rest k.Number l (number_at text rest parts.0 o) refl (number_flaw text rest parts.1) more
    ]

is_some_of : {A : Type 0} (o : Option A) (x : A) → o ≡ Some x → is_some o ≡ true
is_some_of o x e = ap is_some e

digits_number : (d : ℕ) (ds : List ℕ) → list_all is_digit (d ∷ ds) ≡ true → (after : List ℕ) → list_all is_word_byte after ≡ true → is_lexeme k.Number ((d ∷ ds) ++ after) ≡ true
digits_number d ds a after w =
    let parts = and_parts (is_digit d) (list_all is_digit ds) a in
    and_from (is_digit d) _ parts.0 (joined (all-words ds parts.1))
  where
    joined : list_all is_word_byte ds ≡ true → list_all is_word_byte (ds ++ after) ≡ true
    joined b = over ds b
      where
        over : (xs : List ℕ) → list_all is_word_byte xs ≡ true → list_all is_word_byte (xs ++ after) ≡ true
        over [] c = w
        over (x ∷ xs) c = let p = and_parts (is_word_byte x) _ c in and_from (is_word_byte x) _ p.0 (over xs p.1)

number_text : (ds after : List ℕ) → 0 < length ds → list_all is_digit ds ≡ true → list_all is_word_byte after ≡ true → is_lexeme k.Number (ds ++ after) ≡ true
number_text [] after h a w = absurd (omega arith)
number_text (d ∷ ds) after h a w = digits_number d ds a after w

-- a piece that is a word or a number
piece_fixed : (p : Piece) (ps : List Piece) → begins_word (p ∷ []) ≡ true → fits p ps ≡ true → IsSmall p → (is_fixed (piece_text p) ≡ true) × (begins_other ps ≡ true)
piece_fixed (Blank b) ps g f h = cc
piece_fixed (Mark b) ps g f h = cc
piece_fixed (Fixed t) ps g f h = let parts = and_parts (is_fixed t) _ f in (parts.0, parts.1)
piece_fixed (Own n) ps g f h = (or_left _ _ (and_from true _ refl (all-words (decimal n) (decimal-digits n h).digits)), f)
piece_fixed (Count n) ps g f h = let a = decimal-digits n h in (or_right _ _ (and_from _ _ (plain a.some a.digits) (is_some_of _ _ (plain-constant n h))), f)
  where
    plain : 0 < length (decimal n) → list_all is_digit (decimal n) ≡ true → is_lexeme k.Number (decimal n) ≡ true
    plain some all = by (decimal n) some all
      where
        by : (ds : List ℕ) → 0 < length ds → list_all is_digit ds ≡ true → is_lexeme k.Number ds ≡ true
        by [] s a = absurd (omega arith)
        by (d ∷ ds) s a = let p = and_parts (is_digit d) _ a in and_from (is_digit d) _ p.0 (all-words ds p.1)
piece_fixed (Unsigned n) ps g f h = let a = decimal-digits n h in (or_right _ _ (and_from _ _ (number_text (decimal n) (117 ∷ []) a.some a.digits refl) (is_some_of _ _ (unsigned-constant n h))), f)

pub tokens_hold : (ps : List Piece) (at : ℕ) (rest : List ℕ) (l : List Token) → all_fit ps ≡ true → AreSmall (numbers_in ps) → TokensFrom (end_of at ps) rest l → TokensFrom at (text_onto ps rest) (tokens_from at ps ++ l)
tokens_hold [] at rest l f s more = more
tokens_hold (Blank b ∷ ps) at rest l f s more =
    let parts = and_parts (is_blank b) _ f in
    gap (longest_blank b (text_onto ps rest) parts.0) refl refl (tokens_hold ps (at + 1) rest l parts.1 s more)
tokens_hold (Mark b ∷ ps) at rest l f s more =
    let parts = and_parts (fits (Mark b) ps) _ f in
    token (mark_at b ps rest parts.0 parts.1 s) refl refl (tokens_hold ps (at + 1) rest l parts.1 s more)
tokens_hold (Fixed t ∷ ps) at rest l f s more =
    let parts = and_parts (fits (Fixed t) ps) _ f in
    let w = piece_fixed (Fixed t) ps refl parts.0 tt in
    word_front at t (text_onto ps rest) (tokens_from (at + length t) ps ++ l) w.0 (other_next ps rest w.1) (tokens_hold ps (at + length t) rest l parts.1 s more)
tokens_hold (Own n ∷ ps) at rest l f s more =
    let parts = and_parts (fits (Own n) ps) _ f in
    let w = piece_fixed (Own n) ps refl parts.0 s.0 in
    word_front at (102 ∷ decimal n) (text_onto ps rest) (tokens_from (piece_end at (Own n)) ps ++ l) w.0 (other_next ps rest w.1) (tokens_hold ps (piece_end at (Own n)) rest l parts.1 s.1 more)
tokens_hold (Count n ∷ ps) at rest l f s more =
    let parts = and_parts (fits (Count n) ps) _ f in
    let w = piece_fixed (Count n) ps refl parts.0 s.0 in
    word_front at (decimal n) (text_onto ps rest) (tokens_from (piece_end at (Count n)) ps ++ l) w.0 (other_next ps rest w.1) (tokens_hold ps (piece_end at (Count n)) rest l parts.1 s.1 more)
tokens_hold (Unsigned n ∷ ps) at rest l f s more =
    let parts = and_parts (fits (Unsigned n) ps) _ f in
    let w = piece_fixed (Unsigned n) ps refl parts.0 s.0 in
    subst (λ x. TokensFrom at x (tokens_from at (Unsigned n ∷ ps) ++ l)) (append_assoc (decimal n) (117 ∷ []) (text_onto ps rest))
    (word_front at (decimal n ++ 117 ∷ []) (text_onto ps rest) (tokens_from (piece_end at (Unsigned n)) ps ++ l) w.0 (other_next ps rest w.1) (tokens_hold ps (piece_end at (Unsigned n)) rest l parts.1 s.1 more))
