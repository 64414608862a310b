-- A text has one list of tokens or one first fault, and not both.
use Rattle.std.proofs.Common.{◌≡◌, ◌≢◌, ◌≤◌, ℕ, ◌+◌, Bool, true, false, List, [], ◌∷◌, take, drop, refl, sym, ◌∙◌, arith}
use Rattle.std.specs.Prelude.{◌&&◌, ◌||◌, ◌==◌, Option, Some, None}
use Rattle.std.specs.List.{list_all}
use Rattle.std.proofs.lemmas.Bool.Decides.{nat_tests}
use Rattle.clight_tokens.specs.Lexemes.{Kind, is_blank, is_digit, is_letter, in_line, has_no_close, ends_at_close, has_front, is_punctuator, is_lexeme, IsLongest, HasNoLexeme}
use Rattle.clight_tokens.specs.Lexemes as k
use Rattle.clight_tokens.specs.Tokens.{Token, TokensFrom, at_end, gap, token, FaultFrom, nothing, wrong, later, is_token, flaw}
use Rattle.clight_tokens.specs.Code.Views.{begins_comment}
use Rattle.clight_tokens.proofs.PunctuatorTable.{and_left, and_right, no_letter, no_digit, no_blank, no_comment}
use Rattle.clight_tokens.proofs.Longer.{empty_none}
use Rattle.clight_tokens.proofs.Heads.{Head, head, same_byte, letter_alone, digit_alone, blank_alone}

not_both : (s : List ℕ) → ends_at_close s ≡ true → has_no_close s ≡ true → ⊥
not_both [] h g = cc
not_both (a ∷ []) h g = cc
not_both (a ∷ b ∷ []) h g = let x = rw h at g in cc
not_both (a ∷ b ∷ c ∷ s) h g = not_both (b ∷ c ∷ s) (and_right _ _ h) (and_right _ _ g)

second_bytes : (c p q : ℕ) → (c == p) ≡ true → (c == q) ≡ true → p ≡ q
second_bytes c p q h g = sym (same_byte c p h) ∙ same_byte c q g

-- comments of two kinds differ in their second byte
clash : (x c p q : ℕ) (u v : Bool) → (p ≡ q → ⊥) → (x == 47 && (c == p && u)) ≡ true → (x == 47 && (c == q && v)) ≡ true → ⊥
clash x c p q u v n h g = n (second_bytes c p q (and_left _ _ (and_right _ _ h)) (and_left _ _ (and_right _ _ g)))

begins : (x c p : ℕ) (u : Bool) → (p == 47 || p == 42) ≡ true → (x == 47 && (c == p && u)) ≡ true → (x == 47 && (c == 47 || c == 42)) ≡ true
begins x c p u w h =
    let first : x ≡ 47 = same_byte x 47 (and_left _ _ h) in
    let second : c ≡ p = same_byte c p (and_left _ _ (and_right _ _ h)) in
    rw (first, second) w

no_punctuator : (x c : ℕ) (u : List ℕ) → begins_comment (x ∷ c ∷ u) ≡ true → is_punctuator (x ∷ c ∷ u) ≡ true → ⊥
no_punctuator x c u h e = let g = no_comment (x ∷ c ∷ u) e in cc

blank_slash : (x : ℕ) → (x == 47) ≡ true → is_blank x ≡ true → ⊥
blank_slash x e h = grind (arith, nat_tests)

letter_slash : (x : ℕ) → (x == 47) ≡ true → is_letter x ≡ true → ⊥
letter_slash x e h = grind (arith, nat_tests)

digit_slash : (x : ℕ) → (x == 47) ≡ true → is_digit x ≡ true → ⊥
digit_slash x e h = grind (arith, nat_tests)

apart : ◌≢◌ {A = ℕ} 47 42
apart e = cc

apart' : ◌≢◌ {A = ℕ} 42 47
apart' e = cc

line_kind : (b : Kind) (x c : ℕ) (u : List ℕ) → has_front 47 47 (list_all in_line) (x ∷ c ∷ u) ≡ true → is_lexeme b (x ∷ c ∷ u) ≡ true → Head b x → k.LineComment ≡ b
line_kind k.LineComment x c u h g hb = refl
line_kind k.BlockComment x c u h g hb = absurd (clash x c 47 42 _ _ apart h g)
line_kind k.OpenComment x c u h g hb = absurd (clash x c 47 42 _ _ apart h g)
line_kind k.Punctuator x c u h g hb = absurd (no_punctuator x c u (begins x c 47 _ refl h) g)
line_kind k.Blank x c u h g hb = absurd (blank_slash x (and_left _ _ h) hb)
line_kind k.Word x c u h g hb = absurd (letter_slash x (and_left _ _ h) hb)
line_kind k.Number x c u h g hb = absurd (digit_slash x (and_left _ _ h) hb)

block_kind : (b : Kind) (x c : ℕ) (u : List ℕ) → has_front 47 42 ends_at_close (x ∷ c ∷ u) ≡ true → is_lexeme b (x ∷ c ∷ u) ≡ true → Head b x → k.BlockComment ≡ b
block_kind k.BlockComment x c u h g hb = refl
block_kind k.LineComment x c u h g hb = absurd (clash x c 42 47 _ _ apart' h g)
block_kind k.OpenComment x c u h g hb = absurd (not_both u (and_right _ _ (and_right _ _ h)) (and_right _ _ (and_right _ _ g)))
block_kind k.Punctuator x c u h g hb = absurd (no_punctuator x c u (begins x c 42 _ refl h) g)
block_kind k.Blank x c u h g hb = absurd (blank_slash x (and_left _ _ h) hb)
block_kind k.Word x c u h g hb = absurd (letter_slash x (and_left _ _ h) hb)
block_kind k.Number x c u h g hb = absurd (digit_slash x (and_left _ _ h) hb)

open_kind : (b : Kind) (x c : ℕ) (u : List ℕ) → has_front 47 42 has_no_close (x ∷ c ∷ u) ≡ true → is_lexeme b (x ∷ c ∷ u) ≡ true → Head b x → k.OpenComment ≡ b
open_kind k.OpenComment x c u h g hb = refl
open_kind k.LineComment x c u h g hb = absurd (clash x c 42 47 _ _ apart' h g)
open_kind k.BlockComment x c u h g hb = absurd (not_both u (and_right _ _ (and_right _ _ g)) (and_right _ _ (and_right _ _ h)))
open_kind k.Punctuator x c u h g hb = absurd (no_punctuator x c u (begins x c 42 _ refl h) g)
open_kind k.Blank x c u h g hb = absurd (blank_slash x (and_left _ _ h) hb)
open_kind k.Word x c u h g hb = absurd (letter_slash x (and_left _ _ h) hb)
open_kind k.Number x c u h g hb = absurd (digit_slash x (and_left _ _ h) hb)

bad : (v : Bool) → v ≡ true → v ≡ false → ⊥
bad v h g = cc

punctuator_kind : (b : Kind) (x : ℕ) (u : List ℕ) → is_punctuator (x ∷ u) ≡ true → is_lexeme b (x ∷ u) ≡ true → k.Punctuator ≡ b
punctuator_kind k.Punctuator x u h g = refl
punctuator_kind k.Blank x u h g = absurd (bad (is_blank x) (head k.Blank x u g) (no_blank x u h))
punctuator_kind k.Word x u h g = absurd (bad (is_letter x) (and_left _ _ g) (no_letter x u h))
punctuator_kind k.Number x u h g = absurd (bad (is_digit x) (and_left _ _ g) (no_digit x u h))
punctuator_kind k.LineComment x [] h g = cc
punctuator_kind k.LineComment x (c ∷ u) h g = absurd (no_punctuator x c u (begins x c 47 _ refl g) h)
punctuator_kind k.BlockComment x [] h g = cc
punctuator_kind k.BlockComment x (c ∷ u) h g = absurd (no_punctuator x c u (begins x c 42 _ refl g) h)
punctuator_kind k.OpenComment x [] h g = cc
punctuator_kind k.OpenComment x (c ∷ u) h g = absurd (no_punctuator x c u (begins x c 42 _ refl g) h)

some_bytes : (a b : Kind) (x : ℕ) (u : List ℕ) → is_lexeme a (x ∷ u) ≡ true → is_lexeme b (x ∷ u) ≡ true → Head b x → a ≡ b
some_bytes k.Blank b x u h g e = sym (blank_alone b x (head k.Blank x u h) e)
some_bytes k.Word b x u h g e = sym (letter_alone b x (and_left _ _ h) e)
some_bytes k.Number b x u h g e = sym (digit_alone b x (and_left _ _ h) e)
some_bytes k.Punctuator b x u h g e = punctuator_kind b x u h g
some_bytes k.LineComment b x [] h g e = cc
some_bytes k.LineComment b x (c ∷ u) h g e = line_kind b x c u h g e
some_bytes k.BlockComment b x [] h g e = cc
some_bytes k.BlockComment b x (c ∷ u) h g e = block_kind b x c u h g e
some_bytes k.OpenComment b x [] h g e = cc
some_bytes k.OpenComment b x (c ∷ u) h g e = open_kind b x c u h g e

-- a text is a lexeme of one kind at most
pub one_kind : (s : List ℕ) (a b : Kind) → is_lexeme a s ≡ true → is_lexeme b s ≡ true → a ≡ b
one_kind [] a b h g = absurd (bad _ h (empty_none a))
one_kind (x ∷ u) a b h g = some_bytes a b x u h g (head b x u g)

antiorder : (m n : ℕ) → m ≤ n → n ≤ m → m ≡ n
antiorder m n h g = omega arith

-- the longest thing at a place has one length
pub one_length : (s : List ℕ) (m n : ℕ) (a b : Kind) → IsLongest s m a → IsLongest s n b → m ≡ n
one_length s m n a b l r = antiorder m n (r.longest m a l.within l.is) (l.longest n b r.within r.is)

no_thing : (s : List ℕ) (n : ℕ) (a : Kind) → HasNoLexeme s → IsLongest s n a → ⊥
no_thing s n a h l = let e = h n a in let f = l.is in cc

-- ---- whole texts

thing : (s : List ℕ) (m n : ℕ) (a b : Kind) → IsLongest s m a → IsLongest s n b → (m ≡ n) × (a ≡ b)
thing s m n a b l r =
    let e : m ≡ n = one_length s m n a b l r in
    let g : is_lexeme a (take n s) ≡ true = rw e at l.is in
    (e, one_kind (take n s) a b g r.is)

one_flaw : (s : List ℕ) (m n : ℕ) (a b : Kind) → IsLongest s m a → IsLongest s n b → flaw a m s ≡ flaw b n s
one_flaw s m n a b l r = let t = thing s m n a b l r in rw (t.0, t.1) refl

clear : (s : List ℕ) (m n d : ℕ) (a b : Kind) → IsLongest s m a → IsLongest s n b → flaw a m s ≡ None → flaw b n s ≡ Some d → ⊥
clear s m n d a b l r f e = let t = one_flaw s m n a b l r in cc

same_fault : (p m n q : ℕ) (s : List ℕ) → m ≡ n → FaultFrom (p + n) (drop n s) q → FaultFrom (p + m) (drop m s) q
same_fault p m n q s e f = rw e f

-- what has tokens has no fault
pub tokens_or_fault : {p q : ℕ} {s : List ℕ} {l : List Token} → TokensFrom p s l → FaultFrom p s q → ⊥
tokens_or_fault at_end (wrong l f) = omega (arith, l.some, l.within)
tokens_or_fault at_end (later l f r) = omega (arith, l.some, l.within)
tokens_or_fault (gap l g f c) (nothing n) = no_thing _ _ _ n l
tokens_or_fault (gap l g f c) (wrong r e) = clear _ _ _ _ _ _ l r f e
tokens_or_fault (gap l g f c) (later r e t) = tokens_or_fault c (same_fault _ _ _ _ _ (one_length _ _ _ _ _ l r) t)
tokens_or_fault (token l g f c) (nothing n) = no_thing _ _ _ n l
tokens_or_fault (token l g f c) (wrong r e) = clear _ _ _ _ _ _ l r f e
tokens_or_fault (token l g f c) (later r e t) = tokens_or_fault c (same_fault _ _ _ _ _ (one_length _ _ _ _ _ l r) t)

same_tokens : (p m n : ℕ) (s : List ℕ) (l : List Token) → m ≡ n → TokensFrom (p + n) (drop n s) l → TokensFrom (p + m) (drop m s) l
same_tokens p m n s l e c = rw e c

kinds : (s : List ℕ) (m n : ℕ) (a b : Kind) → IsLongest s m a → IsLongest s n b → is_token a ≡ false → is_token b ≡ true → ⊥
kinds s m n a b l r g h = let t = thing s m n a b l r in let x : is_token b ≡ false = rw t.1 at g in cc

same_token : (s : List ℕ) (p m n : ℕ) (l k : List Token) → m ≡ n → l ≡ k → ◌≡◌ {A = List Token} (record { text = take m s; span = record { from = p; to = p + m } } ∷ l) (record { text = take n s; span = record { from = p; to = p + n } } ∷ k)
same_token s p m n l k e f = rw (e, f)

-- a text has one list of tokens
pub one_list : {p : ℕ} {s : List ℕ} {l m : List Token} → TokensFrom p s l → TokensFrom p s m → l ≡ m
one_list at_end at_end = refl
one_list at_end (gap l g f c) = absurd (omega (arith, l.some, l.within))
one_list at_end (token l g f c) = absurd (omega (arith, l.some, l.within))
one_list (gap l g f c) at_end = absurd (omega (arith, l.some, l.within))
one_list (token l g f c) at_end = absurd (omega (arith, l.some, l.within))
one_list (gap l g f c) (gap r h e d) = one_list c (same_tokens _ _ _ _ _ (one_length _ _ _ _ _ l r) d)
one_list (gap l g f c) (token r h e d) = absurd (kinds _ _ _ _ _ l r g h)
one_list (token l g f c) (gap r h e d) = absurd (kinds _ _ _ _ _ r l h g)
one_list (token l g f c) (token r h e d) = same_token _ _ _ _ _ _ (one_length _ _ _ _ _ l r) (one_list c (same_tokens _ _ _ _ _ (one_length _ _ _ _ _ l r) d))

same_place : (p d e : ℕ) → ◌≡◌ {A = Option ℕ} (Some d) (Some e) → p + d ≡ p + e
same_place p d e h = let g : d ≡ e = cc in rw g refl

flaw_place : (p : ℕ) (s : List ℕ) (m n d e : ℕ) (a b : Kind) → IsLongest s m a → IsLongest s n b → flaw a m s ≡ Some d → flaw b n s ≡ Some e → p + d ≡ p + e
flaw_place p s m n d e a b l r f g = same_place p d e (sym f ∙ one_flaw s m n a b l r ∙ g)

-- a text has one first fault
pub one_fault : {p q r : ℕ} {s : List ℕ} → FaultFrom p s q → FaultFrom p s r → q ≡ r
one_fault (nothing n) (nothing m) = refl
one_fault (nothing n) (wrong l f) = absurd (no_thing _ _ _ n l)
one_fault (nothing n) (later l f t) = absurd (no_thing _ _ _ n l)
one_fault (wrong l f) (nothing n) = absurd (no_thing _ _ _ n l)
one_fault (wrong l f) (wrong r g) = flaw_place _ _ _ _ _ _ _ _ l r f g
one_fault (wrong l f) (later r g t) = absurd (clear _ _ _ _ _ _ r l g f)
one_fault (later l f t) (nothing n) = absurd (no_thing _ _ _ n l)
one_fault (later l f t) (wrong r g) = absurd (clear _ _ _ _ _ _ l r f g)
one_fault (later l f t) (later r g u) = one_fault t (same_fault _ _ _ _ _ (one_length _ _ _ _ _ l r) u)
