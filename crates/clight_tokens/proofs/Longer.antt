-- The longest thing at a place, by its first bytes.
use Rattle.std.proofs.Common.{◌≡◌, ◌≤◌, ◌<◌, ℕ, zero, suc, Bool, true, false, List, [], ◌∷◌, take, length, refl, subst, arith, inl, inr}
use Rattle.std.proofs.lemmas.List.{length-take-le}
use Rattle.std.proofs.lemmas.Bool.{cases_lt}
use Rattle.std.specs.Prelude.{◌&&◌, cond}
use Rattle.std.specs.List.{list_all}
use Rattle.clight_tokens.specs.Lexemes.{Kind, is_blank, is_digit, is_letter, is_word_byte, is_one_byte, is_punctuator, is_lexeme, IsLongest, HasNoLexeme}
use Rattle.clight_tokens.specs.Lexemes as k
use Rattle.clight_tokens.specs.Code.Views.{run_length, begins_comment, begins_double, begins_triple}
use Rattle.clight_tokens.proofs.PunctuatorTable.{and_right, at_most_three, not_empty}
use Rattle.clight_tokens.proofs.Heads.{Head, head, letter_alone, digit_alone, blank_alone, punctuator_alone}

within_by : (v : Bool) (n l : ℕ) → n ≤ l → cond v (suc n) 0 ≤ suc l
within_by true n l h = omega arith
within_by false n l h = omega arith

pub run_within : (p : ℕ → Bool) (s : List ℕ) → run_length p s ≤ length s
run_within p [] = omega arith
run_within p (b ∷ s) = within_by (p b) (run_length p s) (length s) (run_within p s)

all_by : (p : ℕ → Bool) (v : Bool) (b n : ℕ) (s : List ℕ) → p b ≡ v → list_all p (take n s) ≡ true → list_all p (take (cond v (suc n) 0) (b ∷ s)) ≡ true
all_by p true b n s h e = rw h e
all_by p false b n s h e = refl

pub run_all : (p : ℕ → Bool) (s : List ℕ) → list_all p (take (run_length p s) s) ≡ true
run_all p [] = refl
run_all p (b ∷ s) = all_by p (p b) b (run_length p s) s refl (run_all p s)

most_by : (p : ℕ → Bool) (v : Bool) (b m n : ℕ) (s : List ℕ) → p b ≡ v → (list_all p (take m s) ≡ true → m ≤ n) → (p b && list_all p (take m s)) ≡ true → suc m ≤ cond v (suc n) 0
most_by p true b m n s h f e = let g = f (and_right _ _ e) in omega arith
most_by p false b m n s h f e = let g = rw h at e in cc

pub run_most : (p : ℕ → Bool) (s : List ℕ) (m : ℕ) → m ≤ length s → list_all p (take m s) ≡ true → m ≤ run_length p s
run_most p s zero h e = omega arith
run_most p [] (suc m) h e = absurd (omega arith)
run_most p (b ∷ s) (suc m) h e = most_by p (p b) b m (run_length p s) s refl (run_most p s m (omega arith)) e

-- nothing is empty
pub empty_none : (kind : Kind) → is_lexeme kind [] ≡ false
empty_none k.Blank = refl
empty_none k.LineComment = refl
empty_none k.BlockComment = refl
empty_none k.OpenComment = refl
empty_none k.Word = refl
empty_none k.Number = refl
empty_none k.Punctuator = not_empty

-- where only one kind can stand, it is enough to look at that kind
by_kind : (b : ℕ) (s : List ℕ) (n : ℕ) (kind : Kind) → ((m : ℕ) (other : Kind) → is_lexeme other (b ∷ take m s) ≡ true → other ≡ kind) → suc n ≤ length (b ∷ s) → is_lexeme kind (b ∷ take n s) ≡ true → ((m : ℕ) → m ≤ length s → is_lexeme kind (b ∷ take m s) ≡ true → m ≤ n) → IsLongest (b ∷ s) (suc n) kind
by_kind b s n kind alone w i f = record { some = omega arith; within = w; is = i; longest = most }
  where
    most : (m : ℕ) (other : Kind) → m ≤ length (b ∷ s) → is_lexeme other (take m (b ∷ s)) ≡ true → m ≤ suc n
    most zero other h e = omega arith
    most (suc m) other h e =
        let g : is_lexeme kind (b ∷ take m s) ≡ true = subst (λ x. is_lexeme x (b ∷ take m s) ≡ true) (alone m other e) e in
        let r : m ≤ n = f m (omega arith) g in omega arith

pub longest_word : (b : ℕ) (s : List ℕ) → is_letter b ≡ true → IsLongest (b ∷ s) (suc (run_length is_word_byte s)) k.Word
longest_word b s h =
    let w = run_within is_word_byte s in
    by_kind b s (run_length is_word_byte s) k.Word (λ m o e. letter_alone o b h (head o b (take m s) e)) (omega arith) (rw h (run_all is_word_byte s)) (λ m l e. run_most is_word_byte s m l (and_right _ _ e))

pub longest_number : (b : ℕ) (s : List ℕ) → is_digit b ≡ true → IsLongest (b ∷ s) (suc (run_length is_word_byte s)) k.Number
longest_number b s h =
    let w = run_within is_word_byte s in
    by_kind b s (run_length is_word_byte s) k.Number (λ m o e. digit_alone o b h (head o b (take m s) e)) (omega arith) (rw h (run_all is_word_byte s)) (λ m l e. run_most is_word_byte s m l (and_right _ _ e))

only_one : (p : ℕ → Bool) (b : ℕ) (s : List ℕ) (m : ℕ) → m ≤ length s → is_one_byte p (b ∷ take m s) ≡ true → m ≤ 0
only_one p b s zero l e = omega arith
only_one p b [] (suc m) l e = absurd (omega arith)
only_one p b (c ∷ s) (suc m) l e = cc

pub longest_blank : (b : ℕ) (s : List ℕ) → is_blank b ≡ true → IsLongest (b ∷ s) 1 k.Blank
longest_blank b s h = by_kind b s 0 k.Blank (λ m o e. blank_alone o b h (head o b (take m s) e)) (omega arith) h (only_one is_blank b s)

-- ---- punctuators

-- no longer one stands there
abbrev pub NoLonger : ℕ → List ℕ → ℕ → Type 0
NoLonger b s n = (m : ℕ) → n < m → m ≤ 2 → m ≤ length s → is_punctuator (b ∷ take m s) ≡ false

punctuator_most : (b : ℕ) (s : List ℕ) (n : ℕ) → NoLonger b s n → (m : ℕ) → m ≤ length s → is_punctuator (b ∷ take m s) ≡ true → m ≤ n
punctuator_most b s n none m l e =
    let short : length (b ∷ take m s) ≤ 3 = at_most_three (b ∷ take m s) e in
    let count : length (take m s) ≡ m = length-take-le m s l in
    elim (cases_lt n m) [ inl above ↦ absurd (clash (none m above (omega arith) l) e) | inr le ↦ le ]
  where
    clash : {v : Bool} → v ≡ false → v ≡ true → ⊥
    clash f t = cc

pub longest_punctuator : (b : ℕ) (s : List ℕ) (n : ℕ) → is_punctuator (b ∷ []) ≡ true → begins_comment (b ∷ s) ≡ false → n ≤ length s → is_punctuator (b ∷ take n s) ≡ true → NoLonger b s n → IsLongest (b ∷ s) (suc n) k.Punctuator
longest_punctuator b s n p c w i none =
    by_kind b s n k.Punctuator (λ m o e. punctuator_alone o b (take m s) p (no_comment_front b s m c) e) (omega arith) i (punctuator_most b s n none)
  where
    no_comment_front : (b : ℕ) (s : List ℕ) (m : ℕ) → begins_comment (b ∷ s) ≡ false → begins_comment (b ∷ take m s) ≡ false
    no_comment_front b s zero c = refl
    no_comment_front b [] (suc m) c = refl
    no_comment_front b (x ∷ s) (suc m) c = c

no_third : (b : ℕ) (s : List ℕ) → begins_triple (b ∷ s) ≡ false → (m : ℕ) → 1 < m → m ≤ 2 → m ≤ length s → is_punctuator (b ∷ take m s) ≡ false
no_third b s t zero a h l = absurd (omega arith)
no_third b s t (suc zero) a h l = absurd (omega arith)
no_third b [] t (suc (suc zero)) a h l = absurd (omega arith)
no_third b (x ∷ []) t (suc (suc zero)) a h l = absurd (omega arith)
no_third b (x ∷ y ∷ s) t (suc (suc zero)) a h l = t
no_third b s t (suc (suc (suc m))) a h l = absurd (omega arith)

no_second : (b : ℕ) (s : List ℕ) → begins_triple (b ∷ s) ≡ false → begins_double (b ∷ s) ≡ false → NoLonger b s 0
no_second b s t d zero a h l = absurd (omega arith)
no_second b [] t d (suc zero) a h l = absurd (omega arith)
no_second b (x ∷ s) t d (suc zero) a h l = d
no_second b s t d (suc (suc m)) a h l = no_third b s t (suc (suc m)) (omega arith) h l

pub longest_triple : (b : ℕ) (s : List ℕ) → is_punctuator (b ∷ []) ≡ true → begins_comment (b ∷ s) ≡ false → begins_triple (b ∷ s) ≡ true → IsLongest (b ∷ s) 3 k.Punctuator
longest_triple b [] p c t = cc
longest_triple b (x ∷ []) p c t = cc
longest_triple b (x ∷ y ∷ s) p c t = longest_punctuator b (x ∷ y ∷ s) 2 p c (omega arith) t (λ m a h l. absurd (omega arith))

pub longest_double : (b : ℕ) (s : List ℕ) → is_punctuator (b ∷ []) ≡ true → begins_comment (b ∷ s) ≡ false → begins_triple (b ∷ s) ≡ false → begins_double (b ∷ s) ≡ true → IsLongest (b ∷ s) 2 k.Punctuator
longest_double b [] p c t d = cc
longest_double b (x ∷ s) p c t d = longest_punctuator b (x ∷ s) 1 p c (omega arith) d (no_third b (x ∷ s) t)

pub longest_single : (b : ℕ) (s : List ℕ) → is_punctuator (b ∷ []) ≡ true → begins_comment (b ∷ s) ≡ false → begins_triple (b ∷ s) ≡ false → begins_double (b ∷ s) ≡ false → IsLongest (b ∷ s) 1 k.Punctuator
longest_single b s p c t d = longest_punctuator b s 0 p c (omega arith) p (no_second b s t d)

-- ---- nothing

no_kind : (kind : Kind) (b : ℕ) → is_blank b ≡ false → is_letter b ≡ false → is_digit b ≡ false → is_punctuator (b ∷ []) ≡ false → is_punctuator (47 ∷ []) ≡ true → Head kind b → ⊥
no_kind k.Blank b p q d r t h = cc
no_kind k.LineComment b p q d r t h = let x = rw h at r in cc
no_kind k.BlockComment b p q d r t h = let x = rw h at r in cc
no_kind k.OpenComment b p q d r t h = let x = rw h at r in cc
no_kind k.Word b p q d r t h = cc
no_kind k.Number b p q d r t h = cc
no_kind k.Punctuator b p q d r t h = cc

slash_alone : is_punctuator (47 ∷ []) ≡ true
unfolding is_punctuator
slash_alone = refl

no_head : (kind : Kind) (b : ℕ) (s : List ℕ) → is_blank b ≡ false → is_letter b ≡ false → is_digit b ≡ false → is_punctuator (b ∷ []) ≡ false → (v : Bool) → is_lexeme kind (b ∷ s) ≡ v → is_lexeme kind (b ∷ s) ≡ false
no_head kind b s p q d r true e = absurd (no_kind kind b p q d r slash_alone (head kind b s e))
no_head kind b s p q d r false e = e

pub nothing_at : (b : ℕ) (s : List ℕ) → is_blank b ≡ false → is_letter b ≡ false → is_digit b ≡ false → is_punctuator (b ∷ []) ≡ false → HasNoLexeme (b ∷ s)
nothing_at b s p q d r zero kind = empty_none kind
nothing_at b s p q d r (suc m) kind = no_head kind b (take m s) p q d r (is_lexeme kind (b ∷ take m s)) refl
