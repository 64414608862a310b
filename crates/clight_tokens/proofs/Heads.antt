-- The first byte of what stands at a place.
use Rattle.std.proofs.Common.{◌≡◌, ℕ, Bool, true, false, List, [], ◌∷◌, refl, arith}
use Rattle.std.specs.Prelude.{◌&&◌, ◌||◌, ◌==◌}
use Rattle.std.proofs.lemmas.Bool.Decides.{nat_tests}
use Rattle.clight_tokens.specs.Lexemes.{Kind, is_blank, is_digit, is_letter, is_punctuator, is_lexeme}
use Rattle.clight_tokens.specs.Lexemes as k
use Rattle.clight_tokens.specs.Code.Views.{begins_comment}
use Rattle.clight_tokens.proofs.PunctuatorTable.{and_left, and_right, first_alone, no_letter, no_digit, no_blank}

abbrev pub Head : Kind → ℕ → Type 0
Head k.Blank b = is_blank b ≡ true
Head k.LineComment b = b ≡ 47
Head k.BlockComment b = b ≡ 47
Head k.OpenComment b = b ≡ 47
Head k.Word b = is_letter b ≡ true
Head k.Number b = is_digit b ≡ true
Head k.Punctuator b = is_punctuator (b ∷ []) ≡ true

pub same_byte : (a b : ℕ) → (a == b) ≡ true → a ≡ b
same_byte a b h = grind (arith, nat_tests)

pub head : (kind : Kind) (b : ℕ) (s : List ℕ) → is_lexeme kind (b ∷ s) ≡ true → Head kind b
head k.Blank b [] h = h
head k.Blank b (c ∷ s) h = cc
head k.LineComment b [] h = cc
head k.LineComment b (c ∷ s) h = same_byte b 47 (and_left _ _ h)
head k.BlockComment b [] h = cc
head k.BlockComment b (c ∷ s) h = same_byte b 47 (and_left _ _ h)
head k.OpenComment b [] h = cc
head k.OpenComment b (c ∷ s) h = same_byte b 47 (and_left _ _ h)
head k.Word b s h = and_left _ _ h
head k.Number b s h = and_left _ _ h
head k.Punctuator b s h = first_alone b s h

clash : (v : Bool) → v ≡ true → v ≡ false → ⊥
clash v h g = cc

pub letter_alone : (kind : Kind) (b : ℕ) → is_letter b ≡ true → Head kind b → kind ≡ k.Word
letter_alone k.Word b h g = refl
letter_alone k.Blank b h g = absurd (grind (arith, nat_tests))
letter_alone k.LineComment b h g = absurd (grind (arith, nat_tests))
letter_alone k.BlockComment b h g = absurd (grind (arith, nat_tests))
letter_alone k.OpenComment b h g = absurd (grind (arith, nat_tests))
letter_alone k.Number b h g = absurd (grind (arith, nat_tests))
letter_alone k.Punctuator b h g = absurd (clash (is_letter b) h (no_letter b [] g))

pub digit_alone : (kind : Kind) (b : ℕ) → is_digit b ≡ true → Head kind b → kind ≡ k.Number
digit_alone k.Number b h g = refl
digit_alone k.Blank b h g = absurd (grind (arith, nat_tests))
digit_alone k.LineComment b h g = absurd (grind (arith, nat_tests))
digit_alone k.BlockComment b h g = absurd (grind (arith, nat_tests))
digit_alone k.OpenComment b h g = absurd (grind (arith, nat_tests))
digit_alone k.Word b h g = absurd (grind (arith, nat_tests))
digit_alone k.Punctuator b h g = absurd (clash (is_digit b) h (no_digit b [] g))

pub blank_alone : (kind : Kind) (b : ℕ) → is_blank b ≡ true → Head kind b → kind ≡ k.Blank
blank_alone k.Blank b h g = refl
blank_alone k.Number b h g = absurd (grind (arith, nat_tests))
blank_alone k.LineComment b h g = absurd (grind (arith, nat_tests))
blank_alone k.BlockComment b h g = absurd (grind (arith, nat_tests))
blank_alone k.OpenComment b h g = absurd (grind (arith, nat_tests))
blank_alone k.Word b h g = absurd (grind (arith, nat_tests))
blank_alone k.Punctuator b h g = absurd (clash (is_blank b) h (no_blank b [] g))

-- a comment begins with `//` or `/*`
comment_head : (x c y : ℕ) (v : Bool) → (x == 47 && (c == y && v)) ≡ true → (c == y) ≡ true
comment_head x c y v h = and_left _ _ (and_right _ _ h)

commented : (x c y : ℕ) (v : Bool) → (x == 47 && (c == y && v)) ≡ true → (y == 47 || y == 42) ≡ true → (x == 47 && (c == 47 || c == 42)) ≡ false → ⊥
commented x c y v h at n =
    let first : x ≡ 47 = same_byte x 47 (and_left _ _ h) in
    let second : c ≡ y = same_byte c y (comment_head x c y v h) in
    let e = rw (first, second) at n in cc

-- where no comment begins, what begins with a punctuator is one
pub punctuator_alone : (kind : Kind) (b : ℕ) (s : List ℕ) → is_punctuator (b ∷ []) ≡ true → begins_comment (b ∷ s) ≡ false → is_lexeme kind (b ∷ s) ≡ true → kind ≡ k.Punctuator
punctuator_alone k.Punctuator b s p n h = refl
punctuator_alone k.Blank b s p n h = absurd (clash (is_blank b) (head k.Blank b s h) (no_blank b [] p))
punctuator_alone k.Word b s p n h = absurd (clash (is_letter b) (and_left _ _ h) (no_letter b [] p))
punctuator_alone k.Number b s p n h = absurd (clash (is_digit b) (and_left _ _ h) (no_digit b [] p))
punctuator_alone k.LineComment b [] p n h = cc
punctuator_alone k.LineComment b (c ∷ s) p n h = absurd (commented b c 47 _ h refl n)
punctuator_alone k.BlockComment b [] p n h = cc
punctuator_alone k.BlockComment b (c ∷ s) p n h = absurd (commented b c 42 _ h refl n)
punctuator_alone k.OpenComment b [] p n h = cc
punctuator_alone k.OpenComment b (c ∷ s) p n h = absurd (commented b c 42 _ h refl n)
