-- The definitions of tokens and symbols at small texts.
use Rattle.std.proofs.Common.{◌≡◌, ◌+◌, ℕ, true, false, List, [], ◌∷◌, map, length, refl}
use Rattle.std.specs.Prelude.{codes, Some, None}
use Rattle.std.specs.List.{list_all}
use Rattle.clight_source.specs.declared.symbol.Radix.TheVariants.{Decimal, Octal, Hexadecimal}
use Rattle.clight_source.specs.declared.symbol.Symbol.{Symbol}
use Rattle.clight_source.specs.declared.symbol.Symbol.TheVariants as s
use Rattle.clight_tokens.specs.Lexemes.{is_lexeme, is_punctuator, LineComment, BlockComment, OpenComment, Word}
use Rattle.clight_tokens.specs.Constants.{constant_of}
use Rattle.clight_tokens.specs.Tokens.{Token, flaw}
use Rattle.clight_tokens.specs.Symbols.{keywords, marks, names_of, symbol_of}

-- ---- constants

hexadecimal : constant_of (codes "0x1fU") ≡ Some (record { value = 31; radix = Hexadecimal; unsigned = true })
unfolding constant_of
hexadecimal = refl

zero_alone : constant_of (codes "0") ≡ Some (record { value = 0; radix = Decimal; unsigned = false })
unfolding constant_of
zero_alone = refl

octal_zero : constant_of (codes "00") ≡ Some (record { value = 0; radix = Octal; unsigned = false })
unfolding constant_of
octal_zero = refl

largest : constant_of (codes "65535u") ≡ Some (record { value = 65535; radix = Decimal; unsigned = true })
unfolding constant_of
largest = refl

too_large : constant_of (codes "65536") ≡ None
unfolding constant_of
too_large = refl

no_octal_digit : constant_of (codes "08") ≡ None
unfolding constant_of
no_octal_digit = refl

no_digits : constant_of (codes "0xu") ≡ None
unfolding constant_of
no_digits = refl

two_suffixes : constant_of (codes "1uu") ≡ None
unfolding constant_of
two_suffixes = refl

-- ---- what stands at a place

closed_comment : is_lexeme BlockComment (codes "/*/ **/") ≡ true
closed_comment = refl

not_closed_twice : is_lexeme BlockComment (codes "/**/*/") ≡ false
not_closed_twice = refl

one_star : is_lexeme BlockComment (codes "/*/") ≡ false
one_star = refl

one_star_open : is_lexeme OpenComment (codes "/*/") ≡ true
one_star_open = refl

-- the line end (10) is no part of a comment of one line
line_comment : is_lexeme LineComment (codes "// a") ≡ true
line_comment = refl

line_end : is_lexeme LineComment (47 ∷ 47 ∷ 10 ∷ []) ≡ false
line_end = refl

spliced_line : flaw LineComment 4 (47 ∷ 47 ∷ 97 ∷ 92 ∷ 10 ∷ []) ≡ Some 3
spliced_line = refl

spliced_block : flaw BlockComment 6 (47 ∷ 42 ∷ 92 ∷ 13 ∷ 42 ∷ 47 ∷ []) ≡ Some 2
spliced_block = refl

three_bytes : is_punctuator (codes "<<=") ≡ true
unfolding is_punctuator
three_bytes = refl

no_two_dots : is_punctuator (codes "..") ≡ false
unfolding is_punctuator
no_two_dots = refl

-- ---- symbols

-- C99 has 37 keywords
keyword_count : length keywords ≡ 37 + 1
unfolding keywords
keyword_count = refl

keywords_are_words : list_all (λ (k : List ℕ × Symbol). is_lexeme Word k.0) keywords ≡ true
unfolding keywords
keywords_are_words = refl

marks_are_punctuators : list_all (λ (k : List ℕ × Symbol). is_punctuator k.0) marks ≡ true
unfolding marks is_punctuator
marks_are_punctuators = refl

abbrev sample : List Token
sample = map (λ (text : List ℕ). record { text = text; span = record { from = 0; to = 0 } }) (codes "b" ∷ codes "if" ∷ codes "a" ∷ codes "b" ∷ codes "<=" ∷ codes "%=" ∷ codes "017" ∷ [])

sample_names : names_of sample ≡ codes "b" ∷ codes "a" ∷ []
unfolding keywords
sample_names = refl

sample_symbols : map (λ (t : Token). symbol_of (names_of sample) t.text) sample ≡ s.Name 0 ∷ s.If ∷ s.Name 1 ∷ s.Name 0 ∷ s.LessOrEqual ∷ s.Other ∷ s.Number (record { value = 15; radix = Octal; unsigned = false }) ∷ []
unfolding keywords marks constant_of
sample_symbols = refl
