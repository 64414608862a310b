-- What the values of the code stand for, and what its searches find.
use Rattle.std.specs.Prelude.{◌≡◌, ℕ, suc, cond, Bool, true, false, ◌&&◌, ◌||◌, ◌==◌, List, [], ◌∷◌, Option, Some, None}
use Rattle.clight_source.specs.declared.symbol.Radix.{Radix}
use Rattle.clight_tokens.specs.Lexemes as l
use Rattle.clight_tokens.specs.Lexemes.{is_close, is_punctuator, IsLongest, HasNoLexeme}
use Rattle.clight_tokens.specs.Tokens.{is_splice}
use Rattle.clight_tokens.specs.Constants.{is_constant, number_in, base}
use Rattle.clight_tokens.specs.declared.bytes.Pair.{Pair}
use Rattle.clight_tokens.specs.declared.bytes.Pair.TheVariants as p
use Rattle.clight_tokens.specs.declared.lexemes.Kind.{Kind}
use Rattle.clight_tokens.specs.declared.lexemes.Kind.TheVariants as k
use Rattle.clight_tokens.specs.declared.lexemes.Lexeme.{Lexeme}

-- the test for these neighbours
abbrev pub test_of : Pair → ℕ → ℕ → Bool
test_of p.Close = is_close
test_of p.Splice = is_splice

abbrev pub kind_of : Kind → l.Kind
kind_of k.Blank = l.Blank
kind_of k.LineComment = l.LineComment
kind_of k.BlockComment = l.BlockComment
kind_of k.OpenComment = l.OpenComment
kind_of k.Word = l.Word
kind_of k.Number = l.Number
kind_of k.Punctuator = l.Punctuator

-- how many bytes at the front pass
abbrev pub run_length : (ℕ → Bool) → List ℕ → ℕ
run_length p [] = 0
run_length p (b ∷ s) = cond (p b) (suc (run_length p s)) 0

-- the bytes begin with `//` or `/*`
abbrev pub begins_comment : List ℕ → Bool
begins_comment (a ∷ b ∷ s) = a == 47 && (b == 47 || b == 42)
begins_comment _ = false

-- the bytes begin with a punctuator of two bytes, or of three
abbrev pub begins_double : List ℕ → Bool
begins_double (a ∷ b ∷ s) = is_punctuator (a ∷ b ∷ [])
begins_double _ = false

abbrev pub begins_triple : List ℕ → Bool
begins_triple (a ∷ b ∷ c ∷ s) = is_punctuator (a ∷ b ∷ c ∷ [])
begins_triple _ = false

-- the longest thing at the front was found
abbrev pub IsLexeme : List ℕ → Option Lexeme → Type 0
IsLexeme s None = HasNoLexeme s
IsLexeme s (Some found) = IsLongest s found.len (kind_of found.kind)

-- the longest thing was found where the test says that there is one
abbrev pub IsLexemeAt : (List ℕ → Bool) → List ℕ → Option Lexeme → Type 0
IsLexemeAt test s None = test s ≡ false
IsLexemeAt test s (Some found) = IsLongest s found.len (kind_of found.kind)

-- the value of these digits was found, where they are a constant's
abbrev pub IsValue : Radix → List ℕ → Option ℕ → Type 0
IsValue radix digits None = is_constant radix digits ≡ false
IsValue radix digits (Some value) = (is_constant radix digits ≡ true) × (value ≡ number_in (base radix) digits)
