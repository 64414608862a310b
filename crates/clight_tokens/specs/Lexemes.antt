-- What can stand at a place of a source: a blank, a comment, a word, a number or a punctuator, and the longest of these
-- (ISO/IEC 9899:1999, 6.4, 6.4.1, 6.4.2, 6.4.4.1, 6.4.6 and 6.4.9, in the compiler's profile of C: `docs/language.md`). Digraphs, `#`,
-- strings and character constants aren't among them.
use Rattle.std.specs.Prelude.{◌≡◌, ◌≤◌, ◌<◌, ℕ, Bool, true, false, not, ◌&&◌, ◌||◌, ◌==◌, nat_le, List, [], ◌∷◌, take, length, codes}
use Rattle.std.specs.List.{list_all, list_any}
use Rattle.std.specs.Str.{bytes_eq}

-- a printable ASCII byte, a tab, a line feed or a carriage return
abbrev pub is_source_byte : ℕ → Bool
is_source_byte b = (nat_le 32 b && nat_le b 126) || (b == 9 || (b == 10 || b == 13))

-- a blank, a tab or a line end
abbrev pub is_blank : ℕ → Bool
is_blank b = b == 32 || (b == 9 || (b == 10 || b == 13))

abbrev pub is_digit : ℕ → Bool
is_digit b = nat_le 48 b && nat_le b 57

-- a letter or `_`
abbrev pub is_letter : ℕ → Bool
is_letter b = (nat_le 65 b && nat_le b 90) || ((nat_le 97 b && nat_le b 122) || b == 95)

-- a letter, `_` or a digit
abbrev pub is_word_byte : ℕ → Bool
is_word_byte b = is_letter b || is_digit b

-- a byte that ends no line
abbrev pub in_line : ℕ → Bool
in_line b = not (b == 10 || b == 13)

-- `*/`
abbrev pub is_close : ℕ → ℕ → Bool
is_close a b = a == 42 && b == 47

-- no `*/` stands there
abbrev pub has_no_close : List ℕ → Bool
has_no_close [] = true
has_no_close (a ∷ []) = true
has_no_close (a ∷ b ∷ s) = not (is_close a b) && has_no_close (b ∷ s)

-- its only `*/` stands at its end
abbrev pub ends_at_close : List ℕ → Bool
ends_at_close [] = false
ends_at_close (a ∷ []) = false
ends_at_close (a ∷ b ∷ []) = is_close a b
ends_at_close (a ∷ b ∷ c ∷ s) = not (is_close a b) && ends_at_close (b ∷ c ∷ s)

-- two bytes, and what passes the test behind them
abbrev pub has_front : ℕ → ℕ → (List ℕ → Bool) → List ℕ → Bool
has_front x y test (a ∷ b ∷ s) = a == x && (b == y && test s)
has_front x y test _ = false

-- a byte, and others behind it
abbrev pub is_run : (ℕ → Bool) → (ℕ → Bool) → List ℕ → Bool
is_run first others (a ∷ s) = first a && list_all others s
is_run first others [] = false

abbrev pub is_one_byte : (ℕ → Bool) → List ℕ → Bool
is_one_byte test (a ∷ []) = test a
is_one_byte test _ = false

abbrev pub punctuators : List (List ℕ)
punctuators =
    codes "(" ∷ codes ")" ∷ codes "{" ∷ codes "}" ∷ codes "[" ∷ codes "]" ∷ codes ";" ∷ codes "," ∷ codes "=" ∷ codes "+" ∷ codes "-" ∷ codes "*" ∷ codes "/" ∷
    codes "%" ∷ codes "&" ∷ codes "|" ∷ codes "^" ∷ codes "~" ∷ codes "!" ∷ codes "<" ∷ codes ">" ∷ codes "." ∷ codes "?" ∷ codes ":" ∷
    codes "<=" ∷ codes ">=" ∷ codes "==" ∷ codes "!=" ∷ codes "<<" ∷ codes ">>" ∷ codes "&&" ∷ codes "||" ∷ codes "->" ∷ codes "++" ∷ codes "--" ∷
    codes "+=" ∷ codes "-=" ∷ codes "*=" ∷ codes "/=" ∷ codes "%=" ∷ codes "&=" ∷ codes "|=" ∷ codes "^=" ∷
    codes "<<=" ∷ codes ">>=" ∷ codes "..." ∷ []

unfoldable pub is_punctuator : List ℕ → Bool
is_punctuator s = list_any (λ p. bytes_eq p s) punctuators

-- What can stand at a place. A word is a name or a keyword. A run that begins with a digit is one number, well formed or not. An
-- unclosed comment reaches to the text's end.
pub data Kind : Type 0 where
  Blank : Kind
  LineComment : Kind
  BlockComment : Kind
  OpenComment : Kind
  Word : Kind
  Number : Kind
  Punctuator : Kind

-- the bytes are one such thing
abbrev pub is_lexeme : Kind → List ℕ → Bool
is_lexeme Blank s = is_one_byte is_blank s
is_lexeme LineComment s = has_front 47 47 (list_all in_line) s
is_lexeme BlockComment s = has_front 47 42 ends_at_close s
is_lexeme OpenComment s = has_front 47 42 has_no_close s
is_lexeme Word s = is_run is_letter is_word_byte s
is_lexeme Number s = is_run is_digit is_word_byte s
is_lexeme Punctuator s = is_punctuator s

-- the first n bytes of s are the longest such thing that stands there
pub record IsLongest (s : List ℕ) (n : ℕ) (kind : Kind) : Type 0 where
  pub some : 0 < n
  pub within : n ≤ length s
  pub is : is_lexeme kind (take n s) ≡ true
  pub longest : (m : ℕ) (other : Kind) → m ≤ length s → is_lexeme other (take m s) ≡ true → m ≤ n

-- nothing stands there
abbrev pub HasNoLexeme : List ℕ → Type 0
HasNoLexeme s = (m : ℕ) (kind : Kind) → is_lexeme kind (take m s) ≡ false
