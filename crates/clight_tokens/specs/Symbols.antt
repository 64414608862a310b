-- What a token is to the grammar (ISO/IEC 9899:1999, 6.4.1, 6.4.2 and 6.4.6): a keyword, a name by its number, a constant or a
-- punctuator. `P1` is a keyword of this compiler. A keyword or a punctuator that stands in no rule of the grammar is `Other`.
use Rattle.std.specs.Prelude.{◌≡◌, slice_get, ℕ, if◌then◌else◌, List, [], ◌∷◌, ◌++◌, map, filter, fold, slice_index, codes, Bool, ◌&&◌, Option, Some, None, is_none, unwrap_or}
use Rattle.std.specs.List.{list_any, position}
use Rattle.std.specs.Str.{bytes_eq}
use Rattle.std.specs.Map.{lookup}
use Rattle.clight_source.specs.declared.symbol.Symbol.{Symbol}
use Rattle.clight_source.specs.declared.symbol.Symbol.TheVariants as s
use Rattle.clight_source.specs.declared.symbol.Literal.{Literal}
use Rattle.clight_source.specs.declared.symbol.Terminal.{Terminal}
use Rattle.clight_tokens.specs.Lexemes.{is_letter, is_digit}
use Rattle.clight_tokens.specs.Constants.{constant_of}
use Rattle.clight_tokens.specs.Tokens.{Token}

unfoldable pub keywords : List (List ℕ × Symbol)
keywords =
    (codes "break", s.Break) ∷ (codes "char", s.Char) ∷ (codes "continue", s.Continue) ∷ (codes "do", s.Do) ∷ (codes "else", s.Else) ∷
    (codes "for", s.For) ∷ (codes "if", s.If) ∷ (codes "int", s.Int) ∷ (codes "long", s.Long) ∷ (codes "P1", s.PortOne) ∷
    (codes "return", s.Return) ∷ (codes "signed", s.Signed) ∷ (codes "struct", s.Struct) ∷ (codes "unsigned", s.Unsigned) ∷
    (codes "void", s.Void) ∷ (codes "while", s.While) ∷
    (codes "auto", s.Other) ∷ (codes "case", s.Other) ∷ (codes "const", s.Other) ∷ (codes "default", s.Other) ∷ (codes "double", s.Other) ∷
    (codes "enum", s.Other) ∷ (codes "extern", s.Other) ∷ (codes "float", s.Other) ∷ (codes "goto", s.Other) ∷ (codes "inline", s.Other) ∷
    (codes "register", s.Other) ∷ (codes "restrict", s.Other) ∷ (codes "short", s.Other) ∷ (codes "sizeof", s.Other) ∷
    (codes "static", s.Other) ∷ (codes "switch", s.Other) ∷ (codes "typedef", s.Other) ∷ (codes "union", s.Other) ∷
    (codes "volatile", s.Other) ∷ (codes "_Bool", s.Other) ∷ (codes "_Complex", s.Other) ∷ (codes "_Imaginary", s.Other) ∷ []

-- the punctuators of the grammar
unfoldable pub marks : List (List ℕ × Symbol)
marks =
    (codes "(", s.LeftParenthesis) ∷ (codes ")", s.RightParenthesis) ∷ (codes "[", s.LeftBracket) ∷ (codes "]", s.RightBracket) ∷
    (codes "{", s.LeftBrace) ∷ (codes "}", s.RightBrace) ∷ (codes ";", s.Semicolon) ∷ (codes ",", s.Comma) ∷ (codes ".", s.Dot) ∷
    (codes "->", s.Arrow) ∷ (codes "=", s.Assign) ∷ (codes "+", s.Plus) ∷ (codes "-", s.Minus) ∷ (codes "*", s.Star) ∷ (codes "/", s.Slash) ∷
    (codes "%", s.Percent) ∷ (codes "&", s.Ampersand) ∷ (codes "|", s.Bar) ∷ (codes "^", s.Caret) ∷ (codes "~", s.Tilde) ∷
    (codes "!", s.Exclamation) ∷ (codes "<", s.Less) ∷ (codes ">", s.Greater) ∷ (codes "<=", s.LessOrEqual) ∷ (codes ">=", s.GreaterOrEqual) ∷
    (codes "==", s.EqualTo) ∷ (codes "!=", s.NotEqualTo) ∷ (codes "<<", s.ShiftLeft) ∷ (codes ">>", s.ShiftRight) ∷ (codes "&&", s.AndAnd) ∷
    (codes "||", s.OrOr) ∷ []

abbrev pub keyword_of : List ℕ → Option Symbol
keyword_of text = lookup (bytes_eq text) keywords

-- a word that is no keyword
abbrev pub is_name : List ℕ → Bool
is_name text = is_letter (slice_index text 0) && is_none (keyword_of text)

abbrev pub name_symbol : Option ℕ → Symbol
name_symbol None = s.Other
name_symbol (Some number) = s.Name number

abbrev pub number_symbol : Option Literal → Symbol
number_symbol None = s.Other
number_symbol (Some literal) = s.Number literal

-- the symbol of a word, where the names have their numbers by this list
abbrev pub word_symbol : List (List ℕ) → List ℕ → Symbol
word_symbol names text = unwrap_or (keyword_of text) (name_symbol (position (bytes_eq text) names))

-- the symbol of a token's text, where the names have their numbers by this list
abbrev pub symbol_of : List (List ℕ) → List ℕ → Symbol
symbol_of names text =
    if is_letter (slice_index text 0) then word_symbol names text else
    (if is_digit (slice_index text 0) then number_symbol (constant_of text) else unwrap_or (lookup (bytes_eq text) marks) s.Other)

abbrev pub terminal_of : List (List ℕ) → Token → Terminal
terminal_of names t = record { symbol = symbol_of names t.text; span = t.span }

-- the list with a name at its end, unless it has it
abbrev pub with_name : List (List ℕ) → List ℕ → List (List ℕ)
with_name names text = if list_any (bytes_eq text) names then names else names ++ text ∷ []

-- the names of a list of tokens, each once, in the order of their first appearance
abbrev pub names_of : List Token → List (List ℕ)
names_of l = fold with_name [] (filter is_name (map (λ t. t.text) l))

-- the terminal symbols of a list of tokens
abbrev pub terminals_of : List Token → List Terminal
terminals_of l = map (terminal_of (names_of l)) l

-- the text is a name with a number, and the number has its spelling
pub record IsNumbered (names : List (List ℕ)) (text : List ℕ) : Type 0 where
  pub number : ℕ
  pub symbol : symbol_of names text ≡ s.Name number
  pub spelling : slice_get names number ≡ Some text
