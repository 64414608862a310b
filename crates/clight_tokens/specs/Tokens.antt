-- The tokens of a text, and the first place at which it has none (ISO/IEC 9899:1999, 5.1.1.2 and 6.4): a text is an alternation of
-- gaps and tokens, and at each place the longest of what can stand there is taken.
use Rattle.std.specs.Prelude.{◌≡◌, ◌≤◌, ◌<◌, ℕ, suc, ◌+◌, Bool, true, false, ◌&&◌, ◌||◌, ◌==◌, cond, List, [], ◌∷◌, take, drop, length, slice_index, codes, nat_eq, Option, Some, None, is_some, IsTrue, IsFalse}
use Rattle.std.specs.List.{list_all, starts_with}
use Rattle.cerco_base.specs.declared.reasons.Fault.{Fault}
use Rattle.cerco_base.specs.declared.reasons.Fault.TheVariants.{Refused, OutOfMemory}
use Rattle.cerco_base.specs.declared.reasons.Reason.TheVariants as r
use Rattle.clight_source.specs.declared.span.Span.{Span}
use Rattle.clight_source.specs.Markers.{HasNoMarker}
use Rattle.clight_tokens.specs.Lexemes.{Kind, LineComment, BlockComment, OpenComment, Word, Number, Punctuator, IsLongest, HasNoLexeme, is_source_byte}
use Rattle.clight_tokens.specs.Constants.{constant_of}

-- a token with its place
pub record Token : Type 0 where
  pub text : List ℕ
  pub span : Span

-- the tokens of a text, with its length
pub record Tokenised : Type 0 where
  pub tokens : List Token
  pub length : ℕ

abbrev pub is_token : Kind → Bool
is_token Word = true
is_token Number = true
is_token Punctuator = true
is_token _ = false

-- a backslash directly before a line end
abbrev pub is_splice : ℕ → ℕ → Bool
is_splice a b = a == 92 && (b == 10 || b == 13)

abbrev pub one_on : Option ℕ → Option ℕ
one_on None = None
one_on (Some n) = Some (suc n)

-- where the first two neighbours stand that pass the test
abbrev pub first_pair : (ℕ → ℕ → Bool) → List ℕ → Option ℕ
first_pair test [] = None
first_pair test (a ∷ []) = None
first_pair test (a ∷ b ∷ s) = cond (test a b) (Some 0) (one_on (first_pair test (b ∷ s)))

-- What is wrong with the first n bytes of s, which are such a thing, by its place in them: an unclosed comment, a number that is no
-- constant, or a backslash before a line end in a comment. The line end behind a `//` comment is no part of it.
abbrev pub flaw : Kind → ℕ → List ℕ → Option ℕ
flaw OpenComment n s = Some 0
flaw Number n s = cond (is_some (constant_of (take n s))) None (Some 0)
flaw LineComment n s = first_pair is_splice (take (n + 1) s)
flaw BlockComment n s = first_pair is_splice (take n s)
flaw _ n s = None

-- The rest s of a text, which begins at the offset p, is an alternation of gaps and tokens, and these are the tokens.
pub data TokensFrom : ℕ → List ℕ → List Token → Type 0 where
  at_end : {p : ℕ} → TokensFrom p [] []
  gap : {p n : ℕ} {s : List ℕ} {l : List Token} {kind : Kind} → IsLongest s n kind → is_token kind ≡ false → flaw kind n s ≡ None → TokensFrom (p + n) (drop n s) l → TokensFrom p s l
  token : {p n : ℕ} {s : List ℕ} {l : List Token} {kind : Kind} → IsLongest s n kind → is_token kind ≡ true → flaw kind n s ≡ None → TokensFrom (p + n) (drop n s) l → TokensFrom p s (record { text = take n s; span = record { from = p; to = p + n } } ∷ l)

-- The rest s, which begins at the offset p, is none, and its first fault stands at q.
pub data FaultFrom : ℕ → List ℕ → ℕ → Type 0 where
  nothing : {p a : ℕ} {s : List ℕ} → HasNoLexeme (a ∷ s) → FaultFrom p (a ∷ s) p
  wrong : {p n d : ℕ} {s : List ℕ} {kind : Kind} → IsLongest s n kind → flaw kind n s ≡ Some d → FaultFrom p s (p + d)
  later : {p n q : ℕ} {s : List ℕ} {kind : Kind} → IsLongest s n kind → flaw kind n s ≡ None → FaultFrom (p + n) (drop n s) q → FaultFrom p s q

-- ---- whole texts

-- the first byte that no source has stands at q
pub record IsFirstWrongByte (text : List ℕ) (q : ℕ) : Type 0 where
  pub within : q < length text
  pub wrong : is_source_byte (slice_index text q) ≡ false
  pub before : list_all is_source_byte (take q text) ≡ true

-- the first `/*@` stands at q
pub record IsFirstMarker (text : List ℕ) (q : ℕ) : Type 0 where
  pub here : IsTrue (starts_with nat_eq (drop q text) (codes "/*@"))
  pub before : (k : ℕ) → k < q → IsFalse (starts_with nat_eq (drop k text) (codes "/*@"))

-- at most 65,535 bytes, each one that a source has
pub record HasSourceBytes (text : List ℕ) : Type 0 where
  pub short : length text ≤ 65535
  pub bytes : list_all is_source_byte text ≡ true

-- the text is a source's up to its tokens, and these are they
pub record HasTokens (text : List ℕ) (l : List Token) : Type 0 where
  pub source : HasSourceBytes text
  pub unmarked : HasNoMarker text
  pub tokens : TokensFrom 0 text l

-- the tokens stand from p on one behind the other, each with a byte at least, up to the offset e at most
abbrev pub AreAscending : ℕ → List Token → ℕ → Type 0
AreAscending p [] e = p ≤ e
AreAscending p (t ∷ l) e = (p ≤ t.span.from) × (t.span.from < t.span.to) × AreAscending t.span.to l e

-- these are the tokens and the length of some source text
pub record IsTokenised (t : Tokenised) : Type 0 where
  pub text : List ℕ
  pub tokens : HasTokens text t.tokens
  pub length_is : length text ≡ t.length

-- why a text has no tokens: the first of these reasons, and its first place. Nothing is said of being out of memory.
abbrev pub HasFault : List ℕ → Fault → Type 0
HasFault text OutOfMemory = Unit {0}
HasFault text (Refused r.TooLong) = 65535 < length text
HasFault text (Refused (r.Byte q)) = (length text ≤ 65535) × IsFirstWrongByte text q
HasFault text (Refused (r.Marker q)) = HasSourceBytes text × IsFirstMarker text q
HasFault text (Refused (r.Token q)) = HasSourceBytes text × HasNoMarker text × FaultFrom 0 text q
HasFault text _ = ⊥
