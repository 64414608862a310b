-- The address in the line of a label.
use Rattle.std.proofs.Common.{◌≡◌, ℕ, ◌+◌, ◌*◌, true, false, cond, List, [], ◌∷◌, length, take, drop, get_or, Some, None, refl, ap, sym, ◌∙◌, arith}
use Rattle.std.specs.Prelude.{◌≢◌, ◌==◌, Result, Ok, Err, MatchResult}
use lib.Pointwise.{pointwise}
use Rattle.hex.specs.Hex.{decode_of, decode_sized}
use Rattle.hex.specs.declared.error.FromHexError.{FromHexError}
use Rattle.hex.proofs.HexLemmas.{decode_of-ok, decode_sized-ok, decode_sized-twice}
use Rattle.object_hex.specs.MapMeaning.{behind, word_of}

pub behind-not : (front bytes : List ℕ) → pointwise ◌==◌ (take (length front) bytes) front ≡ false → behind front bytes ≡ None
behind-not front bytes e = ap (λ b. cond b (Some (drop (length front) bytes)) None) e

pub behind-is : (front bytes : List ℕ) → pointwise ◌==◌ (take (length front) bytes) front ≡ true → behind front bytes ≡ Some (drop (length front) bytes)
behind-is front bytes e = ap (λ b. cond b (Some (drop (length front) bytes)) None) e

-- two bytes are a number
word_of-two : (bytes : List ℕ) → length bytes ≡ 2 → word_of (Ok bytes) ≡ Some (256 * get_or bytes 0 0 + get_or bytes 1 0)
word_of-two [] two = absurd (omega arith)
word_of-two (high ∷ []) two = absurd (omega arith)
word_of-two (high ∷ low ∷ []) two = refl
word_of-two (high ∷ low ∷ more ∷ bytes) two = absurd (omega arith)

word_of-other : (bytes : List ℕ) → length bytes ≢ 2 → word_of (Ok bytes) ≡ None
word_of-other [] other = refl
word_of-other (byte ∷ []) other = refl
word_of-other (high ∷ low ∷ []) other = absurd (other refl)
word_of-other (high ∷ low ∷ more ∷ bytes) other = refl

read_two : (digits bytes : List ℕ) → decode_sized digits 2 ≡ Ok bytes → word_of (decode_of digits) ≡ Some (256 * get_or bytes 0 0 + get_or bytes 1 0)
read_two digits bytes e =
    let four : length digits ≡ 2 * 2 = decode_sized-ok digits 2 bytes e in
    let all : decode_of digits ≡ Ok bytes = sym (decode_sized-twice digits 2 four) ∙ e in
    let found = decode_of-ok digits bytes all in
    ap word_of all ∙ word_of-two bytes (omega arith)

refused_two : (digits : List ℕ) (error : FromHexError) (decoded : Result (List ℕ) FromHexError) → decode_sized digits 2 ≡ Err error → decode_of digits ≡ decoded → word_of decoded ≡ None
refused_two digits error (Ok bytes) e all =
    let found = decode_of-ok digits bytes all in
    word_of-other bytes (λ two.
    let sized : decode_sized digits 2 ≡ Ok bytes = decode_sized-twice digits 2 (omega arith) ∙ all in
    let apart : Err error ≡ Ok bytes = sym e ∙ sized in
    absurd (cc))
refused_two digits error (Err other) e all = refl

-- what decoding into two bytes answered, next to what the digits decode to
abbrev pub Decoded : Result (List ℕ) FromHexError → Result (Unit {0}) FromHexError → List ℕ → Type 0
Decoded sized answer out = MatchResult sized (λ bytes. (answer ≡ Ok tt) × (out ≡ bytes)) (λ error. answer ≡ Err error)

pub word_read : (digits out : List ℕ) (answer : Result (Unit {0}) FromHexError) (u : Unit {0}) (sized : Result (List ℕ) FromHexError) → decode_sized digits 2 ≡ sized → Decoded sized answer out → answer ≡ Ok u → word_of (decode_of digits) ≡ Some (256 * get_or out 0 0 + get_or out 1 0)
word_read digits out answer u (Ok bytes) e found ok = read_two digits bytes e ∙ ap (λ all. Some (256 * get_or all 0 0 + get_or all 1 0)) (sym found.1)
word_read digits out answer u (Err error) e found ok = (let apart : Err error ≡ Ok u = sym found ∙ ok in absurd (cc))

pub word_refused : (digits out : List ℕ) (answer : Result (Unit {0}) FromHexError) (other : FromHexError) (sized : Result (List ℕ) FromHexError) → decode_sized digits 2 ≡ sized → Decoded sized answer out → answer ≡ Err other → word_of (decode_of digits) ≡ None
word_refused digits out answer other (Ok bytes) e found err = (let apart : Ok tt ≡ Err other = sym found.0 ∙ err in absurd (cc))
word_refused digits out answer other (Err error) e found err = refused_two digits error (decode_of digits) e refl
