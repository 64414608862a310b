-- Which texts are texts of the addresses of labels, and which line is the first bad one of every other
-- text. The format is the compiler's own.
use Rattle.std.specs.Prelude.{◌≡◌, ◌≢◌, ℕ, ◌+◌, ◌*◌, ◌<◌, ◌==◌, if◌then◌else◌, List, [], ◌∷◌, length, take, drop, slice_index, slice_index_or, codes, decimal, Option, Some, None, Result, Ok, Err}
use lib.Pointwise.{pointwise}
use Rattle.hex.specs.Hex.{decode_of}
use Rattle.hex.specs.declared.error.FromHexError.{FromHexError}
use Rattle.object_hex.specs.declared.reading.faults.MapFault.{MapFault}
use Rattle.object_hex.specs.Lines.{lines}

-- what follows a front of some bytes, if they begin with it
abbrev pub behind : List ℕ → List ℕ → Option (List ℕ)
behind front bytes = if pointwise ◌==◌ (take (length front) bytes) front then Some (drop (length front) bytes) else None

-- the number of two bytes, the high one first
abbrev pub word_of : Result (List ℕ) FromHexError → Option ℕ
word_of (Ok []) = None
word_of (Ok (byte ∷ [])) = None
word_of (Ok (high ∷ low ∷ [])) = Some (256 * high + low)
word_of (Ok (high ∷ low ∷ more ∷ bytes)) = None
word_of (Err _) = None

-- an address in hex digits
abbrev pub in_digits : Option (List ℕ) → Option ℕ
in_digits None = None
in_digits (Some digits) = word_of (decode_of digits)

-- an address behind a blank
abbrev pub behind_blank : Option (List ℕ) → Option ℕ
behind_blank None = None
behind_blank (Some bytes) = in_digits (behind (codes " ") bytes)

-- the address in the line of the label with a number: the number in decimal, a blank, and the address in
-- four hex digits
unfoldable pub address_in : ℕ → List ℕ → Option ℕ
address_in label line = behind_blank (behind (decimal label) line)

-- no address is among others twice
abbrev pub AreDistinct : List ℕ → Type 0
AreDistinct addresses = (earlier later : ℕ) → earlier < later → later < length addresses → slice_index addresses earlier ≢ slice_index addresses later

-- lines that give the addresses of labels: one line for each label, by its number counted from 0, and no
-- address twice
pub record IsMapOf (ls : List (List ℕ)) (addresses : List ℕ) : Type 0 where
  pub count : length addresses ≡ length ls
  pub each : (label : ℕ) → label < length addresses → address_in label (slice_index_or ls label []) ≡ Some (slice_index addresses label)
  pub apart : AreDistinct addresses

-- a text whose lines give these addresses
abbrev pub IsMapText : List ℕ → List ℕ → Type 0
IsMapText text addresses = IsMapOf (lines text) addresses

-- the first bad line of a text, counted from 1: the lines before it give addresses, and with it they
-- don't
pub record IsFirstBadLine (text : List ℕ) (fault : MapFault) : Type 0 where
  pub place : ℕ
  pub line : fault.line ≡ place + 1
  pub within : place < length (lines text)
  pub before : List ℕ
  pub right_before : IsMapOf (take place (lines text)) before
  pub bad : (addresses : List ℕ) → IsMapOf (take (place + 1) (lines text)) addresses → ⊥
