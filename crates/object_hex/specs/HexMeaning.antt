-- Which texts are hex texts, of which code, and which line is the first bad one of every other text
-- (Intel, Hexadecimal Object File Format Specification, Rev. A, 1988). The code has 64 KiB at most.
use Rattle.std.specs.Prelude.{◌≡◌, ℕ, ◌+◌, ◌-◌, ◌<◌, Bool, true, false, ◌==◌, ◌||◌, nat_le, nat_lt, max, if◌then◌else◌, List, [], ◌∷◌, length, take, map, slice_get, Option, Some, None, is_some, unwrap_or, Result, Ok, Err}
use Rattle.std.specs.Option.{option_or}
use Rattle.std.specs.List.{range_with_len}
use Rattle.object_hex.specs.declared.reading.faults.HexFault.{HexFault}
use Rattle.object_hex.specs.declared.reading.faults.HexKind.{HexKind}
use Rattle.object_hex.specs.declared.reading.faults.HexKind.TheVariants.{Range, Twice, After, NoEnd}
use Rattle.object_hex.specs.declared.reading.record.RecordType.{RecordType}
use Rattle.object_hex.specs.declared.reading.record.RecordType.TheVariants.{Data, EndOfFile, UpperAddress}
use Rattle.object_hex.specs.Lines.{lines}
use Rattle.object_hex.specs.Records.{HexRecord, record_in}

-- of the bytes from an offset on, that at an address
abbrev pub byte_at : ℕ → List ℕ → ℕ → Option ℕ
byte_at offset bytes address = if nat_le offset address then slice_get bytes (address - offset) else None

-- the byte that a line gives at an address
abbrev pub byte_in : Result HexRecord HexKind → ℕ → Option ℕ
byte_in (Ok said) address = byte_at said.offset said.bytes address
byte_in (Err _) address = None

-- the byte that lines give at an address
unfoldable pub given : List (List ℕ) → ℕ → Option ℕ
given [] address = None
given (line ∷ more) address = option_or (given more address) (byte_in (record_in line) address)

-- where the bytes of a line end; 0 where it gives none
abbrev pub end_in : Result HexRecord HexKind → ℕ
end_in (Ok said) = if length said.bytes == 0 then 0 else said.offset + length said.bytes
end_in (Err _) = 0

-- the address behind the highest byte that lines give; 0 where they give none
unfoldable pub highest_end : List (List ℕ) → ℕ
highest_end [] = 0
highest_end (line ∷ more) = max (highest_end more) (end_in (record_in line))

-- the code that lines give: it reaches to the highest byte given, and has 0 where none is given
unfoldable pub code_of : List (List ℕ) → List ℕ
code_of ls = map (λ address. unwrap_or (given ls address) 0) (range_with_len 0 (highest_end ls))

-- whether a line is an end of file record
abbrev pub is_end_type : RecordType → Bool
is_end_type EndOfFile = true
is_end_type Data = false
is_end_type UpperAddress = false

abbrev pub ends_file : Result HexRecord HexKind → Bool
ends_file (Ok said) = is_end_type said.type
ends_file (Err _) = false

-- whether some line is an end of file record
unfoldable pub has_end : List (List ℕ) → Bool
has_end [] = false
has_end (line ∷ more) = has_end more || ends_file (record_in line)

-- whether an address from an offset on, of as many as there are bytes, has a byte already
abbrev pub has_some : (ℕ → Option ℕ) → ℕ → List ℕ → Bool
has_some before offset [] = false
has_some before offset (_ ∷ bytes) = is_some (before offset) || has_some before (offset + 1) bytes

-- what is wrong with bytes from an offset on, behind those given before: one past FFFFH, or one whose
-- address has a byte already
abbrev pub load_fault : (ℕ → Option ℕ) → ℕ → List ℕ → Option HexKind
load_fault before offset bytes =
    if nat_lt 65536 (offset + length bytes) then Some Range
    else if has_some before offset bytes then Some Twice
    else None

abbrev pub fault_of : (ℕ → Option ℕ) → Result HexRecord HexKind → Option HexKind
fault_of before (Err kind) = Some kind
fault_of before (Ok said) = load_fault before said.offset said.bytes

-- what is wrong with a line behind others
unfoldable pub fault_behind : List (List ℕ) → List ℕ → Option HexKind
fault_behind before line = if has_end before then Some After else fault_of (given before) (record_in line)

-- what is wrong at a place among the lines, counted from 0; behind the last line that is a missing end
-- of file record
abbrev pub fault_here : List (List ℕ) → ℕ → Option (List ℕ) → Option HexKind
fault_here ls place (Some line) = fault_behind (take place ls) line
fault_here ls place None = if has_end ls then None else Some NoEnd

unfoldable pub fault_at : List (List ℕ) → ℕ → Option HexKind
fault_at ls place = fault_here ls place (slice_get ls place)

-- a text in which nothing is wrong, and its code
pub record IsHexText (text code : List ℕ) : Type 0 where
  pub right : (place : ℕ) → fault_at (lines text) place ≡ None
  pub code_given : code ≡ code_of (lines text)

-- the first bad line of a text, counted from 1, and what is wrong with it
pub record IsFirstFault (text : List ℕ) (fault : HexFault) : Type 0 where
  pub place : ℕ
  pub line : fault.line ≡ place + 1
  pub bad : fault_at (lines text) place ≡ Some fault.kind
  pub right_before : (earlier : ℕ) → earlier < place → fault_at (lines text) earlier ≡ None
