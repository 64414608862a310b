-- What a line of Intel's hexadecimal object format says (Intel, Hexadecimal Object File Format
-- Specification, Rev. A, 1988), where the code has 64 KiB at most: records of the types 00, data, 01,
-- end of file, and 04, extended linear address, whose address has to be 0.
use Rattle.std.specs.Prelude.{ℕ, ◌+◌, ◌*◌, ◌%◌, Bool, ◌==◌, ◌&&◌, if◌then◌else◌, List, [], ◌∷◌, length, take, drop, sum, slice_index, Option, Some, None, Result, Ok, Err}
use Rattle.hex.specs.Hex.{decode_of}
use Rattle.hex.specs.declared.error.FromHexError.{FromHexError}
use Rattle.object_hex.specs.declared.reading.faults.HexKind.{HexKind}
use Rattle.object_hex.specs.declared.reading.faults.HexKind.TheVariants.{Form, Sum, «Type», Upper, End}
use Rattle.object_hex.specs.declared.reading.record.RecordType.{RecordType}
use Rattle.object_hex.specs.declared.reading.record.RecordType.TheVariants.{Data, EndOfFile, UpperAddress}

-- the bytes of a record: the first says how many data bytes it has; the two bytes of the offset, the
-- type and the checksum stand beside them
abbrev pub of_its_length : Result (List ℕ) FromHexError → Option (List ℕ)
of_its_length (Ok []) = None
of_its_length (Ok (count ∷ rest)) = if length rest == count + 4 then Some (count ∷ rest) else None
of_its_length (Err _) = None

-- the bytes in a line: the record mark ':', and pairs of digits
abbrev pub record_bytes : List ℕ → Option (List ℕ)
record_bytes [] = None
record_bytes (mark ∷ digits) = if mark == 58 then of_its_length (decode_of digits) else None

-- the offset at which a record's bytes are loaded, the high byte first
abbrev pub offset_of : List ℕ → ℕ
offset_of bytes = 256 * slice_index bytes 1 + slice_index bytes 2

-- the data bytes of a record
abbrev pub data_of : List ℕ → List ℕ
data_of bytes = take (slice_index bytes 0) (drop 4 bytes)

-- whether bytes are the address 0 of an extended linear address record
abbrev pub is_address_zero : List ℕ → Bool
is_address_zero bytes = length bytes == 2 && (slice_index bytes 0 == 0 && slice_index bytes 1 == 0)

-- a record with a number as its type, and with these data bytes
abbrev pub typed : ℕ → List ℕ → Result RecordType HexKind
typed number bytes =
    if number == 0 then Ok Data
    else if number == 1 then (if length bytes == 0 then Ok EndOfFile else Err End)
    else if number == 4 then (if is_address_zero bytes then Ok UpperAddress else Err Upper)
    else Err «Type»

-- the type of a record, all of whose bytes sum to 0 modulo 256
abbrev pub type_of : List ℕ → Result RecordType HexKind
type_of bytes = if sum bytes % 256 == 0 then typed (slice_index bytes 3) (data_of bytes) else Err Sum

-- what a record says: its type, and the bytes that are loaded from an offset on
pub record HexRecord : Type 0 where
  pub type : RecordType
  pub offset : ℕ
  pub bytes : List ℕ

-- the bytes that a record with this type loads: only a data record loads bytes
abbrev pub loaded : RecordType → List ℕ → List ℕ
loaded Data bytes = bytes
loaded EndOfFile bytes = []
loaded UpperAddress bytes = []

abbrev pub with_type : List ℕ → Result RecordType HexKind → Result HexRecord HexKind
with_type bytes (Ok type) = Ok (record { type = type; offset = offset_of bytes; bytes = loaded type (data_of bytes) })
with_type bytes (Err kind) = Err kind

abbrev pub from_bytes : Option (List ℕ) → Result HexRecord HexKind
from_bytes None = Err Form
from_bytes (Some bytes) = with_type bytes (type_of bytes)

-- the record in a line, or what is wrong with the line by itself
unfoldable pub record_in : List ℕ → Result HexRecord HexKind
record_in line = from_bytes (record_bytes line)
