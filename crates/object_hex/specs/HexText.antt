-- The text of an object's code (Intel, Hexadecimal Object File Format Specification, Rev. A, 1988:
-- records of the types 00, data, and 01, end of file).
use Rattle.std.specs.Prelude.{ℕ, ◌-◌, ◌*◌, ◌%◌, List, [], ◌∷◌, ◌++◌, length, take, drop, sum, codes}
use Rattle.std.specs.Int.{div_ceil}
use Rattle.std.specs.List.{flat_map, range_with_len}
use Rattle.object_hex.specs.Digits.{address_bytes, pairs}

-- what a record says: how many data bytes it has, at which offset they are loaded, its type, and the
-- data bytes
abbrev pub contents : ℕ → ℕ → List ℕ → List ℕ
contents kind offset bytes = length bytes ∷ (address_bytes offset ++ kind ∷ bytes)

-- the two's complement of the sum of a record's bytes: with it they sum to 0 modulo 256
abbrev pub checksum : List ℕ → ℕ
checksum bytes = (256 - sum bytes % 256) % 256

-- the line of a record: the record mark, the bytes and their checksum as pairs of digits, and LF
abbrev pub record_line : ℕ → ℕ → List ℕ → List ℕ
record_line kind offset bytes =
    let said = contents kind offset bytes in
    codes ":" ++ (pairs (said ++ checksum said ∷ []) ++ codes "\n")

-- the data record with a number, counted from 0: the sixteen bytes from its offset on, fewer at the end
abbrev pub data_line : List ℕ → ℕ → List ℕ
data_line code i = record_line 0 (16 * i) (take 16 (drop (16 * i) code))

-- the end of file record
abbrev pub end_line : List ℕ
end_line = record_line 1 0 []

-- the text of a code: as many data records as it needs, by rising address, and the end of file record
abbrev pub hex_text : List ℕ → List ℕ
hex_text code = flat_map (data_line code) (range_with_len 0 (div_ceil (length code) 16)) ++ end_line
