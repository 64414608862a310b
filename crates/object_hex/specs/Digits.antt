-- Numbers in hex digits, as both texts of an object have them: pairs of upper case digits, one for
-- each byte, the high byte first (Intel, Hexadecimal Object File Format Specification, Rev. A, 1988).
use Rattle.std.specs.Prelude.{ℕ, ◌/◌, ◌%◌, List, [], ◌∷◌}
use Rattle.hex.specs.Hex.{encode_upper}

-- the two bytes of an address, the high one first
abbrev pub address_bytes : ℕ → List ℕ
address_bytes address = address / 256 ∷ address % 256 ∷ []

-- bytes as pairs of hex digits
abbrev pub pairs : List ℕ → List ℕ
pairs bytes = encode_upper bytes
