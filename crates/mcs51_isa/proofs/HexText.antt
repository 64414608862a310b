-- Bytes in hexadecimal digits.
use Rattle.std.proofs.Common.{◌≡◌, ℕ, ◌+◌, ◌*◌, ◌<◌, ◌≤◌, List, [], ◌∷◌, ◌++◌, length, take, get_or, refl, ap, sym, ◌∙◌, arith}
use Rattle.std.specs.List.{flat_map}
use Rattle.std.proofs.lemmas.List.{take_more, flat_map_more, length-append, length-take-le}
use Rattle.cerco_base.specs.HexDigits.{hex_byte}

pub length-hex_bytes : (bytes : List ℕ) → length (flat_map hex_byte bytes) ≡ 2 * length bytes
length-hex_bytes [] = refl
length-hex_bytes (b ∷ bytes) = let rest = length-hex_bytes bytes in grind arith

pub length-with_hex_bytes : (old line bytes : List ℕ) (i : ℕ) → i ≤ length bytes → line ≡ old ++ flat_map hex_byte (take i bytes) → length line ≡ length old + 2 * i
length-with_hex_bytes old line bytes i h e =
    let digits = flat_map hex_byte (take i bytes) in
    let size : length line ≡ length old + length digits = ap length e ∙ length-append old digits in
    omega (arith, length-hex_bytes (take i bytes), length-take-le i bytes)

pub hex_bytes_more : (line bytes : List ℕ) (i : ℕ) → i < length bytes → (line ++ flat_map hex_byte (take i bytes)) ++ hex_byte (get_or bytes i 0) ≡ line ++ flat_map hex_byte (take (i + 1) bytes)
hex_bytes_more line bytes i h =
    flat_map_more hex_byte line (take i bytes) (get_or bytes i 0) ∙ ap (λ (xs : List ℕ). line ++ flat_map hex_byte xs) (sym (take_more bytes i 0 h))
