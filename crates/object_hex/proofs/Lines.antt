-- The lines of the two texts, as they are put piece by piece.
use Rattle.std.proofs.Common.{◌≡◌, ℕ, ◌/◌, ◌%◌, List, [], ◌∷◌, ◌++◌, length, slice_index, codes, refl, ap, ◌∙◌, append_assoc}
use Rattle.hex.specs.Hex.{encode_with, upper_digits}
use Rattle.object_hex.specs.Digits.{pairs}
use Rattle.object_hex.specs.HexText.{checksum, record_line}

pub pairs-append : (front behind : List ℕ) → pairs (front ++ behind) ≡ pairs front ++ pairs behind
unfolding encode_with
pairs-append [] behind = refl
pairs-append (byte ∷ front) behind = ap (λ rest. slice_index upper_digits (byte / 16) ∷ slice_index upper_digits (byte % 16) ∷ rest) (pairs-append front behind)

-- what stands in a record before its data bytes
abbrev pub head_of : ℕ → ℕ → List ℕ → List ℕ
head_of kind offset bytes = length bytes ∷ offset / 256 ∷ offset % 256 ∷ kind ∷ []

-- the pieces of a record's line
abbrev pub record_pieces : ℕ → ℕ → List ℕ → List ℕ
record_pieces kind offset bytes =
    codes ":" ++ (pairs (head_of kind offset bytes) ++ (pairs bytes ++ (pairs (checksum (head_of kind offset bytes ++ bytes) ∷ []) ++ codes "\n")))

pub record_line-pieces : (kind offset : ℕ) (bytes : List ℕ) → record_line kind offset bytes ≡ record_pieces kind offset bytes
record_line-pieces kind offset bytes =
    let head = head_of kind offset bytes in
    let last = checksum (head ++ bytes) ∷ [] in
    ap (λ digits. codes ":" ++ (digits ++ codes "\n")) (pairs-append head (bytes ++ last) ∙ ap (λ digits. pairs head ++ digits) (pairs-append bytes last))
    ∙ ap (λ digits. codes ":" ++ digits) (append_assoc (pairs head) (pairs bytes ++ pairs last) (codes "\n"))
    ∙ ap (λ digits. codes ":" ++ (pairs head ++ digits)) (append_assoc (pairs bytes) (pairs last) (codes "\n"))
