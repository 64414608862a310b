-- Lower case hex digits made upper case.
use Rattle.std.proofs.Common.{◌≡◌, ℕ, ◌/◌, ◌%◌, true, eqb, List, [], ◌∷◌, map, slice_index, refl, ap, ap₂, sym, ◌∙◌, inl, inr}
use Rattle.std.specs.Char.{to_ascii_uppercase}
use Rattle.std.proofs.lemmas.Bool.{agree_below_at, cases_lt, eqb-true}
use Rattle.std.proofs.lemmas.List.{get_or_past}
use Rattle.hex.specs.Hex.{encode_with, encode_lower, lower_digits, upper_digits}
use Rattle.object_hex.specs.Digits.{pairs}

-- the sixteen digits agree
raised_digit : (d : ℕ) → to_ascii_uppercase (slice_index lower_digits d) ≡ slice_index upper_digits d
raised_digit d = elim (cases_lt d 16) [
  | inl small ↦ eqb-true (to_ascii_uppercase (slice_index lower_digits d)) (slice_index upper_digits d)
      (agree_below_at (λ k. eqb (to_ascii_uppercase (slice_index lower_digits k)) (slice_index upper_digits k)) (λ k. true) 16 d refl small)
  | inr large ↦ ap to_ascii_uppercase (get_or_past lower_digits d 0 large) ∙ sym (get_or_past upper_digits d 0 large)
]

pub map-encode_lower : (bytes : List ℕ) → map to_ascii_uppercase (encode_lower bytes) ≡ pairs bytes
unfolding encode_with
map-encode_lower [] = refl
map-encode_lower (byte ∷ bytes) =
    ap₂ (λ high low. high ∷ low ∷ map to_ascii_uppercase (encode_lower bytes)) (raised_digit (byte / 16)) (raised_digit (byte % 16))
    ∙ ap (λ rest. slice_index upper_digits (byte / 16) ∷ slice_index upper_digits (byte % 16) ∷ rest) (map-encode_lower bytes)
