-- The lines of a text that was written line by line.
use Rattle.std.proofs.Common.{◌≡◌, ℕ, zero, suc, ◌/◌, ◌%◌, ◌<◌, leb, true, List, [], ◌∷◌, ◌++◌, length, get_or, slice_index, refl, ap, ◌∙◌, arith}
use Rattle.std.proofs.lemmas.Bool.{agree_below_at, leb-true}
use Rattle.hex.specs.Hex.{IsBytes, encode_with, upper_digits}
use Rattle.object_hex.specs.Digits.{pairs}
use Rattle.object_hex.specs.Lines.{lines}
use Rattle.object_hex.proofs.Splits.{lines-found, without_cr, without_cr-other}

-- text without control characters
pub record Plain (text : List ℕ) : Type 0 where
  pub above : (place : ℕ) → place < length text → 13 < get_or text place 0

pub Plain-cons : (byte : ℕ) (text : List ℕ) → 13 < byte → Plain text → Plain (byte ∷ text)
Plain-cons byte text above plain = record { above = each }
  where
    each : (place : ℕ) → place < suc (length text) → 13 < get_or (byte ∷ text) place 0
    each zero within = above
    each (suc place) within = plain.above place (omega arith)

pub Plain-nil : Plain []
Plain-nil = record { above = λ place within. absurd (omega arith) }

pub Plain-append : (front rest : List ℕ) → Plain front → Plain rest → Plain (front ++ rest)
Plain-append [] rest plain also = also
Plain-append (byte ∷ front) rest plain also =
    Plain-cons byte (front ++ rest) (plain.above 0 (omega arith)) (Plain-append front rest (record { above = λ place within. plain.above (suc place) (omega arith) }) also)

digit_above : (d : ℕ) → d < 16 → 13 < slice_index upper_digits d
digit_above d small = leb-true 14 (slice_index upper_digits d) (agree_below_at (λ k. leb 14 (slice_index upper_digits k)) (λ k. true) 16 d refl small)

pub Plain-pairs : (bytes : List ℕ) → IsBytes bytes → Plain (pairs bytes)
unfolding encode_with
Plain-pairs [] fit = Plain-nil
Plain-pairs (byte ∷ bytes) fit =
    let small : byte < 256 = fit 0 in
    Plain-cons (slice_index upper_digits (byte / 16)) _ (digit_above (byte / 16) (omega arith))
    (Plain-cons (slice_index upper_digits (byte % 16)) _ (digit_above (byte % 16) (omega arith)) (Plain-pairs bytes (λ place. fit (suc place))))

without_cr-plain : (line : List ℕ) → Plain line → without_cr line ≡ line
without_cr-plain [] plain = refl
without_cr-plain (byte ∷ more) plain =
    without_cr-other (byte ∷ more) (length more) refl (λ equal. let above = plain.above (length more) (omega arith) in absurd (omega arith))

-- a plain line and its LF
pub lines-plain : (line rest : List ℕ) → Plain line → lines (line ++ 10 ∷ rest) ≡ line ∷ lines rest
lines-plain line rest plain =
    lines-found line rest (λ place within equal. let above = plain.above place within in absurd (omega arith))
    ∙ ap (λ first. first ∷ lines rest) (without_cr-plain line plain)
