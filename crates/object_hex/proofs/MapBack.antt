-- A text of label addresses that was written gives the addresses back.
use Rattle.std.proofs.Common.{◌≡◌, ℕ, zero, suc, ◌+◌, ◌*◌, ◌^◌, ◌/◌, ◌%◌, ◌<◌, ◌≤◌, List, [], ◌∷◌, ◌++◌, length, map, take, get_or, codes, decimal, Some, refl, ap, sym, subst, ◌∙◌, inl, inr, arith, append_assoc}
use Rattle.std.specs.Prelude.{Result}
use Rattle.std.proofs.lemmas.Bool.{cases_lt}
use Rattle.std.proofs.lemmas.Fmt.{decimal-digits_of, decimal_digit}
use Rattle.std.specs.Int.Digits.{digits_of}
use Rattle.std.specs.List.{All, enumerate_from, flat_map}
use lib.Pointwise.{bytes_decides}
use Rattle.std.proofs.Math.Seq.{take-append_seam, drop-append_seam}
use Rattle.hex.specs.Hex.{IsBytes}
use Rattle.hex.proofs.HexLemmas.{decode_of-encode_upper}
use Rattle.object_hex.specs.declared.reading.faults.MapError.{MapError}
use Rattle.object_hex.specs.Digits.{address_bytes, pairs}
use Rattle.object_hex.specs.Lines.{lines}
use Rattle.object_hex.specs.MapText.{label_line, map_text}
use Rattle.object_hex.specs.MapMeaning.{AreDistinct, IsMapOf, IsMapText, address_in, behind, behind_blank, in_digits, word_of}
use Rattle.object_hex.specs.MapAnswer.{IsMapAnswer, ReadsBack}
use Rattle.object_hex.proofs.Addresses.{behind-is}
use Rattle.object_hex.proofs.Splits.{lines-nil}
use Rattle.object_hex.proofs.Written.{Plain, Plain-append, Plain-cons, Plain-nil, Plain-pairs, lines-plain}

-- the line of a label without its end
abbrev body : ℕ → ℕ → List ℕ
body label address = decimal label ++ (codes " " ++ pairs (address_bytes address))

behind-front : (front rest : List ℕ) → behind front (front ++ rest) ≡ Some rest
behind-front front rest =
    behind-is front (front ++ rest) ((bytes_decides (take (length front) (front ++ rest)) front).1 (take-append_seam front rest)) ∙ ap Some (drop-append_seam front rest)

address_bytes-fit : (address : ℕ) → address < 65536 → IsBytes (address_bytes address)
address_bytes-fit address small zero = omega arith
address_bytes-fit address small (suc zero) = omega arith
address_bytes-fit address small (suc (suc i)) = omega arith

address_in-body : (label address : ℕ) → address < 65536 → address_in label (body label address) ≡ Some address
unfolding address_in
address_in-body label address small =
    let whole : 256 * (address / 256) + address % 256 ≡ address = omega arith in
    ap behind_blank (behind-front (decimal label) (codes " " ++ pairs (address_bytes address)))
    ∙ ap in_digits (behind-front (codes " ") (pairs (address_bytes address)))
    ∙ ap word_of (decode_of-encode_upper (address_bytes address) (address_bytes-fit address small))
    ∙ ap Some whole

Plain-glyphs : (ds : List ℕ) → Plain (map (λ d. 48 + d) ds)
Plain-glyphs [] = Plain-nil
Plain-glyphs (d ∷ ds) = Plain-cons (48 + d) (map (λ d. 48 + d) ds) (omega arith) (Plain-glyphs ds)

Plain-decimal : (n : ℕ) → n < 2 ^ 64 → Plain (decimal n)
Plain-decimal n few = elim (cases_lt 0 n) [
  | inl some ↦ subst Plain (sym (decimal-digits_of n some few)) (Plain-glyphs (digits_of 10 n))
  | inr none ↦ (
      let zero_is : n ≡ 0 = omega arith in
      subst Plain (sym (ap decimal zero_is ∙ decimal_digit 0 (omega arith))) (Plain-cons 48 [] (omega arith) Plain-nil))
]

Plain-body : (label address : ℕ) → label < 2 ^ 64 → address < 65536 → Plain (body label address)
Plain-body label address few small =
    Plain-append (decimal label) (codes " " ++ pairs (address_bytes address)) (Plain-decimal label few)
    (Plain-cons 32 (pairs (address_bytes address)) (omega arith) (Plain-pairs (address_bytes address) (address_bytes-fit address small)))

-- the lines of labels from a number on
abbrev bodies : ℕ → List ℕ → List (List ℕ)
bodies label [] = []
bodies label (address ∷ more) = body label address ∷ bodies (label + 1) more

length-bodies : (label : ℕ) (addresses : List ℕ) → length (bodies label addresses) ≡ length addresses
length-bodies label [] = refl
length-bodies label (address ∷ more) = ap suc (length-bodies (label + 1) more)

get_or-bodies : (label : ℕ) (addresses : List ℕ) (k : ℕ) → k < length addresses → get_or (bodies label addresses) k [] ≡ body (label + k) (get_or addresses k 0)
get_or-bodies label [] k within = absurd (omega arith)
get_or-bodies label (address ∷ more) zero within = let same : label ≡ label + 0 = omega arith in ap (λ l. body l address) same
get_or-bodies label (address ∷ more) (suc k) within =
    let same : label + 1 + k ≡ label + suc k = omega arith in
    get_or-bodies (label + 1) more k (omega arith) ∙ ap (λ l. body l (get_or more k 0)) same

label_line-body : (label address : ℕ) (rest : List ℕ) → label_line label address ++ rest ≡ body label address ++ 10 ∷ rest
label_line-body label address rest =
    let number = decimal label in
    let digits = pairs (address_bytes address) in
    append_assoc number (32 ∷ (digits ++ 10 ∷ [])) rest ∙ ap (λ behind. number ++ 32 ∷ behind) (append_assoc digits (10 ∷ []) rest)
    ∙ sym (append_assoc number (32 ∷ digits) (10 ∷ rest))

lines-written : (label : ℕ) (addresses : List ℕ) → label + length addresses ≤ 65536 → All (λ address. address < 65536) addresses
    → lines (flat_map (λ entry. label_line entry.0 entry.1) (enumerate_from label addresses)) ≡ bodies label addresses
lines-written label [] few small = lines-nil
lines-written label (address ∷ more) few small =
    let rest = flat_map (λ (entry : ℕ × ℕ). label_line entry.0 entry.1) (enumerate_from (label + 1) more) in
    ap lines (label_line-body label address rest)
    ∙ lines-plain (body label address) rest (Plain-body label address (omega arith) (small 0 0 (omega arith)))
    ∙ ap (λ others. body label address ∷ others) (lines-written (label + 1) more (omega arith) (λ k d within. small (suc k) d (omega arith)))

pub map_text-means : (addresses : List ℕ) → length addresses ≤ 65536 → All (λ address. address < 65536) addresses → AreDistinct addresses → IsMapText (map_text addresses) addresses
map_text-means addresses few small apart =
    let Given : List (List ℕ) → Type 0 = λ ls. IsMapOf ls addresses in
    subst Given (sym (lines-written 0 addresses (omega arith) small)) (record {
      count = sym (length-bodies 0 addresses);
      each = λ label within.
          let same : 0 + label ≡ label = omega arith in
          ap (address_in label) (get_or-bodies 0 addresses label within ∙ ap (λ l. body l (get_or addresses label 0)) same)
          ∙ address_in-body label (get_or addresses label 0) (small label 0 within);
      apart = apart;
    })

pub map_back : (text : List ℕ) (result : Result (List ℕ) MapError) → IsMapAnswer text result → ReadsBack text result
map_back text result answer = λ addresses few small apart e.
    let Means : List ℕ → Type 0 = λ t. IsMapText t addresses in
    answer.accepts addresses (subst Means (sym e) (map_text-means addresses few small apart))
