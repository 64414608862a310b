-- The form of a record's line.
use Rattle.std.proofs.Common.{◌≡◌, ℕ, suc, ◌+◌, ◌-◌, ◌%◌, ◌<◌, Bool, true, false, cond, eqb, List, [], ◌∷◌, length, slice_index, Option, Some, None, refl, ap, sym, ◌∙◌, inl, inr, arith}
use Rattle.std.specs.Prelude.{Result, Ok, Err}
use Rattle.std.proofs.lemmas.Bool.Decides.{eqb_tells}
use Rattle.std.proofs.lemmas.Option.{none-some}
use Rattle.hex.specs.Hex.{decode_of}
use Rattle.hex.specs.declared.error.FromHexError.{FromHexError}
use Rattle.hex.proofs.HexLemmas.{decode_of-odd, decode_of-ok}
use Rattle.object_hex.specs.Records.{of_its_length, record_bytes}

cond_same : (b : Bool) (o : Option (List ℕ)) → cond b o o ≡ o
cond_same true o = refl
cond_same false o = refl

-- an odd number of digits
pub record_bytes-odd : (line : List ℕ) → (length line - 1) % 2 ≡ 1 → record_bytes line ≡ None
record_bytes-odd [] odd = refl
record_bytes-odd (mark ∷ digits) odd =
    ap (λ decoded. cond (eqb mark 58) (of_its_length decoded) None) (decode_of-odd digits (omega arith)) ∙ cond_same (eqb mark 58) None

too_many : (digits : List ℕ) (decoded : Result (List ℕ) FromHexError) → decode_of digits ≡ decoded → 520 < length digits → of_its_length decoded ≡ None
too_many digits (Ok []) e long = refl
too_many digits (Ok (count ∷ rest)) e long =
    let found = decode_of-ok digits (count ∷ rest) e in
    let byte : count < 256 = found.3 0 in
    elim (eqb_tells (length rest) (count + 4)) [
      | inl same ↦ absurd (omega arith)
      | inr other ↦ ap (λ b. cond b (Some (count ∷ rest)) None) other.0
    ]
too_many digits (Err error) e long = refl

-- more digits than a record has
pub record_bytes-long : (line : List ℕ) → 521 < length line → record_bytes line ≡ None
record_bytes-long [] long = refl
record_bytes-long (mark ∷ digits) long =
    ap (λ bytes. cond (eqb mark 58) bytes None) (too_many digits (decode_of digits) refl (omega arith)) ∙ cond_same (eqb mark 58) None

of_its_length-some : (decoded : Result (List ℕ) FromHexError) (bytes : List ℕ) → of_its_length decoded ≡ Some bytes → length bytes ≡ slice_index bytes 0 + 5
of_its_length-some (Ok []) bytes e = absurd (none-some bytes e)
of_its_length-some (Ok (count ∷ rest)) bytes e = elim (eqb_tells (length rest) (count + 4)) [
  | inl same ↦
      let shown : Some (count ∷ rest) ≡ Some bytes = sym (ap (λ b. cond b (Some (count ∷ rest)) None) same.0) ∙ e in
      let equal : count ∷ rest ≡ bytes = cc in
      let there : suc (length rest) ≡ count + 5 = omega arith in
      sym (ap length equal) ∙ there ∙ ap (λ all. slice_index all 0 + 5) equal
  | inr other ↦ absurd (none-some bytes (sym (ap (λ b. cond b (Some (count ∷ rest)) None) other.0) ∙ e))
]
of_its_length-some (Err error) bytes e = absurd (none-some bytes e)

cond_some : (b : Bool) (o : Option (List ℕ)) (bytes : List ℕ) → cond b o None ≡ Some bytes → o ≡ Some bytes
cond_some true o bytes e = e
cond_some false o bytes e = absurd (none-some bytes e)

-- a record has as many bytes as its first one says
pub record_bytes-length : (line bytes : List ℕ) → record_bytes line ≡ Some bytes → length bytes ≡ slice_index bytes 0 + 5
record_bytes-length [] bytes e = absurd (none-some bytes e)
record_bytes-length (mark ∷ digits) bytes e = of_its_length-some (decode_of digits) bytes (cond_some (eqb mark 58) (of_its_length (decode_of digits)) bytes e)
