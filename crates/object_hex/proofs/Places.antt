-- Bytes put at the places of their addresses.
use Rattle.std.proofs.Common.{◌≡◌, ℕ, zero, suc, ◌+◌, ◌-◌, ◌<◌, ◌≤◌, true, false, cond, ltb, replicate, List, [], ◌∷◌, length, take, drop, get_or, set, map, Option, Some, None, is_some, unwrap_or, refl, ap, ap₂, sym, ◌∙◌, inl, inr, arith}
use Rattle.std.specs.Prelude.{◌||◌, ◌≢◌, slice_get, slice_range}
use Rattle.std.specs.Option.{option_or}
use Rattle.std.specs.List.{list_any, range_with_len}
use Rattle.std.proofs.lemmas.Bool.{cases_lt}
use Rattle.std.proofs.lemmas.Bool.Decides.{eqb_tells, nat_tests}
use Rattle.std.proofs.lemmas.Option.{slice_get-get_or, slice_get_past}
use Rattle.std.proofs.lemmas.List.{drop_more, get_or-replicate, get_or-set_same, get_or-set_other, length-take, length-take-le, length-map, get_or-map, get_or-take}
use Rattle.std.proofs.lemmas.List.FromFn.{fill_by_all}
use Rattle.object_hex.specs.HexMeaning.{byte_at, has_some, load_fault, given, highest_end, code_of}
use Rattle.object_hex.specs.declared.reading.faults.HexKind.TheVariants.{Range, Twice}
use Rattle.object_hex.specs.Code.Reading.{Holds}

pub byte_at-within : (offset : ℕ) (bytes : List ℕ) (address : ℕ) → offset ≤ address → byte_at offset bytes address ≡ slice_get bytes (address - offset)
byte_at-within offset bytes address le = grind (arith, nat_tests)

pub byte_at-below : (offset : ℕ) (bytes : List ℕ) (address : ℕ) → address < offset → byte_at offset bytes address ≡ None
byte_at-below offset bytes address lt = grind (arith, nat_tests)

slice_get-take : (n k : ℕ) (xs : List ℕ) → k < n → slice_get (take n xs) k ≡ slice_get xs k
slice_get-take zero k xs lt = absurd (omega arith)
slice_get-take (suc n) k [] lt = refl
slice_get-take (suc n) zero (x ∷ xs) lt = refl
slice_get-take (suc n) (suc k) (x ∷ xs) lt = slice_get-take n k xs (omega arith)

-- no bytes stand nowhere
pub byte_at-nil : (offset address : ℕ) → byte_at offset [] address ≡ None
byte_at-nil offset address = elim (cases_lt address offset) [ inl below ↦ byte_at-below offset [] address below | inr within ↦ byte_at-within offset [] address within ]

byte_at-here : (offset : ℕ) (bytes : List ℕ) (i d : ℕ) → i < length bytes → byte_at offset (take (i + 1) bytes) (offset + i) ≡ Some (get_or bytes i d)
byte_at-here offset bytes i d within =
    let place : offset + i - offset ≡ i = omega arith in
    byte_at-within offset (take (i + 1) bytes) (offset + i) (omega arith)
    ∙ ap (slice_get (take (i + 1) bytes)) place
    ∙ slice_get-take (i + 1) i bytes (omega arith)
    ∙ slice_get-get_or bytes i d within

byte_at-other : (offset : ℕ) (bytes : List ℕ) (i address : ℕ) → address ≢ offset + i → byte_at offset (take (i + 1) bytes) address ≡ byte_at offset (take i bytes) address
byte_at-other offset bytes i address other = elim (cases_lt address offset) [
  | inl below ↦ byte_at-below offset (take (i + 1) bytes) address below ∙ sym (byte_at-below offset (take i bytes) address below)
  | inr within ↦
      let longer = byte_at-within offset (take (i + 1) bytes) address within in
      let shorter = byte_at-within offset (take i bytes) address within in
      elim (cases_lt (address - offset) i) [
        | inl before ↦ longer ∙ slice_get-take (i + 1) (address - offset) bytes (omega arith) ∙ sym (slice_get-take i (address - offset) bytes before) ∙ sym shorter
        | inr past ↦
            let apart : i + 1 ≤ address - offset = apart_from offset i address within other past in
            let long = length-take (i + 1) bytes in
            let short = length-take i bytes in
            longer ∙ slice_get_past (take (i + 1) bytes) (address - offset) (omega arith) ∙ sym (slice_get_past (take i bytes) (address - offset) (omega arith)) ∙ sym shorter
      ]
]
  where
    apart_from : (offset i address : ℕ) → offset ≤ address → address ≢ offset + i → i ≤ address - offset → i + 1 ≤ address - offset
    apart_from offset i address within other past = omega arith

-- the places behind one more byte
pub placed_more : (places initial : List (Option ℕ)) (bytes : List ℕ) (offset i d : ℕ) → i < length bytes → offset + i < length places → ((address : ℕ) → get_or places address None ≡ option_or (byte_at offset (take i bytes) address) (get_or initial address None)) → (address : ℕ) → get_or (set places (offset + i) (Some (get_or bytes i d))) address None ≡ option_or (byte_at offset (take (i + 1) bytes) address) (get_or initial address None)
placed_more places initial bytes offset i d within room so_far address = elim (eqb_tells address (offset + i)) [
  | inl same ↦
      ap (λ a. get_or (set places (offset + i) (Some (get_or bytes i d))) a None) same.1
      ∙ get_or-set_same places (offset + i) (Some (get_or bytes i d)) None room
      ∙ ap (λ byte. option_or byte (get_or initial address None)) (sym (byte_at-here offset bytes i d within) ∙ ap (byte_at offset (take (i + 1) bytes)) (sym same.1))
  | inr other ↦
      get_or-set_other places (offset + i) address (Some (get_or bytes i d)) None other.1
      ∙ so_far address
      ∙ ap (λ byte. option_or byte (get_or initial address None)) (sym (byte_at-other offset bytes i address other.1))
]

-- no byte is put yet
pub placed_none : (initial : List (Option ℕ)) (bytes : List ℕ) (offset address : ℕ) → get_or initial address None ≡ option_or (byte_at offset (take 0 bytes) address) (get_or initial address None)
placed_none initial bytes offset address = ap (λ byte. option_or byte (get_or initial address None)) (sym (byte_at-nil offset address))

-- no place holds a byte yet
pub none_held : (n : ℕ) (places : List (Option ℕ)) → places ≡ replicate n None → (address : ℕ) → address < n → get_or places address None ≡ None
none_held n places e address within = ap (λ all. get_or all address None) e ∙ get_or-replicate n address None None within

-- what is wrong with bytes that fit code memory
pub load_fault-twice : (before : ℕ → Option ℕ) (offset : ℕ) (bytes : List ℕ) → offset + length bytes ≤ 65536 → has_some before offset bytes ≡ true → load_fault before offset bytes ≡ Some Twice
load_fault-twice before offset bytes within twice =
    let fits : ltb 65536 (offset + length bytes) ≡ false = grind (arith, nat_tests) in
    ap₂ (λ past again. cond past (Some Range) (cond again (Some Twice) None)) fits twice

pub load_fault-none : (before : ℕ → Option ℕ) (offset : ℕ) (bytes : List ℕ) → offset + length bytes ≤ 65536 → has_some before offset bytes ≡ false → load_fault before offset bytes ≡ None
load_fault-none before offset bytes within once =
    let fits : ltb 65536 (offset + length bytes) ≡ false = grind (arith, nat_tests) in
    ap₂ (λ past again. cond past (Some Range) (cond again (Some Twice) None)) fits once

-- whether some of the places hold a byte
some_held : (before : ℕ → Option ℕ) (places : List (Option ℕ)) (offset : ℕ) (bytes : List ℕ) → Holds places before → length places ≡ 65536 → offset + length bytes ≤ 65536 → list_any is_some (take (length bytes) (drop offset places)) ≡ has_some before offset bytes
some_held before places offset [] holds whole within = refl
some_held before places offset (byte ∷ bytes) holds whole within =
    ap (λ rest. list_any is_some (take (suc (length bytes)) rest)) (drop_more places offset None (omega arith))
    ∙ ap₂ (λ here more. is_some here || more) (holds offset (omega arith)) (some_held before places (offset + 1) bytes holds whole (omega arith))

pub some_in_range : (before : ℕ → Option ℕ) (places : List (Option ℕ)) (offset : ℕ) (bytes : List ℕ) → Holds places before → length places ≡ 65536 → offset + length bytes ≤ 65536 → list_any is_some (slice_range places offset (offset + length bytes)) ≡ has_some before offset bytes
some_in_range before places offset bytes holds whole within =
    let count : offset + length bytes - offset ≡ length bytes = omega arith in
    ap (λ n. list_any is_some (take n (drop offset places))) count ∙ some_held before places offset bytes holds whole within

-- the bytes of the places up to the highest one given are the code
pub code_held : (ls : List (List ℕ)) (places : List (Option ℕ)) (reach : ℕ) → Holds places (given ls) → reach ≡ highest_end ls → reach ≤ 65536 → length places ≡ 65536 → map (λ place. unwrap_or place 0) (take reach places) ≡ code_of ls
unfolding code_of
code_held ls places reach holds reaches bounded whole =
    let bytes = map (λ (place : Option ℕ). unwrap_or place 0) (take reach places) in
    let count : length (take reach places) ≡ reach = length-take-le reach places (omega arith) in
    let long : length bytes ≡ reach = length-map (take reach places) (λ place. unwrap_or place 0) ∙ count in
    fill_by_all (λ address. unwrap_or (given ls address) 0) bytes reach 0 long
    (λ address within. get_or-map (λ place. unwrap_or place 0) (take reach places) address None 0 (omega arith)
    ∙ ap (λ place. unwrap_or place 0) (get_or-take reach places address None within ∙ holds address (omega arith)))
    ∙ ap (λ n. map (λ address. unwrap_or (given ls address) 0) (range_with_len 0 n)) reaches
