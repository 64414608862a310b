-- A text that was written for a code is a hex text of it.
use Rattle.std.proofs.Common.{◌≡◌, ℕ, zero, suc, ◌+◌, ◌-◌, ◌*◌, ◌/◌, ◌%◌, ◌<◌, ◌≤◌, min, max, true, false, cond, eqb, List, [], ◌∷◌, ◌++◌, length, take, drop, get_or, map, Option, Some, None, is_some, unwrap_or, sum, refl, ap, ap₂, sym, subst, ◌∙◌, inl, inr, arith, append_assoc}
use Rattle.std.specs.Prelude.{◌||◌, slice_get, Result, Ok, Err}
use Rattle.std.specs.Int.{div_ceil}
use Rattle.std.specs.List.{flat_map, range_with_len}
use Rattle.std.specs.Option.{option_or}
use Rattle.std.proofs.lemmas.Bool.{cases_lt, eq-eqb}
use Rattle.std.proofs.lemmas.Bool.Decides.{eqb_tells}
use Rattle.std.proofs.lemmas.Grind.{div_ceil_times}
use Rattle.std.proofs.lemmas.List.{append-nil, get_or_past, get_or-take, get_or-drop, length-append, length-drop, length-take}
use Rattle.std.proofs.lemmas.List.FromFn.{fill_by_all}
use Rattle.std.proofs.lemmas.List.Sums.{sum_by-append}
use Rattle.std.proofs.lemmas.Option.{slice_get-get_or, slice_get_past}
use Rattle.std.proofs.Math.Seq.{take-append_seam}
use Rattle.hex.specs.Hex.{IsBytes}
use Rattle.hex.proofs.HexLemmas.{decode_of-encode_upper}
use Rattle.object_hex.specs.declared.reading.faults.HexKind.TheVariants.{Sum}
use Rattle.object_hex.specs.declared.reading.faults.HexError.{HexError}
use Rattle.object_hex.specs.declared.reading.record.RecordType.{RecordType}
use Rattle.object_hex.specs.declared.reading.record.RecordType.TheVariants.{Data, EndOfFile}
use Rattle.object_hex.specs.Digits.{pairs}
use Rattle.object_hex.specs.HexText.{checksum, contents, data_line, end_line, hex_text, record_line}
use Rattle.object_hex.specs.Lines.{lines}
use Rattle.object_hex.specs.Records.{HexRecord, data_of, loaded, of_its_length, offset_of, record_bytes, record_in, type_of, typed}
use Rattle.object_hex.specs.HexMeaning.{IsHexText, byte_at, byte_in, code_of, end_in, ends_file, fault_at, fault_behind, given, has_end, has_some, highest_end}
use Rattle.object_hex.specs.HexAnswer.{IsHexAnswer, ReadsBack}
use Rattle.object_hex.proofs.Behind.{given-push, has_end-push, highest_end-push}
use Rattle.object_hex.proofs.HexWalk.{fault-end, fault-line}
use Rattle.object_hex.proofs.Places.{byte_at-below, byte_at-nil, byte_at-within, load_fault-none}
use Rattle.object_hex.proofs.Splits.{lines-nil}
use Rattle.object_hex.proofs.Taken.{fault_open, record_in-bytes}
use Rattle.object_hex.proofs.Written.{Plain-cons, Plain-pairs, lines-plain}

-- ---- the line of a record

-- the bytes of a record, its checksum included
abbrev all_of : ℕ → ℕ → List ℕ → List ℕ
all_of kind offset bytes = contents kind offset bytes ++ checksum (contents kind offset bytes) ∷ []

-- the line without its end
abbrev body : ℕ → ℕ → List ℕ → List ℕ
body kind offset bytes = 58 ∷ pairs (all_of kind offset bytes)

-- a record that can be written
pub record Fits (kind offset : ℕ) (bytes : List ℕ) : Type 0 where
  pub kind_fits : kind < 256
  pub offset_fits : offset < 65536
  pub few : length bytes < 256
  pub all_fit : IsBytes bytes

fit-one_more : (bytes : List ℕ) (last : ℕ) → IsBytes bytes → last < 256 → IsBytes (bytes ++ last ∷ [])
fit-one_more [] last fit small zero = small
fit-one_more [] last fit small (suc i) = omega arith
fit-one_more (byte ∷ bytes) last fit small zero = fit 0
fit-one_more (byte ∷ bytes) last fit small (suc i) = fit-one_more bytes last (λ k. fit (suc k)) small i

all_fit-of : (kind offset : ℕ) (bytes : List ℕ) → Fits kind offset bytes → IsBytes (all_of kind offset bytes)
all_fit-of kind offset bytes fits zero = fits.few
all_fit-of kind offset bytes fits (suc zero) = (let small = fits.offset_fits in omega arith)
all_fit-of kind offset bytes fits (suc (suc zero)) = omega arith
all_fit-of kind offset bytes fits (suc (suc (suc zero))) = fits.kind_fits
all_fit-of kind offset bytes fits (suc (suc (suc (suc i)))) =
    fit-one_more bytes (checksum (contents kind offset bytes)) fits.all_fit (omega arith) i

record_bytes-body : (kind offset : ℕ) (bytes : List ℕ) → Fits kind offset bytes → record_bytes (body kind offset bytes) ≡ Some (all_of kind offset bytes)
record_bytes-body kind offset bytes fits =
    let all = all_of kind offset bytes in
    let last = checksum (contents kind offset bytes) in
    let long = length-append bytes (last ∷ []) in
    let rest = offset / 256 ∷ offset % 256 ∷ kind ∷ (bytes ++ last ∷ []) in
    let count : length rest ≡ length bytes + 4 = omega arith in
    ap of_its_length (decode_of-encode_upper all (all_fit-of kind offset bytes fits))
    ∙ ap (λ b. cond b (Some all) None) (eq-eqb (length rest) (length bytes + 4) count)

sums_to_zero : (said : List ℕ) → sum (said ++ checksum said ∷ []) % 256 ≡ 0
sums_to_zero said =
    let total = sum_by-append (λ (n : ℕ). n) said (checksum said ∷ []) in
    omega arith

type_of-all : (kind offset : ℕ) (bytes : List ℕ) (type : RecordType) → typed kind bytes ≡ Ok type → type_of (all_of kind offset bytes) ≡ Ok type
type_of-all kind offset bytes type right =
    let all = all_of kind offset bytes in
    ap (λ b. cond b (typed kind (data_of all)) (Err Sum)) (eq-eqb (sum all % 256) 0 (sums_to_zero (contents kind offset bytes)))
    ∙ ap (typed kind) (take-append_seam bytes (checksum (contents kind offset bytes) ∷ [])) ∙ right

-- the record is read back
record_in-body : (kind offset : ℕ) (bytes : List ℕ) (type : RecordType) → Fits kind offset bytes → typed kind bytes ≡ Ok type → record_in (body kind offset bytes) ≡ Ok (record { type = type; offset = offset; bytes = loaded type bytes })
record_in-body kind offset bytes type fits right =
    let all = all_of kind offset bytes in
    let at : offset_of all ≡ offset = omega arith in
    record_in-bytes (body kind offset bytes) all (Ok type) (record_bytes-body kind offset bytes fits) (type_of-all kind offset bytes type right)
    ∙ ap₂ (λ (o : ℕ) (part : List ℕ). Ok (record { type = type; offset = o; bytes = loaded type part })) at (take-append_seam bytes (checksum (contents kind offset bytes) ∷ []))

lines-record : (kind offset : ℕ) (bytes rest : List ℕ) → Fits kind offset bytes → lines (record_line kind offset bytes ++ rest) ≡ body kind offset bytes ∷ lines rest
lines-record kind offset bytes rest fits =
    let digits = pairs (all_of kind offset bytes) in
    ap lines (ap (λ behind. 58 ∷ behind) (append_assoc digits (10 ∷ []) rest))
    ∙ lines-plain (body kind offset bytes) rest (Plain-cons 58 digits (omega arith) (Plain-pairs (all_of kind offset bytes) (all_fit-of kind offset bytes fits)))

-- ---- the lines of a code

-- some lines in which nothing is wrong, and which give the code up to an address
pub record Gives (ls : List (List ℕ)) (code : List ℕ) (to : ℕ) : Type 0 where
  pub bytes : (address : ℕ) → given ls address ≡ byte_at 0 (take to code) address
  pub reaches : highest_end ls ≡ to
  pub right : (place : ℕ) → place < length ls → fault_behind (take place ls) (get_or ls place []) ≡ None

abbrev front_right : List (List ℕ) → Type 0
front_right ls = (place : ℕ) → place < length ls → fault_behind (take place ls) (get_or ls place []) ≡ None

right-push : (ls : List (List ℕ)) (line : List ℕ) → front_right ls → fault_behind ls line ≡ None → front_right (ls ++ line ∷ [])
right-push ls line right next place within = elim (cases_lt place (length ls)) [
  | inl earlier ↦ ap₂ fault_behind (take-front ls line place (omega arith)) (get_or-front ls line place earlier) ∙ right place earlier
  | inr last ↦
      let long = length-append ls (line ∷ []) in
      let same : place ≡ length ls = omega arith in
      ap₂ fault_behind (ap (λ k. take k (ls ++ line ∷ [])) same ∙ take-append_seam ls (line ∷ [])) (ap (λ k. get_or (ls ++ line ∷ []) k []) same ∙ get_or-last ls line) ∙ next
]
  where
    take-front : (ls : List (List ℕ)) (line : List ℕ) (k : ℕ) → k ≤ length ls → take k (ls ++ line ∷ []) ≡ take k ls
    take-front ls line zero within = refl
    take-front [] line (suc k) within = absurd (omega arith)
    take-front (first ∷ more) line (suc k) within = ap (λ rest. first ∷ rest) (take-front more line k (omega arith))

    get_or-front : (ls : List (List ℕ)) (line : List ℕ) (k : ℕ) → k < length ls → get_or (ls ++ line ∷ []) k [] ≡ get_or ls k []
    get_or-front [] line k within = absurd (omega arith)
    get_or-front (first ∷ more) line zero within = refl
    get_or-front (first ∷ more) line (suc k) within = get_or-front more line k (omega arith)

    get_or-last : (ls : List (List ℕ)) (line : List ℕ) → get_or (ls ++ line ∷ []) (length ls) [] ≡ line
    get_or-last [] line = refl
    get_or-last (first ∷ more) line = get_or-last more line

-- a byte of a front of the code, and one behind it
byte-front : (code : List ℕ) (to address : ℕ) → address < to → address < length code → byte_at 0 (take to code) address ≡ Some (get_or code address 0)
byte-front code to address below within =
    let long = length-take to code in
    let same : address - 0 ≡ address = omega arith in
    byte_at-within 0 (take to code) address (omega arith) ∙ ap (slice_get (take to code)) same
    ∙ slice_get-get_or (take to code) address 0 (omega arith) ∙ ap Some (get_or-take to code address 0 below)

byte-past : (code : List ℕ) (to address : ℕ) → to ≤ address → byte_at 0 (take to code) address ≡ None
byte-past code to address past =
    let long = length-take to code in
    byte_at-within 0 (take to code) address (omega arith) ∙ slice_get_past (take to code) (address - 0) (omega arith)

-- the bytes behind a front of the code
joined : (code bytes : List ℕ) (from address : ℕ) → from + length bytes ≤ length code → ((k : ℕ) → k < length bytes → get_or bytes k 0 ≡ get_or code (from + k) 0)
    → option_or (byte_at from bytes address) (byte_at 0 (take from code) address) ≡ byte_at 0 (take (from + length bytes) code) address
joined code bytes from address room same = elim (cases_lt address from) [
  | inl below ↦
      ap (λ here. option_or here (byte_at 0 (take from code) address)) (byte_at-below from bytes address below)
      ∙ byte-front code from address below (omega arith) ∙ sym (byte-front code (from + length bytes) address (omega arith) (omega arith))
  | inr within ↦
      let at = byte_at-within from bytes address within in
      elim (cases_lt address (from + length bytes)) [
        | inl here ↦
            let place : from + (address - from) ≡ address = omega arith in
            ap (λ byte. option_or byte (byte_at 0 (take from code) address))
            (at ∙ slice_get-get_or bytes (address - from) 0 (omega arith) ∙ ap Some (same (address - from) (omega arith) ∙ ap (λ a. get_or code a 0) place))
            ∙ sym (byte-front code (from + length bytes) address here (omega arith))
        | inr past ↦
            ap (λ byte. option_or byte (byte_at 0 (take from code) address)) (at ∙ slice_get_past bytes (address - from) (omega arith))
            ∙ byte-past code from address within ∙ sym (byte-past code (from + length bytes) address past)
      ]
]

none-again : (before : ℕ → Option ℕ) (offset : ℕ) (bytes : List ℕ) → ((address : ℕ) → offset ≤ address → before address ≡ None) → has_some before offset bytes ≡ false
none-again before offset [] fresh = refl
none-again before offset (byte ∷ bytes) fresh =
    ap₂ (λ here more. is_some here || more) (fresh offset (omega arith)) (none-again before (offset + 1) bytes (λ address past. fresh address (omega arith)))

-- the bytes of a part of the code are bytes
fit_part : (code : List ℕ) (from k : ℕ) → IsBytes code → get_or (take 16 (drop from code)) k 0 < 256
fit_part code from k fit = elim (cases_lt k 16) [
  | inl inside ↦ let P : ℕ → Type 0 = λ n. n < 256 in subst P (sym (get_or-take 16 (drop from code) k 0 inside ∙ get_or-drop from code k 0)) (fit (from + k))
  | inr past ↦ (
      let count = length-take 16 (drop from code) in
      let none : get_or (take 16 (drop from code)) k 0 ≡ 0 = get_or_past (take 16 (drop from code)) k 0 (omega arith) in
      omega arith)
]

-- the lines so far with one more data record
data_more : (ls : List (List ℕ)) (code : List ℕ) (from : ℕ) → Gives ls code from → has_end ls ≡ false → from < length code → length code ≤ 65536 → IsBytes code
    → Gives (ls ++ body 0 from (take 16 (drop from code)) ∷ []) code (min (from + 16) (length code)) × (has_end (ls ++ body 0 from (take 16 (drop from code)) ∷ []) ≡ false)
data_more ls code from gives open_yet within small fit =
    let bytes = take 16 (drop from code) in
    let left = length-drop from code in
    let count = length-take 16 (drop from code) in
    let fits : Fits 0 from bytes = record {
      kind_fits = omega arith;
      offset_fits = omega arith;
      few = omega arith;
      all_fit = λ k. fit_part code from k fit;
    } in
    let said : HexRecord = record { type = Data; offset = from; bytes = bytes } in
    let line = body 0 from bytes in
    let says : record_in line ≡ Ok said = record_in-body 0 from bytes Data fits refl in
    let to : from + length bytes ≡ min (from + 16) (length code) = omega arith in
    let room : from + length bytes ≤ length code = omega arith in
    let right = fault_open ls line (Ok said) open_yet says
    ∙ load_fault-none (given ls) from bytes (omega arith) (none-again (given ls) from bytes (λ address past. gives.bytes address ∙ byte-past code from address past)) in (
      record {
        bytes = λ address.
            given-push ls line address
            ∙ ap₂ (λ here before. option_or (byte_in here address) before) says (gives.bytes address)
            ∙ joined code bytes from address room (λ k inside. get_or-take 16 (drop from code) k 0 (omega arith) ∙ get_or-drop from code k 0)
            ∙ ap (λ n. byte_at 0 (take n code) address) to;
        reaches =
            let end : max from (cond (eqb (length bytes) 0) 0 (from + length bytes)) ≡ from + length bytes = max-end from (length bytes) (omega arith) in
            highest_end-push ls line ∙ ap₂ (λ before here. max before (end_in here)) gives.reaches says ∙ end ∙ to;
        right = right-push ls line gives.right right;
      },
      has_end-push ls line ∙ ap₂ (λ here before. ends_file here || before) says open_yet,
    )
  where
    max-end : (from n : ℕ) → 0 < n → max from (cond (eqb n 0) 0 (from + n)) ≡ from + n
    max-end from n some =
        let big : max from (from + n) ≡ from + n = omega arith in
        elim (eqb_tells n 0) [
          | inl none ↦ absurd (omega arith)
          | inr other ↦ ap (λ b. max from (cond b 0 (from + n))) other.0 ∙ big
        ]

end_fits : Fits 1 0 []
end_fits = record { kind_fits = omega arith; offset_fits = omega arith; few = omega arith; all_fit = λ k. omega arith }

-- a text whose lines are these is a hex text
abbrev Means : List (List ℕ) → List ℕ → Type 0
Means ls code = ((place : ℕ) → fault_at ls place ≡ None) × (code ≡ code_of ls)

ended : (ls : List (List ℕ)) (code : List ℕ) → Gives ls code (length code) → has_end ls ≡ false → Means (ls ++ body 1 0 [] ∷ []) code
unfolding code_of
ended ls code gives open_yet =
    let line = body 1 0 [] in
    let all = ls ++ line ∷ [] in
    let said : HexRecord = record { type = EndOfFile; offset = 0; bytes = [] } in
    let says : record_in line ≡ Ok said = record_in-body 1 0 [] EndOfFile end_fits refl in
    let right = right-push ls line gives.right (fault_open ls line (Ok said) open_yet says ∙ load_fault-none (given ls) 0 [] (omega arith) refl) in
    let ends : has_end all ≡ true = has_end-push ls line ∙ ap (λ here. ends_file here || has_end ls) says in
    let reach : highest_end all ≡ length code =
    highest_end-push ls line ∙ ap₂ (λ before here. max before (end_in here)) gives.reaches says ∙ omega arith in
    let bytes : (address : ℕ) → address < length code → get_or code address 0 ≡ unwrap_or (given all address) 0 = λ address within.
    sym (ap (λ byte. unwrap_or byte 0)
    (given-push ls line address
    ∙ ap₂ (λ here before. option_or (byte_in here address) before) says (gives.bytes address)
    ∙ ap (λ here. option_or here (byte_at 0 (take (length code) code) address)) (byte_at-nil 0 address)
    ∙ byte-front code (length code) address within within)) in (
      λ place. elim (cases_lt place (length all)) [
        | inl within ↦ fault-line all place (get_or all place []) (slice_get-get_or all place [] within) ∙ right place within
        | inr past ↦ fault-end all place true (slice_get_past all place past) ends
      ],
      fill_by_all (λ address. unwrap_or (given all address) 0) code (length code) 0 refl bytes
          ∙ ap (λ n. map (λ address. unwrap_or (given all address) 0) (range_with_len 0 n)) (sym reach),
    )

-- the lines of the records from a number on
rest_means : (code : List ℕ) (count from : ℕ) (ls : List (List ℕ)) (to : ℕ) → to ≡ min (16 * from) (length code) → length code ≤ 16 * (from + count) → 16 * (from + count) < length code + 16
    → length code ≤ 65536 → IsBytes code → Gives ls code to → has_end ls ≡ false
    → Means (ls ++ lines (flat_map (data_line code) (range_with_len from count) ++ end_line)) code
rest_means code zero from ls to at enough few small fit gives open_yet =
    let last : lines (end_line) ≡ body 1 0 [] ∷ [] =
    ap lines (sym (append-nil end_line)) ∙ lines-record 1 0 [] [] end_fits ∙ ap (λ others. body 1 0 [] ∷ others) lines-nil in
    let all : to ≡ length code = omega arith in
    let P : List (List ℕ) → Type 0 = λ others. Means (ls ++ others) code in
    let Whole : ℕ → Type 0 = λ n. Gives ls code n in
    subst P (sym last) (ended ls code (subst Whole all gives) open_yet)
rest_means code (suc count) from ls to at enough few small fit gives open_yet =
    let here : to ≡ 16 * from = omega arith in
    let Whole : ℕ → Type 0 = λ n. Gives ls code n in
    let bytes = take 16 (drop (16 * from) code) in
    let line = body 0 (16 * from) bytes in
    let more = data_more ls code (16 * from) (subst Whole here gives) open_yet (omega arith) small fit in
    let others = rest_means code count (from + 1) (ls ++ line ∷ []) (min (16 * from + 16) (length code)) (omega arith) (omega arith) (omega arith) small fit more.0 more.1 in
    let behind = flat_map (data_line code) (range_with_len (from + 1) count) in
    let split : lines (flat_map (data_line code) (range_with_len from (suc count)) ++ end_line) ≡ line ∷ lines (behind ++ end_line) =
    ap lines (append_assoc (data_line code from) behind end_line) ∙ lines-record 0 (16 * from) bytes (behind ++ end_line) (data_fits code from (omega arith) fit) in
    let P : List (List ℕ) → Type 0 = λ all. Means all code in
    subst P (append_assoc ls (line ∷ []) (lines (behind ++ end_line)) ∙ ap (λ l. ls ++ l) (sym split)) others
  where
    data_fits : (code : List ℕ) (from : ℕ) → 16 * from < 65536 → IsBytes code → Fits 0 (16 * from) (take 16 (drop (16 * from) code))
    data_fits code from small fit =
        let count = length-take 16 (drop (16 * from) code) in
        record { kind_fits = omega arith; offset_fits = small; few = omega arith; all_fit = λ k. fit_part code (16 * from) k fit }

-- what was written for a code is a hex text of it
pub hex_text-means : (code : List ℕ) → length code ≤ 65536 → IsBytes code → IsHexText (hex_text code) code
unfolding given highest_end has_end
hex_text-means code small fit =
    let n = div_ceil (length code) 16 in
    let times = div_ceil_times (length code) 16 (omega arith) in
    let none : Gives [] code 0 = record {
      bytes = λ address. sym (byte-past code 0 address (omega arith));
      reaches = refl;
      right = λ place within. absurd (omega arith);
    } in
    let means = rest_means code n 0 [] 0 (omega arith) (omega arith) (omega arith) small fit none refl in
    record { right = means.0; code_given = means.1 }

pub hex_back : (text : List ℕ) (result : Result (List ℕ) HexError) → IsHexAnswer text result → ReadsBack text result
hex_back text result answer = λ code small fit e.
    let P : List ℕ → Type 0 = λ t. IsHexText t code in
    answer.accepts code (subst P (sym e) (hex_text-means code small fit))
