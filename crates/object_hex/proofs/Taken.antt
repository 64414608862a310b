-- A line taken behind others.
use Rattle.std.proofs.Common.{◌≡◌, ℕ, ◌+◌, max, Bool, true, false, cond, List, [], ◌∷◌, ◌++◌, length, Option, Some, None, refl, ap, ap₂, sym, ◌∙◌, arith}
use Rattle.std.specs.Prelude.{◌||◌, ◌==◌, Result, Ok, Err, MatchResult, if◌then◌else◌}
use Rattle.std.specs.Option.{option_or}
use Rattle.object_hex.specs.declared.reading.faults.HexKind.{HexKind}
use Rattle.object_hex.specs.declared.reading.faults.HexKind.TheVariants.{After, Form}
use Rattle.object_hex.specs.declared.reading.record.RecordType.{RecordType}
use Rattle.object_hex.specs.declared.reading.record.RecordType.TheVariants.{Data}
use Rattle.object_hex.specs.Records.{HexRecord, record_bytes, record_in, from_bytes, with_type, type_of, offset_of, data_of, loaded}
use Rattle.object_hex.specs.HexMeaning.{byte_at, byte_in, end_in, ends_file, is_end_type, fault_behind, fault_of, given, has_end, highest_end, load_fault}
use Rattle.object_hex.specs.Code.Reading.{Holds, IsReadUpTo}
use Rattle.object_hex.proofs.Places.{byte_at-nil}
use Rattle.object_hex.proofs.Behind.{given-push, highest_end-push, has_end-push}

-- where a line with a record's bytes is taken
pub record Taking (before : List (List ℕ)) (line bytes : List ℕ) : Type 0 where
  pub form : record_bytes line ≡ Some bytes
  pub open_yet : has_end before ≡ false

pub fault_after : (before : List (List ℕ)) (line : List ℕ) → has_end before ≡ true → fault_behind before line ≡ Some After
unfolding fault_behind
fault_after before line ended = ap (λ ends. cond ends (Some After) (fault_of (given before) (record_in line))) ended

pub fault_open : (before : List (List ℕ)) (line : List ℕ) (said : Result HexRecord HexKind) → has_end before ≡ false → record_in line ≡ said → fault_behind before line ≡ fault_of (given before) said
unfolding fault_behind
fault_open before line said ended says = ap₂ (λ ends here. cond ends (Some After) (fault_of (given before) here)) ended says

pub fault_form : (before : List (List ℕ)) (line : List ℕ) → has_end before ≡ false → record_bytes line ≡ None → fault_behind before line ≡ Some Form
unfolding record_in
fault_form before line ended none = fault_open before line (Err Form) ended (ap from_bytes none)

pub record_in-bytes : (line bytes : List ℕ) (type : Result RecordType HexKind) → record_bytes line ≡ Some bytes → type_of bytes ≡ type → record_in line ≡ with_type bytes type
unfolding record_in
record_in-bytes line bytes type form e = ap from_bytes form ∙ ap (with_type bytes) e

pub taken_bad : (before : List (List ℕ)) (line bytes : List ℕ) (kind : HexKind) → Taking before line bytes → type_of bytes ≡ Err kind → fault_behind before line ≡ Some kind
taken_bad before line bytes kind taking bad = fault_open before line (Err kind) taking.open_yet (record_in-bytes line bytes (Err kind) taking.form bad)

-- what the reader holds behind the line
abbrev pub TakenTo : List (List ℕ) → List ℕ → List (Option ℕ) → ℕ → Bool → Type 0
TakenTo before line places reach ended = (fault_behind before line ≡ None) × IsReadUpTo (before ++ line ∷ []) places reach ended

taken_right : (before : List (List ℕ)) (line : List ℕ) (said : HexRecord) (places : List (Option ℕ)) (reach : ℕ) (ended : Bool) → has_end before ≡ false → record_in line ≡ Ok said → load_fault (given before) said.offset said.bytes ≡ None
    → Holds places (λ address. option_or (byte_at said.offset said.bytes address) (given before address))
    → reach ≡ max (highest_end before) (if length said.bytes == 0 then 0 else said.offset + length said.bytes)
    → ended ≡ is_end_type said.type
    → TakenTo before line places reach ended
taken_right before line said places reach ended open_yet says right holds reaches ends = (
  fault_open before line (Ok said) open_yet says ∙ right,
  record {
    holds = λ address within. holds address within ∙ sym (given-push before line address ∙ ap (λ here. option_or (byte_in here address) (given before address)) says);
    reaches = reaches ∙ sym (highest_end-push before line ∙ ap (λ here. max (highest_end before) (end_in here)) says);
    ends = ends ∙ sym (has_end-push before line ∙ ap₂ (λ here earlier. ends_file here || earlier) says open_yet ∙ or-false (is_end_type said.type));
  },
)
  where
    or-false : (b : Bool) → (b || false) ≡ b
    or-false true = refl
    or-false false = refl

data_says : (before : List (List ℕ)) (line bytes : List ℕ) (offset : ℕ) (loads : List ℕ) → Taking before line bytes → type_of bytes ≡ Ok Data → offset ≡ offset_of bytes → loads ≡ data_of bytes → record_in line ≡ Ok (record { type = Data; offset = offset; bytes = loads })
data_says before line bytes offset loads taking right at these =
    record_in-bytes line bytes (Ok Data) taking.form right
    ∙ ap₂ (λ (o : ℕ) (all : List ℕ). Ok (record { type = Data; offset = o; bytes = all })) (sym at) (sym these)

-- a record that loads no bytes
pub taken_none : (before : List (List ℕ)) (line bytes : List ℕ) (type : RecordType) (places : List (Option ℕ)) (reach : ℕ) (earlier ended : Bool) → Taking before line bytes → type_of bytes ≡ Ok type → loaded type (data_of bytes) ≡ []
    → load_fault (given before) (offset_of bytes) [] ≡ None
    → IsReadUpTo before places reach earlier → ended ≡ is_end_type type → TakenTo before line places reach ended
taken_none before line bytes type places reach earlier ended taking right none fits state ends =
    let said : HexRecord = record { type = type; offset = offset_of bytes; bytes = [] } in
    let says : record_in line ≡ Ok said =
    record_in-bytes line bytes (Ok type) taking.form right ∙ ap (λ (all : List ℕ). Ok (record { type = type; offset = offset_of bytes; bytes = all })) none in
    let stays : highest_end before ≡ max (highest_end before) 0 = omega arith in
    taken_right before line said places reach ended taking.open_yet says fits
    (λ address within. state.holds address within ∙ sym (ap (λ here. option_or here (given before address)) (byte_at-nil (offset_of bytes) address)))
    (state.reaches ∙ stays) ends

-- a data record
pub taken_data : (before : List (List ℕ)) (line bytes : List ℕ) (offset : ℕ) (loads : List ℕ) (old new : List (Option ℕ)) (from to : ℕ) (ended : Bool) (result : Result (Unit {0}) HexKind) → Taking before line bytes → type_of bytes ≡ Ok Data → offset ≡ offset_of bytes → loads ≡ data_of bytes → IsReadUpTo before old from ended
    → MatchResult result
    (λ _. (load_fault (given before) offset loads ≡ None)
    × Holds new (λ address. option_or (byte_at offset loads address) (given before address))
    × (to ≡ max from (if length loads == 0 then 0 else offset + length loads)))
    (λ kind. load_fault (given before) offset loads ≡ Some kind)
    → MatchResult result (λ _. TakenTo before line new to ended) (λ kind. fault_behind before line ≡ Some kind)
taken_data before line bytes offset loads old new from to ended (Ok u) taking right at these state loaded_now =
    let said : HexRecord = record { type = Data; offset = offset; bytes = loads } in
    taken_right before line said new to ended taking.open_yet (data_says before line bytes offset loads taking right at these) loaded_now.0 loaded_now.1
    (loaded_now.2 ∙ ap (λ reach. max reach (if length loads == 0 then 0 else offset + length loads)) state.reaches)
    (state.ends ∙ taking.open_yet)
taken_data before line bytes offset loads old new from to ended (Err kind) taking right at these state bad =
    let said : HexRecord = record { type = Data; offset = offset; bytes = loads } in
    fault_open before line (Ok said) taking.open_yet (data_says before line bytes offset loads taking right at these) ∙ bad
