-- Calls push the address that they return to, and returns find it where its two bytes are still there.
use Rattle.std.proofs.Common.{◌≡◌, ◌≢◌, ℕ, ◌+◌, ◌*◌, ◌/◌, ◌%◌, ◌<◌, ◌≤◌, sym, ap, ap₂, ◌∙◌, arith, get_or, set, length, slice_index, slice_set}
use Rattle.std.proofs.lemmas.List.{get_or-set_same, get_or-set_other, length-set}
use Rattle.sim51.specs.State.{Core}
use Rattle.sim51.specs.Locations.{top, popped, called_from}
use Rattle.sim51.specs.StackApart.{SameStack, SameCalls}

module _ (c : Core) (address : ℕ) where
  -- a call keeps all of internal RAM but the two bytes above the stack's top
  pub called_from-other : (a : ℕ) → a ≢ (c.sp + 1) % 256 → a ≢ (c.sp + 2) % 256 → slice_index (called_from c address).iram a ≡ slice_index c.iram a
  called_from-other a first second =
      let next : (c.sp + 2) % 256 ≡ ((c.sp + 1) % 256 + 1) % 256 = omega arith in
      get_or-set_other (set c.iram ((c.sp + 1) % 256) (address % 256)) (((c.sp + 1) % 256 + 1) % 256) a (address / 256) 0 (λ e. second (e ∙ sym next))
      ∙ get_or-set_other c.iram ((c.sp + 1) % 256) a (address % 256) 0 first

  pub called_from-length : length (called_from c address).iram ≡ length c.iram
  called_from-length = length-set (set c.iram ((c.sp + 1) % 256) (address % 256)) _ (address / 256) ∙ length-set c.iram _ (address % 256)

  -- which are the bytes of the address
  pub called_from-bytes : length c.iram ≡ 256 → (slice_index (called_from c address).iram ((c.sp + 1) % 256) ≡ address % 256) × (slice_index (called_from c address).iram ((c.sp + 2) % 256) ≡ address / 256)
  called_from-bytes ram =
      let next : (c.sp + 2) % 256 ≡ ((c.sp + 1) % 256 + 1) % 256 = omega arith in
      let apart : (c.sp + 1) % 256 ≢ ((c.sp + 1) % 256 + 1) % 256 = λ e. omega arith in
      let low_within : (c.sp + 1) % 256 < length c.iram = omega (arith, ram) in
      let high_within : ((c.sp + 1) % 256 + 1) % 256 < length (set c.iram ((c.sp + 1) % 256) (address % 256)) = omega (arith, ram, length-set c.iram ((c.sp + 1) % 256) (address % 256)) in (
        get_or-set_other (set c.iram ((c.sp + 1) % 256) (address % 256)) (((c.sp + 1) % 256 + 1) % 256) ((c.sp + 1) % 256) (address / 256) 0 apart
            ∙ get_or-set_same c.iram ((c.sp + 1) % 256) (address % 256) 0 low_within,
        ap (λ a. get_or (called_from c address).iram a 0) next
            ∙ get_or-set_same (set c.iram ((c.sp + 1) % 256) (address % 256)) (((c.sp + 1) % 256 + 1) % 256) (address / 256) 0 high_within,
      )

  -- where the stack doesn't wrap
  pub called_from-unwrapped : c.sp ≤ 253 → called_from c address ≡ record c { sp = c.sp + 2; iram = slice_set (slice_set c.iram (c.sp + 1) (address % 256)) (c.sp + 2) (address / 256) }
  called_from-unwrapped room =
      let first : (c.sp + 1) % 256 ≡ c.sp + 1 = omega arith in
      let second : ((c.sp + 1) % 256 + 1) % 256 ≡ c.sp + 2 = omega arith in
      ap₂ (λ p q. record c { sp = q; iram = slice_set (slice_set c.iram p (address % 256)) q (address / 256) }) first second

  -- a return goes back, whatever else was written since
  pub return_address : (d : Core) → d.sp ≡ (called_from c address).sp → slice_index d.iram ((c.sp + 1) % 256) ≡ address % 256 → slice_index d.iram ((c.sp + 2) % 256) ≡ address / 256 → 256 * top d + top (popped d) ≡ address
  return_address d same_sp low_byte high_byte =
      let at_top : d.sp ≡ (c.sp + 2) % 256 = omega (arith, same_sp) in
      let below_top : (d.sp + 255) % 256 ≡ (c.sp + 1) % 256 = omega (arith, at_top) in
      ap₂ (λ h l. 256 * h + l) (ap (λ a. get_or d.iram a 0) at_top ∙ high_byte) (ap (λ a. get_or d.iram a 0) below_top ∙ low_byte) ∙ omega arith

  pub return_sp : (d : Core) → c.sp < 256 → d.sp ≡ (called_from c address).sp → (popped (popped d)).sp ≡ c.sp
  return_sp d sp same_sp = ap (λ n. ((n + 255) % 256 + 255) % 256) same_sp ∙ omega arith

  -- a call whose callee kept its open calls returns to its address, and its own open calls are those from before
  pub returns_past : (d : Core) → length c.iram ≡ 256 → 127 ≤ c.sp → c.sp ≤ 253 → SameCalls (called_from c address) d → (256 * top d + top (popped d) ≡ address) × SameCalls c (popped (popped d))
  returns_past d ram least room same =
      let bytes = called_from-bytes ram in
      let first : (c.sp + 1) % 256 ≡ c.sp + 1 = omega arith in
      let second : (c.sp + 2) % 256 ≡ c.sp + 2 = omega arith in
      let at_top : (called_from c address).sp ≡ c.sp + 2 = omega arith in (
        return_address d same.sp (same.stacked ((c.sp + 1) % 256) (omega (arith, first)) (omega (arith, first, at_top)) ∙ bytes.0)
            (same.stacked ((c.sp + 2) % 256) (omega (arith, second)) (omega (arith, second, at_top)) ∙ bytes.1),
        record {
          sp = return_sp d (omega arith) same.sp;
          bytes = same.bytes ∙ called_from-length;
          stacked = λ a high below. same.stacked a high (omega (arith, at_top)) ∙ called_from-other a (λ e. omega (arith, e, first)) (λ e. omega (arith, e, second));
        },
      )

-- open calls stay where the stack does, and through one stretch of code after another
pub same_calls : (c d : Core) → SameStack c d → SameCalls c d
same_calls c d same = record { sp = same.sp; bytes = same.bytes; stacked = λ a high below. same.high a high }

pub same_calls-trans : (c d e : Core) → SameCalls c d → SameCalls d e → SameCalls c e
same_calls-trans c d e before after = record {
  sp = after.sp ∙ before.sp;
  bytes = after.bytes ∙ before.bytes;
  stacked = λ a high below. after.stacked a high (let same = before.sp in omega arith) ∙ before.stacked a high below;
}
