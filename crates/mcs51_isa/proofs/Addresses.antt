-- The operands of jumps lead to their targets.
use Rattle.std.proofs.Common.{◌≡◌, ℕ, ◌+◌, ◌*◌, ◌/◌, ◌%◌, ◌<◌, ◌≤◌, Bool, true, false, arith, refl, ap, ◌∙◌, nat_lt, ltb-true, ltb-false}
use Rattle.mcs51_isa.specs.Operands.{addr11_of, page_number, page_of, page_target, reg_number, relative_target}
use Rattle.mcs51_isa.specs.Offsets.{IsNear, offset_to}
use Rattle.mcs51_isa.specs.declared.operands.Reg.{Reg}
use Rattle.mcs51_isa.proofs.Cases.{each_digit, each_reg}

-- a target within reach is where its offset leads
pub relative_leads : (next target : ℕ) → next ≤ 65536 → target ≤ 65536 → IsNear next target → relative_target (next % 65536) (offset_to next target) ≡ target % 65536
relative_leads next target next_fits target_fits near = by_sign near.0 near.1 (nat_lt (offset_to next target) 0x80) refl
  where
    by_sign : next ≤ target + 128 → target ≤ next + 127 → (forwards : Bool) → nat_lt (offset_to next target) 0x80 ≡ forwards → relative_target (next % 65536) (offset_to next target) ≡ target % 65536
    by_sign behind ahead true e = let low : offset_to next target < 0x80 = ltb-true _ _ e in rw e (omega arith)
    by_sign behind ahead false e = let high : 0x80 ≤ offset_to next target = ltb-false _ _ e in rw e (omega arith)

-- an offset is a byte
pub offset_is_byte : (next target : ℕ) → offset_to next target < 256
offset_is_byte next target = omega arith

page_number-page_of : (n : ℕ) → n < 16 → n < 8 → page_number (page_of n) ≡ n
page_number-page_of =
    each_digit (λ n. n < 8 → page_number (page_of n) ≡ n) (λ low. refl) (λ low. refl) (λ low. refl) (λ low. refl) (λ low. refl) (λ low. refl) (λ low. refl) (λ low. refl)
    (λ low. absurd (omega arith)) (λ low. absurd (omega arith)) (λ low. absurd (omega arith)) (λ low. absurd (omega arith))
    (λ low. absurd (omega arith)) (λ low. absurd (omega arith)) (λ low. absurd (omega arith)) (λ low. absurd (omega arith))

-- AJMP and ACALL lead to their target from everywhere in its 2,048 bytes
pub page_leads : (next target : ℕ) → next / 2048 ≡ target / 2048 → page_target next (addr11_of target) ≡ target
page_leads next target same =
    let page : page_number (page_of (target / 256 % 8)) ≡ target / 256 % 8 = page_number-page_of (target / 256 % 8) (omega arith) (omega arith) in
    ap (λ n. next / 2048 * 2048 + n * 256 + target % 256) page ∙ omega (arith, same)

-- there are eight registers
pub reg_number_below : (r : Reg) → reg_number r < 8
reg_number_below r =
    each_reg (λ q. reg_number q < 8) (omega arith) (omega arith) (omega arith) (omega arith) (omega arith) (omega arith) (omega arith) (omega arith) r
