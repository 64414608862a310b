-- A form that reaches leads to its target on the machine, also where the target or the next instruction is the end of code memory.
use Rattle.std.proofs.Common.{◌≡◌, ℕ, ◌+◌, ◌/◌, ◌%◌, ◌≤◌, true, ap, ◌∙◌, arith, nat_le, eqb-true, leb-true}
use Rattle.mcs51_isa.specs.Operands.{addr11_of, page_target, relative_target}
use Rattle.mcs51_isa.specs.Offsets.{IsNear, offset_to}
use Rattle.mcs51_isa.proofs.Addresses.{relative_leads, page_leads}
use Rattle.asm51.specs.Relaxation.{is_near, same_page}
use Rattle.asm51.proofs.Counting.{both_true}

pub near_is : (next target : ℕ) → is_near next target ≡ true → IsNear next target
near_is next target e =
    let b = both_true (nat_le next (target + 128)) (nat_le target (next + 127)) e in
    (leb-true next (target + 128) b.0, leb-true target (next + 127) b.1)

pub short_leads : (next target : ℕ) → next ≤ 65536 → target ≤ 65536 → is_near next target ≡ true → relative_target (next % 65536) (offset_to next (target % 65536)) ≡ target % 65536
short_leads next target next_fits target_fits e =
    let same : offset_to next (target % 65536) ≡ offset_to next target = omega arith in
    ap (relative_target (next % 65536)) same ∙ relative_leads next target next_fits target_fits (near_is next target e)

pub page_reaches : (next target : ℕ) → next ≤ 65536 → target ≤ 65536 → same_page next target ≡ true → page_target (next % 65536) (addr11_of (target % 65536)) ≡ target % 65536
page_reaches next target next_fits target_fits e =
    let same = eqb-true (next / 2048) (target / 2048) e in
    page_leads (next % 65536) (target % 65536) (omega arith)
