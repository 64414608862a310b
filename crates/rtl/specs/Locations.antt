-- The locations of byte operations as numbers, so that one meaning serves every language. A virtual register is its number
-- (CerCo, deliverable 4.2: pseudo-registers of RTL and ERTL). The places of the processor (deliverable 4.2: registers and
-- spilled stack slots of LTL; Intel, MCS-51 family: register bank 0 and internal RAM) take turns, so that no two have one number.
use Rattle.std.specs.Prelude.{ℕ, ◌+◌, ◌-◌, ◌*◌, nat_lt, if◌then◌else◌}
use Rattle.rtl.specs.declared.locations.Vreg.{Vreg}
use Rattle.rtl.specs.declared.locations.Place.{Place}
use Rattle.rtl.specs.declared.locations.Place.TheVariants.{Reg, Arg, Cell}

abbrev pub vreg_number : Vreg → ℕ
vreg_number v = v.0

abbrev pub place_number : Place → ℕ
place_number (Reg n) = 3 * n
place_number (Arg n) = 3 * n + 1
place_number (Cell n) = 3 * n + 2

-- the byte of internal RAM that a place is: Rn of register bank 0, the bytes from 08H on, the cells from 10H on
abbrev pub place_address : Place → ℕ
place_address (Reg n) = n
place_address (Arg n) = 8 + n
place_address (Cell n) = 16 + n

-- the twelve places that hand over arguments and results, in their order: R2 to R7, and then the bytes from 08H on
abbrev pub argument_place : ℕ → Place
argument_place n = if nat_lt n 6 then Reg (n + 2) else Arg (n - 6)
