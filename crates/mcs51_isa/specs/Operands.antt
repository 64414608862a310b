-- The operands of instructions (Intel, MCS-51 instruction set): the numbers by which an opcode names
-- its register or page, and where a jump leads.
use Rattle.std.specs.Prelude.{ℕ, ◌+◌, ◌*◌, ◌/◌, ◌%◌, [], ◌∷◌, slice_index_or, nat_lt, if◌then◌else◌}
use Rattle.mcs51_isa.specs.declared.operands.Reg.{Reg}
use Rattle.mcs51_isa.specs.declared.operands.Reg.TheVariants.{R0, R1, R2, R3, R4, R5, R6, R7}
use Rattle.mcs51_isa.specs.declared.operands.Ind.{Ind}
use Rattle.mcs51_isa.specs.declared.operands.Ind.TheVariants.{At0, At1}
use Rattle.mcs51_isa.specs.declared.operands.Page.{Page}
use Rattle.mcs51_isa.specs.declared.operands.Page.TheVariants.{Page0, Page1, Page2, Page3, Page4, Page5, Page6, Page7}
use Rattle.mcs51_isa.specs.declared.operands.Addr11.{Addr11}

-- the number of a register, and the register with this number
abbrev pub reg_number : Reg → ℕ
reg_number R0 = 0
reg_number R1 = 1
reg_number R2 = 2
reg_number R3 = 3
reg_number R4 = 4
reg_number R5 = 5
reg_number R6 = 6
reg_number R7 = 7

abbrev pub reg_of : ℕ → Reg
reg_of number = slice_index_or (R0 ∷ R1 ∷ R2 ∷ R3 ∷ R4 ∷ R5 ∷ R6 ∷ R7 ∷ []) number R0

-- the number of an indirect register, and the indirect register with this number
abbrev pub ind_number : Ind → ℕ
ind_number At0 = 0
ind_number At1 = 1

abbrev pub ind_of : ℕ → Ind
ind_of number = slice_index_or (At0 ∷ At1 ∷ []) number At0

-- the number of a page, and the page with this number
abbrev pub page_number : Page → ℕ
page_number Page0 = 0
page_number Page1 = 1
page_number Page2 = 2
page_number Page3 = 3
page_number Page4 = 4
page_number Page5 = 5
page_number Page6 = 6
page_number Page7 = 7

abbrev pub page_of : ℕ → Page
page_of number = slice_index_or (Page0 ∷ Page1 ∷ Page2 ∷ Page3 ∷ Page4 ∷ Page5 ∷ Page6 ∷ Page7 ∷ []) number Page0

-- the low 11 bits of an address
abbrev pub addr11_of : ℕ → Addr11
addr11_of address = record { page = page_of (address / 256 % 8); low = address % 256 }

-- where AJMP and ACALL lead: the top five bits of the next instruction's address stay
abbrev pub page_target : ℕ → Addr11 → ℕ
page_target next a = next / 2048 * 2048 + page_number a.page * 256 + a.low

-- where a relative jump leads: from 128 addresses before the next instruction to 127 behind it
abbrev pub relative_target : ℕ → ℕ → ℕ
relative_target next offset = (next + (if nat_lt offset 0x80 then offset else offset + 0xFF00)) % 65536
