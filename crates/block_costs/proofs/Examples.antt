-- The costs of some small codes, by the definitions.
use Rattle.std.proofs.Common.{◌≡◌, ℕ, List, [], ◌∷◌, Bool, true, false, Ok, Err, refl}
use Rattle.mcs51_isa.specs.Decoding.{decode_of}
use Rattle.sim51.specs.Step.{instr_at}
use Rattle.block_costs.specs.declared.faults.CostFault.TheVariants.{Unequal, Reserved, NoTarget, Second}
use Rattle.block_costs.specs.Ways.{cost, start_cost, way_from}

-- RET
back : cost (0x22 ∷ []) [] 0 ≡ Ok 2
unfolding way_from instr_at decode_of
back = refl

-- SJMP to itself
halt : cost (0x80 ∷ 0xFE ∷ []) [] 0 ≡ Ok 0
unfolding instr_at decode_of
halt = refl

-- JMP @A+DPTR
no_target : start_cost (0x73 ∷ []) [] ≡ Err (NoTarget 0)
unfolding way_from instr_at decode_of
no_target = refl

-- the reserved opcode, after a NOP
reserved : start_cost (0x00 ∷ 0xA5 ∷ []) [] ≡ Err (Reserved 1)
unfolding way_from instr_at decode_of
reserved = refl

-- JZ over a NOP to the halt: 3 cycles where it doesn't jump, and 2 where it does
unequal : start_cost (0x60 ∷ 0x01 ∷ 0x00 ∷ 0x80 ∷ 0xFE ∷ []) [] ≡ Err (Unequal 0 3 2)
unfolding way_from instr_at decode_of
unequal = refl

-- the same with a label at the NOP
parted : start_cost (0x60 ∷ 0x01 ∷ 0x00 ∷ 0x80 ∷ 0xFE ∷ []) (false ∷ false ∷ true ∷ []) ≡ Ok 2
unfolding way_from instr_at decode_of
parted = refl

-- JZ to the next instruction, and then JNZ
second : start_cost (0x60 ∷ 0x00 ∷ 0x70 ∷ 0x00 ∷ []) [] ≡ Err (Second 2)
unfolding way_from instr_at decode_of
second = refl

-- MOV SP,#7FH; LCALL 8; SJMP to itself; and at 8, a label: NOP; RET
program : List ℕ
program = 0x75 ∷ 0x81 ∷ 0x7F ∷ 0x12 ∷ 0x00 ∷ 0x08 ∷ 0x80 ∷ 0xFE ∷ 0x00 ∷ 0x22 ∷ []

marks_at_8 : List Bool
marks_at_8 = false ∷ false ∷ false ∷ false ∷ false ∷ false ∷ false ∷ false ∷ true ∷ []

start_of_program : start_cost program marks_at_8 ≡ Ok 4
unfolding way_from instr_at decode_of program marks_at_8
start_of_program = refl

label_of_program : cost program marks_at_8 8 ≡ Ok 3
unfolding way_from instr_at decode_of program marks_at_8
label_of_program = refl
