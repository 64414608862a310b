-- The instruction table (Intel, MCS-51 instruction set). An entry has the mnemonic, the operands in
-- the order of the assembler, the bytes, which begin with the opcode, and the machine cycles of twelve
-- oscillator periods. A conditional jump takes its cycles whether it jumps or not.
use Rattle.std.specs.Prelude.{ℕ, ◌+◌, ◌*◌, ◌/◌, ◌%◌, ◌-◌, List, [], ◌∷◌, ◌++◌, replicate, length, codes}
use Rattle.mcs51_isa.specs.declared.instr.Instr.{Instr}
use Rattle.mcs51_isa.specs.declared.instr.Instr.TheVariants.{Nop, Ajmp, Acall, Long, Ret, RotateAcc, StepAcc, StepDirect, StepIndirect, StepRegister, BranchBit, BranchFlag, Sjmp, ArithImmediate, ArithDirect, ArithIndirect, ArithRegister, LogicDirectAcc, LogicDirectImmediate, LogicImmediate, LogicDirect, LogicIndirect, LogicRegister, CarryLogic, JmpIndirect, MovAccImmediate, MovDirectImmediate, MovIndirectImmediate, MovRegisterImmediate, Movc, Multiplier, MovDirectDirect, MovDirectIndirect, MovDirectRegister, MovDptr, MovBitCarry, MovCarryBit, IncDptr, MovIndirectDirect, MovRegisterDirect, ChangeBit, ChangeCarry, CjneImmediate, CjneDirect, CjneIndirect, CjneRegister, Stack, Adjust, XchDirect, XchIndirect, XchRegister, Xchd, DjnzDirect, DjnzRegister, MovxDptr, MovxIndirect, WholeAcc, MovDirect, MovIndirect, MovRegister}
use Rattle.mcs51_isa.specs.declared.assembly.Operand.{Operand}
use Rattle.mcs51_isa.specs.declared.assembly.Operand.TheVariants.{Acc, Carry, Ab, DataPointer, AtDptr, AtAccDptr, Direct, Bit, Immediate, ImmediateWord, Indirect, Register, Relative, Paged, Absolute}
use Rattle.mcs51_isa.specs.Operands.{reg_number, ind_number, page_number}
use Rattle.mcs51_isa.specs.Operators.{long_jump_opcode, return_opcode, rotate_opcode, by_one_row, bit_test_opcode, flag_test_opcode, sum_row, logic_row, carry_opcode, table_base_opcode, mul_div_opcode, change_row, stack_opcode, adjustment_opcode, move_row, whole_opcode, long_jump_mnemonic, return_mnemonic, rotate_mnemonic, by_one_mnemonic, bit_test_mnemonic, flag_test_mnemonic, sum_mnemonic, logic_mnemonic, carry_mnemonic, mul_div_mnemonic, change_mnemonic, stack_mnemonic, adjustment_mnemonic, whole_mnemonic, carry_operand, table_operand, move_operands}

pub record Entry : Type 0 where
  pub mnemonic : List ℕ
  pub operands : List Operand
  pub bytes : List ℕ
  pub cycles : ℕ

abbrev pub entry : List ℕ → List Operand → List ℕ → ℕ → Entry
entry mnemonic operands bytes cycles =
    record { mnemonic = mnemonic; operands = operands; bytes = bytes; cycles = cycles }

abbrev pub entry_of : Instr → Entry
entry_of Nop = entry (codes "NOP") [] (0x00 ∷ []) 1
entry_of (Ajmp a) = entry (codes "AJMP") (Paged a ∷ []) ((0x01 + page_number a.page * 0x20) ∷ a.low ∷ []) 2
entry_of (Acall a) = entry (codes "ACALL") (Paged a ∷ []) ((0x11 + page_number a.page * 0x20) ∷ a.low ∷ []) 2
entry_of (Long o w) = entry (long_jump_mnemonic o) (Absolute w ∷ []) (long_jump_opcode o ∷ (w / 256) ∷ (w % 256) ∷ []) 2
entry_of (Ret o) = entry (return_mnemonic o) [] (return_opcode o ∷ []) 2
entry_of (RotateAcc o) = entry (rotate_mnemonic o) (Acc ∷ []) (rotate_opcode o ∷ []) 1
entry_of (StepAcc o) = entry (by_one_mnemonic o) (Acc ∷ []) ((by_one_row o + 0x04) ∷ []) 1
entry_of (StepDirect o d) = entry (by_one_mnemonic o) (Direct d ∷ []) ((by_one_row o + 0x05) ∷ d ∷ []) 1
entry_of (StepIndirect o i) = entry (by_one_mnemonic o) (Indirect i ∷ []) ((by_one_row o + 0x06 + ind_number i) ∷ []) 1
entry_of (StepRegister o n) = entry (by_one_mnemonic o) (Register n ∷ []) ((by_one_row o + 0x08 + reg_number n) ∷ []) 1
entry_of (BranchBit o b r) = entry (bit_test_mnemonic o) (Bit b ∷ Relative r ∷ []) (bit_test_opcode o ∷ b ∷ r ∷ []) 2
entry_of (BranchFlag o r) = entry (flag_test_mnemonic o) (Relative r ∷ []) (flag_test_opcode o ∷ r ∷ []) 2
entry_of (Sjmp r) = entry (codes "SJMP") (Relative r ∷ []) (0x80 ∷ r ∷ []) 2
entry_of (ArithImmediate o k) = entry (sum_mnemonic o) (Acc ∷ Immediate k ∷ []) ((sum_row o + 0x04) ∷ k ∷ []) 1
entry_of (ArithDirect o d) = entry (sum_mnemonic o) (Acc ∷ Direct d ∷ []) ((sum_row o + 0x05) ∷ d ∷ []) 1
entry_of (ArithIndirect o i) = entry (sum_mnemonic o) (Acc ∷ Indirect i ∷ []) ((sum_row o + 0x06 + ind_number i) ∷ []) 1
entry_of (ArithRegister o n) = entry (sum_mnemonic o) (Acc ∷ Register n ∷ []) ((sum_row o + 0x08 + reg_number n) ∷ []) 1
entry_of (LogicDirectAcc o d) = entry (logic_mnemonic o) (Direct d ∷ Acc ∷ []) ((logic_row o + 0x02) ∷ d ∷ []) 1
entry_of (LogicDirectImmediate o d k) = entry (logic_mnemonic o) (Direct d ∷ Immediate k ∷ []) ((logic_row o + 0x03) ∷ d ∷ k ∷ []) 2
entry_of (LogicImmediate o k) = entry (logic_mnemonic o) (Acc ∷ Immediate k ∷ []) ((logic_row o + 0x04) ∷ k ∷ []) 1
entry_of (LogicDirect o d) = entry (logic_mnemonic o) (Acc ∷ Direct d ∷ []) ((logic_row o + 0x05) ∷ d ∷ []) 1
entry_of (LogicIndirect o i) = entry (logic_mnemonic o) (Acc ∷ Indirect i ∷ []) ((logic_row o + 0x06 + ind_number i) ∷ []) 1
entry_of (LogicRegister o n) = entry (logic_mnemonic o) (Acc ∷ Register n ∷ []) ((logic_row o + 0x08 + reg_number n) ∷ []) 1
entry_of (CarryLogic o b) = entry (carry_mnemonic o) (Carry ∷ carry_operand o b ∷ []) (carry_opcode o ∷ b ∷ []) 2
entry_of JmpIndirect = entry (codes "JMP") (AtAccDptr ∷ []) (0x73 ∷ []) 2
entry_of (MovAccImmediate k) = entry (codes "MOV") (Acc ∷ Immediate k ∷ []) (0x74 ∷ k ∷ []) 1
entry_of (MovDirectImmediate d k) = entry (codes "MOV") (Direct d ∷ Immediate k ∷ []) (0x75 ∷ d ∷ k ∷ []) 2
entry_of (MovIndirectImmediate i k) = entry (codes "MOV") (Indirect i ∷ Immediate k ∷ []) ((0x76 + ind_number i) ∷ k ∷ []) 1
entry_of (MovRegisterImmediate n k) = entry (codes "MOV") (Register n ∷ Immediate k ∷ []) ((0x78 + reg_number n) ∷ k ∷ []) 1
entry_of (Movc o) = entry (codes "MOVC") (Acc ∷ table_operand o ∷ []) (table_base_opcode o ∷ []) 2
entry_of (Multiplier o) = entry (mul_div_mnemonic o) (Ab ∷ []) (mul_div_opcode o ∷ []) 4
entry_of (MovDirectDirect s t) = entry (codes "MOV") (Direct t ∷ Direct s ∷ []) (0x85 ∷ s ∷ t ∷ []) 2
entry_of (MovDirectIndirect d i) = entry (codes "MOV") (Direct d ∷ Indirect i ∷ []) ((0x86 + ind_number i) ∷ d ∷ []) 2
entry_of (MovDirectRegister d n) = entry (codes "MOV") (Direct d ∷ Register n ∷ []) ((0x88 + reg_number n) ∷ d ∷ []) 2
entry_of (MovDptr w) = entry (codes "MOV") (DataPointer ∷ ImmediateWord w ∷ []) (0x90 ∷ (w / 256) ∷ (w % 256) ∷ []) 2
entry_of (MovBitCarry b) = entry (codes "MOV") (Bit b ∷ Carry ∷ []) (0x92 ∷ b ∷ []) 2
entry_of (MovCarryBit b) = entry (codes "MOV") (Carry ∷ Bit b ∷ []) (0xA2 ∷ b ∷ []) 1
entry_of IncDptr = entry (codes "INC") (DataPointer ∷ []) (0xA3 ∷ []) 2
entry_of (MovIndirectDirect i d) = entry (codes "MOV") (Indirect i ∷ Direct d ∷ []) ((0xA6 + ind_number i) ∷ d ∷ []) 2
entry_of (MovRegisterDirect n d) = entry (codes "MOV") (Register n ∷ Direct d ∷ []) ((0xA8 + reg_number n) ∷ d ∷ []) 2
entry_of (ChangeBit o b) = entry (change_mnemonic o) (Bit b ∷ []) ((change_row o + 0x02) ∷ b ∷ []) 1
entry_of (ChangeCarry o) = entry (change_mnemonic o) (Carry ∷ []) ((change_row o + 0x03) ∷ []) 1
entry_of (CjneImmediate k r) = entry (codes "CJNE") (Acc ∷ Immediate k ∷ Relative r ∷ []) (0xB4 ∷ k ∷ r ∷ []) 2
entry_of (CjneDirect d r) = entry (codes "CJNE") (Acc ∷ Direct d ∷ Relative r ∷ []) (0xB5 ∷ d ∷ r ∷ []) 2
entry_of (CjneIndirect i k r) = entry (codes "CJNE") (Indirect i ∷ Immediate k ∷ Relative r ∷ []) ((0xB6 + ind_number i) ∷ k ∷ r ∷ []) 2
entry_of (CjneRegister n k r) = entry (codes "CJNE") (Register n ∷ Immediate k ∷ Relative r ∷ []) ((0xB8 + reg_number n) ∷ k ∷ r ∷ []) 2
entry_of (Stack o d) = entry (stack_mnemonic o) (Direct d ∷ []) (stack_opcode o ∷ d ∷ []) 2
entry_of (Adjust o) = entry (adjustment_mnemonic o) (Acc ∷ []) (adjustment_opcode o ∷ []) 1
entry_of (XchDirect d) = entry (codes "XCH") (Acc ∷ Direct d ∷ []) (0xC5 ∷ d ∷ []) 1
entry_of (XchIndirect i) = entry (codes "XCH") (Acc ∷ Indirect i ∷ []) ((0xC6 + ind_number i) ∷ []) 1
entry_of (XchRegister n) = entry (codes "XCH") (Acc ∷ Register n ∷ []) ((0xC8 + reg_number n) ∷ []) 1
entry_of (Xchd i) = entry (codes "XCHD") (Acc ∷ Indirect i ∷ []) ((0xD6 + ind_number i) ∷ []) 1
entry_of (DjnzDirect d r) = entry (codes "DJNZ") (Direct d ∷ Relative r ∷ []) (0xD5 ∷ d ∷ r ∷ []) 2
entry_of (DjnzRegister n r) = entry (codes "DJNZ") (Register n ∷ Relative r ∷ []) ((0xD8 + reg_number n) ∷ r ∷ []) 2
entry_of (MovxDptr o) = entry (codes "MOVX") (move_operands o AtDptr) (move_row o ∷ []) 2
entry_of (MovxIndirect o i) = entry (codes "MOVX") (move_operands o (Indirect i)) ((move_row o + 0x02 + ind_number i) ∷ []) 2
entry_of (WholeAcc o) = entry (whole_mnemonic o) (Acc ∷ []) (whole_opcode o ∷ []) 1
entry_of (MovDirect o d) = entry (codes "MOV") (move_operands o (Direct d)) ((move_row o + 0x05) ∷ d ∷ []) 1
entry_of (MovIndirect o i) = entry (codes "MOV") (move_operands o (Indirect i)) ((move_row o + 0x06 + ind_number i) ∷ []) 1
entry_of (MovRegister o n) = entry (codes "MOV") (move_operands o (Register n)) ((move_row o + 0x08 + reg_number n) ∷ []) 1

-- the bytes of an instruction: its opcode, then its operands
abbrev pub encode_of : Instr → List ℕ
encode_of i = (entry_of i).bytes

-- its machine cycles
abbrev pub cycles_of : Instr → ℕ
cycles_of i = (entry_of i).cycles

-- its bytes in three places, 0 in those that it does not use
abbrev pub padded_code_of : Instr → List ℕ
padded_code_of i = encode_of i ++ replicate (3 - length (encode_of i)) 0
