-- The opcodes and mnemonics of the operators (Intel, MCS-51 instruction set). An operator that takes
-- several kinds of operands has a row of the opcode map: its opcodes are the row's first one and the
-- column of the operands. Each other operator has one opcode.
use Rattle.std.specs.Prelude.{ℕ, List, [], ◌∷◌, codes}
use Rattle.mcs51_isa.specs.declared.instr.LongJump.{LongJump}
use Rattle.mcs51_isa.specs.declared.instr.LongJump.TheVariants.{Ljmp, Lcall}
use Rattle.mcs51_isa.specs.declared.instr.ReturnKind.{ReturnKind}
use Rattle.mcs51_isa.specs.declared.instr.ReturnKind.TheVariants.{FromCall, FromInterrupt}
use Rattle.mcs51_isa.specs.declared.instr.Rotate.{Rotate}
use Rattle.mcs51_isa.specs.declared.instr.Rotate.TheVariants.{Rr, Rrc, Rl, Rlc}
use Rattle.mcs51_isa.specs.declared.instr.ByOne.{ByOne}
use Rattle.mcs51_isa.specs.declared.instr.ByOne.TheVariants.{Inc, Dec}
use Rattle.mcs51_isa.specs.declared.instr.BitTest.{BitTest}
use Rattle.mcs51_isa.specs.declared.instr.BitTest.TheVariants.{Jbc, Jb, Jnb}
use Rattle.mcs51_isa.specs.declared.instr.FlagTest.{FlagTest}
use Rattle.mcs51_isa.specs.declared.instr.FlagTest.TheVariants.{Jc, Jnc, Jz, Jnz}
use Rattle.mcs51_isa.specs.declared.instr.SumOp.{SumOp}
use Rattle.mcs51_isa.specs.declared.instr.SumOp.TheVariants.{Add, Addc, Subb}
use Rattle.mcs51_isa.specs.declared.instr.Logic.{Logic}
use Rattle.mcs51_isa.specs.declared.instr.Logic.TheVariants.{Orl, Anl, Xrl}
use Rattle.mcs51_isa.specs.declared.instr.CarryOp.{CarryOp}
use Rattle.mcs51_isa.specs.declared.instr.CarryOp.TheVariants.{OrlBit, AnlBit, OrlNotBit, AnlNotBit}
use Rattle.mcs51_isa.specs.declared.instr.TableBase.{TableBase}
use Rattle.mcs51_isa.specs.declared.instr.TableBase.TheVariants.{Pc, Dptr}
use Rattle.mcs51_isa.specs.declared.instr.MulDiv.{MulDiv}
use Rattle.mcs51_isa.specs.declared.instr.MulDiv.TheVariants.{DivAb, MulAb}
use Rattle.mcs51_isa.specs.declared.instr.BitChange.{BitChange}
use Rattle.mcs51_isa.specs.declared.instr.BitChange.TheVariants.{Cpl, Clr, Setb}
use Rattle.mcs51_isa.specs.declared.instr.StackOp.{StackOp}
use Rattle.mcs51_isa.specs.declared.instr.StackOp.TheVariants.{Push, Pop}
use Rattle.mcs51_isa.specs.declared.instr.Adjustment.{Adjustment}
use Rattle.mcs51_isa.specs.declared.instr.Adjustment.TheVariants.{Swap, Da}
use Rattle.mcs51_isa.specs.declared.instr.Move.{Move}
use Rattle.mcs51_isa.specs.declared.instr.Move.TheVariants.{IntoAcc, FromAcc}
use Rattle.mcs51_isa.specs.declared.instr.Whole.{Whole}
use Rattle.mcs51_isa.specs.declared.instr.Whole.TheVariants.{ClearAcc, ComplementAcc}
use Rattle.mcs51_isa.specs.declared.assembly.Operand.{Operand}
use Rattle.mcs51_isa.specs.declared.assembly.Operand.TheVariants.{Acc, Bit, NotBit, AtAccDptr, AtAccPc}

abbrev pub long_jump_opcode : LongJump → ℕ
long_jump_opcode Ljmp = 0x02
long_jump_opcode Lcall = 0x12

abbrev pub long_jump_mnemonic : LongJump → List ℕ
long_jump_mnemonic Ljmp = codes "LJMP"
long_jump_mnemonic Lcall = codes "LCALL"

abbrev pub return_opcode : ReturnKind → ℕ
return_opcode FromCall = 0x22
return_opcode FromInterrupt = 0x32

abbrev pub return_mnemonic : ReturnKind → List ℕ
return_mnemonic FromCall = codes "RET"
return_mnemonic FromInterrupt = codes "RETI"

abbrev pub rotate_opcode : Rotate → ℕ
rotate_opcode Rr = 0x03
rotate_opcode Rrc = 0x13
rotate_opcode Rl = 0x23
rotate_opcode Rlc = 0x33

abbrev pub rotate_mnemonic : Rotate → List ℕ
rotate_mnemonic Rr = codes "RR"
rotate_mnemonic Rrc = codes "RRC"
rotate_mnemonic Rl = codes "RL"
rotate_mnemonic Rlc = codes "RLC"

abbrev pub by_one_row : ByOne → ℕ
by_one_row Inc = 0x00
by_one_row Dec = 0x10

abbrev pub by_one_mnemonic : ByOne → List ℕ
by_one_mnemonic Inc = codes "INC"
by_one_mnemonic Dec = codes "DEC"

abbrev pub bit_test_opcode : BitTest → ℕ
bit_test_opcode Jbc = 0x10
bit_test_opcode Jb = 0x20
bit_test_opcode Jnb = 0x30

abbrev pub bit_test_mnemonic : BitTest → List ℕ
bit_test_mnemonic Jbc = codes "JBC"
bit_test_mnemonic Jb = codes "JB"
bit_test_mnemonic Jnb = codes "JNB"

abbrev pub flag_test_opcode : FlagTest → ℕ
flag_test_opcode Jc = 0x40
flag_test_opcode Jnc = 0x50
flag_test_opcode Jz = 0x60
flag_test_opcode Jnz = 0x70

abbrev pub flag_test_mnemonic : FlagTest → List ℕ
flag_test_mnemonic Jc = codes "JC"
flag_test_mnemonic Jnc = codes "JNC"
flag_test_mnemonic Jz = codes "JZ"
flag_test_mnemonic Jnz = codes "JNZ"

abbrev pub sum_row : SumOp → ℕ
sum_row Add = 0x20
sum_row Addc = 0x30
sum_row Subb = 0x90

abbrev pub sum_mnemonic : SumOp → List ℕ
sum_mnemonic Add = codes "ADD"
sum_mnemonic Addc = codes "ADDC"
sum_mnemonic Subb = codes "SUBB"

abbrev pub logic_row : Logic → ℕ
logic_row Orl = 0x40
logic_row Anl = 0x50
logic_row Xrl = 0x60

abbrev pub logic_mnemonic : Logic → List ℕ
logic_mnemonic Orl = codes "ORL"
logic_mnemonic Anl = codes "ANL"
logic_mnemonic Xrl = codes "XRL"

abbrev pub carry_opcode : CarryOp → ℕ
carry_opcode OrlBit = 0x72
carry_opcode AnlBit = 0x82
carry_opcode OrlNotBit = 0xA0
carry_opcode AnlNotBit = 0xB0

abbrev pub carry_mnemonic : CarryOp → List ℕ
carry_mnemonic OrlBit = codes "ORL"
carry_mnemonic AnlBit = codes "ANL"
carry_mnemonic OrlNotBit = codes "ORL"
carry_mnemonic AnlNotBit = codes "ANL"

abbrev pub carry_operand : CarryOp → ℕ → Operand
carry_operand OrlBit b = Bit b
carry_operand AnlBit b = Bit b
carry_operand OrlNotBit b = NotBit b
carry_operand AnlNotBit b = NotBit b

abbrev pub table_base_opcode : TableBase → ℕ
table_base_opcode Pc = 0x83
table_base_opcode Dptr = 0x93

abbrev pub table_operand : TableBase → Operand
table_operand Pc = AtAccPc
table_operand Dptr = AtAccDptr

abbrev pub mul_div_opcode : MulDiv → ℕ
mul_div_opcode DivAb = 0x84
mul_div_opcode MulAb = 0xA4

abbrev pub mul_div_mnemonic : MulDiv → List ℕ
mul_div_mnemonic DivAb = codes "DIV"
mul_div_mnemonic MulAb = codes "MUL"

abbrev pub change_row : BitChange → ℕ
change_row Cpl = 0xB0
change_row Clr = 0xC0
change_row Setb = 0xD0

abbrev pub change_mnemonic : BitChange → List ℕ
change_mnemonic Cpl = codes "CPL"
change_mnemonic Clr = codes "CLR"
change_mnemonic Setb = codes "SETB"

abbrev pub stack_opcode : StackOp → ℕ
stack_opcode Push = 0xC0
stack_opcode Pop = 0xD0

abbrev pub stack_mnemonic : StackOp → List ℕ
stack_mnemonic Push = codes "PUSH"
stack_mnemonic Pop = codes "POP"

abbrev pub adjustment_opcode : Adjustment → ℕ
adjustment_opcode Swap = 0xC4
adjustment_opcode Da = 0xD4

abbrev pub adjustment_mnemonic : Adjustment → List ℕ
adjustment_mnemonic Swap = codes "SWAP"
adjustment_mnemonic Da = codes "DA"

abbrev pub move_row : Move → ℕ
move_row IntoAcc = 0xE0
move_row FromAcc = 0xF0

-- a move into A names A first, one from A names it last
abbrev pub move_operands : Move → Operand → List Operand
move_operands IntoAcc place = Acc ∷ place ∷ []
move_operands FromAcc place = place ∷ Acc ∷ []

abbrev pub whole_opcode : Whole → ℕ
whole_opcode ClearAcc = 0xE4
whole_opcode ComplementAcc = 0xF4

abbrev pub whole_mnemonic : Whole → List ℕ
whole_mnemonic ClearAcc = codes "CLR"
whole_mnemonic ComplementAcc = codes "CPL"
