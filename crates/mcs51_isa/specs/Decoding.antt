-- The opcode map (Intel, MCS-51 instruction set): the instruction that an opcode and the two bytes
-- behind it stand for. The first hexadecimal digit of an opcode is its row, the last one its column.
use Rattle.std.specs.Prelude.{ℕ, ◌+◌, ◌*◌, ◌/◌, ◌%◌, ◌-◌, List, [], ◌∷◌, slice_index_or, Option, Some, None, nat_eq, nat_le, if◌then◌else◌, length}
use Rattle.mcs51_isa.specs.declared.instr.Instr.{Instr}
use Rattle.mcs51_isa.specs.declared.instr.Instr.TheVariants.{Nop, Ajmp, Acall, Long, Ret, RotateAcc, StepAcc, StepDirect, StepIndirect, StepRegister, BranchBit, BranchFlag, Sjmp, ArithImmediate, ArithDirect, ArithIndirect, ArithRegister, LogicDirectAcc, LogicDirectImmediate, LogicImmediate, LogicDirect, LogicIndirect, LogicRegister, CarryLogic, JmpIndirect, MovAccImmediate, MovDirectImmediate, MovIndirectImmediate, MovRegisterImmediate, Movc, Multiplier, MovDirectDirect, MovDirectIndirect, MovDirectRegister, MovDptr, MovBitCarry, MovCarryBit, IncDptr, MovIndirectDirect, MovRegisterDirect, ChangeBit, ChangeCarry, CjneImmediate, CjneDirect, CjneIndirect, CjneRegister, Stack, Adjust, XchDirect, XchIndirect, XchRegister, Xchd, DjnzDirect, DjnzRegister, MovxDptr, MovxIndirect, WholeAcc, MovDirect, MovIndirect, MovRegister}
use Rattle.mcs51_isa.specs.declared.instr.LongJump.TheVariants.{Ljmp, Lcall}
use Rattle.mcs51_isa.specs.declared.instr.ReturnKind.TheVariants.{FromCall, FromInterrupt}
use Rattle.mcs51_isa.specs.declared.instr.Rotate.TheVariants.{Rr, Rrc, Rl, Rlc}
use Rattle.mcs51_isa.specs.declared.instr.ByOne.TheVariants.{Inc, Dec}
use Rattle.mcs51_isa.specs.declared.instr.BitTest.TheVariants.{Jbc, Jb, Jnb}
use Rattle.mcs51_isa.specs.declared.instr.FlagTest.TheVariants.{Jc, Jnc, Jz, Jnz}
use Rattle.mcs51_isa.specs.declared.instr.SumOp.TheVariants.{Add, Addc, Subb}
use Rattle.mcs51_isa.specs.declared.instr.Logic.TheVariants.{Orl, Anl, Xrl}
use Rattle.mcs51_isa.specs.declared.instr.CarryOp.TheVariants.{OrlBit, AnlBit, OrlNotBit, AnlNotBit}
use Rattle.mcs51_isa.specs.declared.instr.TableBase.TheVariants.{Pc, Dptr}
use Rattle.mcs51_isa.specs.declared.instr.MulDiv.TheVariants.{DivAb, MulAb}
use Rattle.mcs51_isa.specs.declared.instr.BitChange.TheVariants.{Cpl, Clr, Setb}
use Rattle.mcs51_isa.specs.declared.instr.StackOp.TheVariants.{Push, Pop}
use Rattle.mcs51_isa.specs.declared.instr.Adjustment.TheVariants.{Swap, Da}
use Rattle.mcs51_isa.specs.declared.instr.Move.TheVariants.{IntoAcc, FromAcc}
use Rattle.mcs51_isa.specs.declared.instr.Whole.TheVariants.{ClearAcc, ComplementAcc}
use Rattle.mcs51_isa.specs.declared.operands.Reg.{Reg}
use Rattle.mcs51_isa.specs.declared.operands.Ind.{Ind}
use Rattle.mcs51_isa.specs.declared.operands.Ind.TheVariants.{At0, At1}
use Rattle.mcs51_isa.specs.Operands.{reg_of, page_of}
use Rattle.mcs51_isa.specs.Table.{encode_of}

-- what an opcode stands for, given the two bytes behind it
abbrev pub Form : Type 0
Form = ℕ → ℕ → Option Instr

abbrev pub reserved : Form
reserved x y = None

-- the opcodes that end in 0
abbrev pub column_0 : List Form
column_0 =
    (λ x y. Some Nop) ∷
    (λ x y. Some (BranchBit Jbc x y)) ∷
    (λ x y. Some (BranchBit Jb x y)) ∷
    (λ x y. Some (BranchBit Jnb x y)) ∷
    (λ x y. Some (BranchFlag Jc x)) ∷
    (λ x y. Some (BranchFlag Jnc x)) ∷
    (λ x y. Some (BranchFlag Jz x)) ∷
    (λ x y. Some (BranchFlag Jnz x)) ∷
    (λ x y. Some (Sjmp x)) ∷
    (λ x y. Some (MovDptr (256 * x + y))) ∷
    (λ x y. Some (CarryLogic OrlNotBit x)) ∷
    (λ x y. Some (CarryLogic AnlNotBit x)) ∷
    (λ x y. Some (Stack Push x)) ∷
    (λ x y. Some (Stack Pop x)) ∷
    (λ x y. Some (MovxDptr IntoAcc)) ∷
    (λ x y. Some (MovxDptr FromAcc)) ∷
    []

-- the opcodes that end in 2
abbrev pub column_2 : List Form
column_2 =
    (λ x y. Some (Long Ljmp (256 * x + y))) ∷
    (λ x y. Some (Long Lcall (256 * x + y))) ∷
    (λ x y. Some (Ret FromCall)) ∷
    (λ x y. Some (Ret FromInterrupt)) ∷
    (λ x y. Some (LogicDirectAcc Orl x)) ∷
    (λ x y. Some (LogicDirectAcc Anl x)) ∷
    (λ x y. Some (LogicDirectAcc Xrl x)) ∷
    (λ x y. Some (CarryLogic OrlBit x)) ∷
    (λ x y. Some (CarryLogic AnlBit x)) ∷
    (λ x y. Some (MovBitCarry x)) ∷
    (λ x y. Some (MovCarryBit x)) ∷
    (λ x y. Some (ChangeBit Cpl x)) ∷
    (λ x y. Some (ChangeBit Clr x)) ∷
    (λ x y. Some (ChangeBit Setb x)) ∷
    (λ x y. Some (MovxIndirect IntoAcc At0)) ∷
    (λ x y. Some (MovxIndirect FromAcc At0)) ∷
    []

-- the opcodes that end in 3
abbrev pub column_3 : List Form
column_3 =
    (λ x y. Some (RotateAcc Rr)) ∷
    (λ x y. Some (RotateAcc Rrc)) ∷
    (λ x y. Some (RotateAcc Rl)) ∷
    (λ x y. Some (RotateAcc Rlc)) ∷
    (λ x y. Some (LogicDirectImmediate Orl x y)) ∷
    (λ x y. Some (LogicDirectImmediate Anl x y)) ∷
    (λ x y. Some (LogicDirectImmediate Xrl x y)) ∷
    (λ x y. Some JmpIndirect) ∷
    (λ x y. Some (Movc Pc)) ∷
    (λ x y. Some (Movc Dptr)) ∷
    (λ x y. Some IncDptr) ∷
    (λ x y. Some (ChangeCarry Cpl)) ∷
    (λ x y. Some (ChangeCarry Clr)) ∷
    (λ x y. Some (ChangeCarry Setb)) ∷
    (λ x y. Some (MovxIndirect IntoAcc At1)) ∷
    (λ x y. Some (MovxIndirect FromAcc At1)) ∷
    []

-- the opcodes that end in 4
abbrev pub column_4 : List Form
column_4 =
    (λ x y. Some (StepAcc Inc)) ∷
    (λ x y. Some (StepAcc Dec)) ∷
    (λ x y. Some (ArithImmediate Add x)) ∷
    (λ x y. Some (ArithImmediate Addc x)) ∷
    (λ x y. Some (LogicImmediate Orl x)) ∷
    (λ x y. Some (LogicImmediate Anl x)) ∷
    (λ x y. Some (LogicImmediate Xrl x)) ∷
    (λ x y. Some (MovAccImmediate x)) ∷
    (λ x y. Some (Multiplier DivAb)) ∷
    (λ x y. Some (ArithImmediate Subb x)) ∷
    (λ x y. Some (Multiplier MulAb)) ∷
    (λ x y. Some (CjneImmediate x y)) ∷
    (λ x y. Some (Adjust Swap)) ∷
    (λ x y. Some (Adjust Da)) ∷
    (λ x y. Some (WholeAcc ClearAcc)) ∷
    (λ x y. Some (WholeAcc ComplementAcc)) ∷
    []

-- the opcodes that end in 5
abbrev pub column_5 : List Form
column_5 =
    (λ x y. Some (StepDirect Inc x)) ∷
    (λ x y. Some (StepDirect Dec x)) ∷
    (λ x y. Some (ArithDirect Add x)) ∷
    (λ x y. Some (ArithDirect Addc x)) ∷
    (λ x y. Some (LogicDirect Orl x)) ∷
    (λ x y. Some (LogicDirect Anl x)) ∷
    (λ x y. Some (LogicDirect Xrl x)) ∷
    (λ x y. Some (MovDirectImmediate x y)) ∷
    (λ x y. Some (MovDirectDirect x y)) ∷
    (λ x y. Some (ArithDirect Subb x)) ∷
    reserved ∷
    (λ x y. Some (CjneDirect x y)) ∷
    (λ x y. Some (XchDirect x)) ∷
    (λ x y. Some (DjnzDirect x y)) ∷
    (λ x y. Some (MovDirect IntoAcc x)) ∷
    (λ x y. Some (MovDirect FromAcc x)) ∷
    []

-- the opcodes that end in 6 and 7
abbrev pub column_indirect : Ind → List Form
column_indirect n =
    (λ x y. Some (StepIndirect Inc n)) ∷
    (λ x y. Some (StepIndirect Dec n)) ∷
    (λ x y. Some (ArithIndirect Add n)) ∷
    (λ x y. Some (ArithIndirect Addc n)) ∷
    (λ x y. Some (LogicIndirect Orl n)) ∷
    (λ x y. Some (LogicIndirect Anl n)) ∷
    (λ x y. Some (LogicIndirect Xrl n)) ∷
    (λ x y. Some (MovIndirectImmediate n x)) ∷
    (λ x y. Some (MovDirectIndirect x n)) ∷
    (λ x y. Some (ArithIndirect Subb n)) ∷
    (λ x y. Some (MovIndirectDirect n x)) ∷
    (λ x y. Some (CjneIndirect n x y)) ∷
    (λ x y. Some (XchIndirect n)) ∷
    (λ x y. Some (Xchd n)) ∷
    (λ x y. Some (MovIndirect IntoAcc n)) ∷
    (λ x y. Some (MovIndirect FromAcc n)) ∷
    []

-- the opcodes that end in 8 to F
abbrev pub column_register : Reg → List Form
column_register n =
    (λ x y. Some (StepRegister Inc n)) ∷
    (λ x y. Some (StepRegister Dec n)) ∷
    (λ x y. Some (ArithRegister Add n)) ∷
    (λ x y. Some (ArithRegister Addc n)) ∷
    (λ x y. Some (LogicRegister Orl n)) ∷
    (λ x y. Some (LogicRegister Anl n)) ∷
    (λ x y. Some (LogicRegister Xrl n)) ∷
    (λ x y. Some (MovRegisterImmediate n x)) ∷
    (λ x y. Some (MovDirectRegister x n)) ∷
    (λ x y. Some (ArithRegister Subb n)) ∷
    (λ x y. Some (MovRegisterDirect n x)) ∷
    (λ x y. Some (CjneRegister n x y)) ∷
    (λ x y. Some (XchRegister n)) ∷
    (λ x y. Some (DjnzRegister n x)) ∷
    (λ x y. Some (MovRegister IntoAcc n)) ∷
    (λ x y. Some (MovRegister FromAcc n)) ∷
    []

-- the opcodes that end in 1: AJMP in the even rows, ACALL in the odd ones, both with bits 10 to 8 of
-- their target above the row's lowest bit
abbrev pub column_page : ℕ → Form
column_page row x y =
    if nat_eq (row % 2) 0
    then Some (Ajmp (record { page = page_of (row / 2); low = x }))
    else Some (Acall (record { page = page_of (row / 2); low = x }))

abbrev pub first_columns : ℕ → List Form
first_columns row =
    slice_index_or column_0 row reserved ∷ column_page row ∷ slice_index_or column_2 row reserved ∷
    slice_index_or column_3 row reserved ∷ slice_index_or column_4 row reserved ∷ slice_index_or column_5 row reserved ∷
    slice_index_or (column_indirect At0) row reserved ∷ slice_index_or (column_indirect At1) row reserved ∷ []

abbrev pub form_at : ℕ → ℕ → Form
form_at column row =
    if nat_le 8 column
    then slice_index_or (column_register (reg_of (column - 8))) row reserved
    else slice_index_or (first_columns row) column reserved

-- the instruction that begins with these three bytes
unfoldable pub decode_of : ℕ → ℕ → ℕ → Option Instr
decode_of opcode x y = form_at (opcode % 16) (opcode / 16) x y

abbrev pub with_length : Option Instr → Option (Instr × ℕ)
with_length None = None
with_length (Some i) = Some (i, length (encode_of i))

-- the instruction at the front of a list of bytes, and its length
abbrev pub decoded : List ℕ → Option (Instr × ℕ)
decoded bytes = with_length (decode_of (slice_index_or bytes 0 0) (slice_index_or bytes 1 0) (slice_index_or bytes 2 0))
