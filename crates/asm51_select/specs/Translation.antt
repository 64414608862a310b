-- The table of selection: what becomes of each item of linear code, and of the program's start (Intel, MCS-51 family: instruction set;
-- the choice of instructions is this project's own). A place of the processor is reached as a register of bank 0, or by its address in
-- internal RAM. B, DPL, DPH and port 1 have the direct addresses F0H, 82H, 83H and 90H.
use Rattle.std.specs.Prelude.{ℕ, suc, ◌%◌, List, [], ◌∷◌, ◌++◌, map, Bool, true, false, nat_eq, if◌then◌else◌, ◌&&◌}
use Rattle.mcs51_isa.specs.declared.instr.Instr.{Instr}
use Rattle.mcs51_isa.specs.declared.instr.Instr.TheVariants as Instruction
use Rattle.mcs51_isa.specs.declared.instr.SumOp.{SumOp}
use Rattle.mcs51_isa.specs.declared.instr.SumOp.TheVariants as Sum
use Rattle.mcs51_isa.specs.declared.instr.Logic.{Logic}
use Rattle.mcs51_isa.specs.declared.instr.Logic.TheVariants.{Anl, Orl, Xrl}
use Rattle.mcs51_isa.specs.declared.instr.Move.TheVariants.{IntoAcc, FromAcc}
use Rattle.mcs51_isa.specs.declared.instr.MulDiv.TheVariants.{MulAb, DivAb}
use Rattle.mcs51_isa.specs.declared.instr.Rotate.TheVariants as Turn
use Rattle.mcs51_isa.specs.declared.instr.BitChange.TheVariants.{Clr, Setb, Cpl}
use Rattle.mcs51_isa.specs.declared.instr.Whole.TheVariants.{ClearAcc}
use Rattle.mcs51_isa.specs.declared.instr.ReturnKind.TheVariants.{FromCall}
use Rattle.mcs51_isa.specs.Operands.{reg_of}
use Rattle.rtl.specs.declared.locations.Place.{Place}
use Rattle.rtl.specs.declared.locations.Place.TheVariants.{Reg}
use Rattle.rtl.specs.declared.operations.Src.{Src}
use Rattle.rtl.specs.declared.operations.Src.TheVariants.{At, Byte}
use Rattle.rtl.specs.declared.operations.Arith.{Arith}
use Rattle.rtl.specs.declared.operations.Arith.TheVariants.{Add, Addc, Subb, And, Or, Xor}
use Rattle.rtl.specs.Operations.{ByteOp}
use Rattle.rtl.specs.Operations.{Const, Move, Op, Mul, Div, Rem, Rlc, Rrc, Top, ClearCarry, SetCarry, FlipCarry, FromCarry, Load, Store, ReadPort, WritePort}
use Rattle.rtl.specs.Items.{LinItem, LinProgram}
use Rattle.rtl.specs.Items as Lin
use Rattle.rtl.specs.Locations.{place_number, place_address}
use Rattle.rtl.specs.WellFormed.{gathered}
use Rattle.asm51.specs.declared.items.AsmItem.{AsmItem}
use Rattle.asm51.specs.declared.items.AsmItem.TheVariants.{Plain, Mark, Enter, Here, Jump, Test, Call}

-- ---- how places are reached

-- the direct address of a place, as a byte
abbrev pub direct_address : Place → ℕ
direct_address p = place_address p % 256

abbrev pub is_reg : Place → Bool
is_reg (Reg n) = true
is_reg _ = false

-- MOV A,Rn, MOV A,dir or MOV A,#d
abbrev pub take_code : Src Place → Instr
take_code (At (Reg n)) = Instruction.MovRegister IntoAcc (reg_of n)
take_code (At p) = Instruction.MovDirect IntoAcc (direct_address p)
take_code (Byte n) = Instruction.MovAccImmediate n

-- MOV Rn,A or MOV dir,A
abbrev pub give_code : Place → Instr
give_code (Reg n) = Instruction.MovRegister FromAcc (reg_of n)
give_code p = Instruction.MovDirect FromAcc (direct_address p)

-- MOV x,Rn, MOV x,dir or MOV x,#d
abbrev pub special_code : ℕ → Src Place → Instr
special_code x (At (Reg n)) = Instruction.MovDirectRegister x (reg_of n)
special_code x (At p) = Instruction.MovDirectDirect (direct_address p) x
special_code x (Byte n) = Instruction.MovDirectImmediate x n

-- MOV Rn,B or MOV dir,B
abbrev pub give_b_code : Place → Instr
give_b_code (Reg n) = Instruction.MovRegisterDirect (reg_of n) 0xF0
give_b_code p = Instruction.MovDirectDirect 0xF0 (direct_address p)

abbrev pub sum_code : SumOp → Src Place → Instr
sum_code op (At (Reg n)) = Instruction.ArithRegister op (reg_of n)
sum_code op (At p) = Instruction.ArithDirect op (direct_address p)
sum_code op (Byte n) = Instruction.ArithImmediate op n

abbrev pub logic_code : Logic → Src Place → Instr
logic_code op (At (Reg n)) = Instruction.LogicRegister op (reg_of n)
logic_code op (At p) = Instruction.LogicDirect op (direct_address p)
logic_code op (Byte n) = Instruction.LogicImmediate op n

abbrev pub arith_code : Arith → Src Place → Instr
arith_code Add source = sum_code Sum.Add source
arith_code Addc source = sum_code Sum.Addc source
arith_code Subb source = sum_code Sum.Subb source
arith_code And source = logic_code Anl source
arith_code Or source = logic_code Orl source
arith_code Xor source = logic_code Xrl source

abbrev pub constant_code : Place → ℕ → Instr
constant_code (Reg n) byte = Instruction.MovRegisterImmediate (reg_of n) byte
constant_code p byte = Instruction.MovDirectImmediate (direct_address p) byte

-- MOV Rn,dir, MOV dir,Rn or MOV dir,dir
abbrev pub copy_code : Place → Place → Instr
copy_code (Reg n) source = Instruction.MovRegisterDirect (reg_of n) (direct_address source)
copy_code target (Reg n) = Instruction.MovDirectRegister (direct_address target) (reg_of n)
copy_code target source = Instruction.MovDirectDirect (direct_address source) (direct_address target)

-- ---- operations

-- nothing where both places are one; A between two registers
abbrev pub move_code : Place → Place → List Instr
move_code target source =
    if nat_eq (place_number target) (place_number source) then [] else if is_reg target && is_reg source then take_code (At source) ∷ give_code target ∷ [] else copy_code target source ∷ []

abbrev pub pointer_code : Place → Place → List Instr
pointer_code low high = special_code 0x82 (At low) ∷ special_code 0x83 (At high) ∷ []

-- a byte is loaded from DPTR, which is raised first from the second byte on
abbrev pub load_code : Bool → Place → List Instr
load_code true d = Instruction.IncDptr ∷ Instruction.MovxDptr IntoAcc ∷ give_code d ∷ []
load_code false d = Instruction.MovxDptr IntoAcc ∷ give_code d ∷ []

abbrev pub loads_code : Bool → List Place → List Instr
loads_code raised [] = []
loads_code raised (d ∷ ds) = load_code raised d ++ loads_code true ds

abbrev pub store_code : Bool → Place → List Instr
store_code true s = Instruction.IncDptr ∷ take_code (At s) ∷ Instruction.MovxDptr FromAcc ∷ []
store_code false s = take_code (At s) ∷ Instruction.MovxDptr FromAcc ∷ []

abbrev pub stores_code : Bool → List Place → List Instr
stores_code raised [] = []
stores_code raised (s ∷ ss) = store_code raised s ++ stores_code true ss

abbrev pub division_code : Place → Place → Instr → List Instr
division_code a b last = special_code 0xF0 (At b) ∷ take_code (At a) ∷ Instruction.Multiplier DivAb ∷ last ∷ []

abbrev pub op_code : ByteOp Place → List Instr
op_code (Const d n) = constant_code d n ∷ []
op_code (Move d s) = move_code d s
op_code (Op o d a b) = take_code a ∷ arith_code o b ∷ give_code d ∷ []
op_code (Mul l h a b) = special_code 0xF0 b ∷ take_code a ∷ Instruction.Multiplier MulAb ∷ give_code l ∷ give_b_code h ∷ []
op_code (Div d a b) = division_code a b (give_code d)
op_code (Rem d a b) = division_code a b (give_b_code d)
op_code (Rlc d a) = take_code (At a) ∷ Instruction.RotateAcc Turn.Rlc ∷ give_code d ∷ []
op_code (Rrc d a) = take_code (At a) ∷ Instruction.RotateAcc Turn.Rrc ∷ give_code d ∷ []
op_code (Top a) = take_code (At a) ∷ Instruction.RotateAcc Turn.Rlc ∷ []
op_code ClearCarry = Instruction.ChangeCarry Clr ∷ []
op_code SetCarry = Instruction.ChangeCarry Setb ∷ []
op_code FlipCarry = Instruction.ChangeCarry Cpl ∷ []
op_code (FromCarry d) = Instruction.WholeAcc ClearAcc ∷ Instruction.RotateAcc Turn.Rlc ∷ give_code d ∷ []
op_code (Load ds l h) = pointer_code l h ++ loads_code false ds
op_code (Store l h ss) = pointer_code l h ++ stores_code false ss
op_code (ReadPort d) = Instruction.MovDirect IntoAcc 0x90 ∷ give_code d ∷ []
op_code (WritePort s) = take_code (At s) ∷ Instruction.MovDirect FromAcc 0x90 ∷ []

-- ---- items

abbrev pub plains : List Instr → List AsmItem
plains is = map Plain is

-- an item of function f
abbrev pub item_code : ℕ → LinItem → List AsmItem
item_code f (Lin.Here n) = Here f n ∷ []
item_code f (Lin.Op op) = plains (op_code op)
item_code f (Lin.Label l) = Mark l ∷ Plain Instruction.Nop ∷ []
item_code f (Lin.Jump n) = Jump f n ∷ []
item_code f (Lin.Test p n) = Plain (take_code (At p)) ∷ Test f n ∷ []
item_code f (Lin.Call g) = Call g ∷ []
item_code f Lin.Return = Plain (Instruction.Ret FromCall) ∷ []

abbrev pub function_code : ℕ → List LinItem → List AsmItem
function_code f items = Enter f ∷ gathered (item_code f) items

-- the functions from number f on
abbrev pub functions_code : ℕ → List (List LinItem) → List AsmItem
functions_code f [] = []
functions_code f (items ∷ lins) = function_code f items ++ functions_code (suc f) lins

-- ---- the start

-- MOV DPTR,#a, MOV A,#d and MOVX @DPTR,A
abbrev pub byte_code : ℕ × ℕ → List Instr
byte_code byte = Instruction.MovDptr byte.0 ∷ Instruction.MovAccImmediate byte.1 ∷ Instruction.MovxDptr FromAcc ∷ []

-- MOV SP,#7FH, the initialised bytes, a call of main, and a jump to itself
abbrev pub start_code : List (ℕ × ℕ) → ℕ → List AsmItem
start_code bytes main = Plain (Instruction.MovDirectImmediate 0x81 0x7F) ∷ (plains (gathered byte_code bytes) ++ Call main ∷ Plain (Instruction.Sjmp 0xFE) ∷ [])

-- The assembly program of a program of linear code.
unfoldable pub selected : LinProgram → List AsmItem
selected program = start_code program.start program.main ++ functions_code 0 program.lins
