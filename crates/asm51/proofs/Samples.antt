-- Small assembly programs, by which the definitions are tried.
use Rattle.std.specs.Prelude.{ℕ, List, [], ◌∷◌, ◌++◌, replicate}
use Rattle.mcs51_isa.specs.declared.operands.Reg.TheVariants.{R2}
use Rattle.mcs51_isa.specs.declared.instr.Instr.TheVariants.{Nop, Ret, Sjmp, ArithImmediate, MovAccImmediate, MovDirectImmediate, MovDptr, MovxDptr, MovDirect, MovRegister}
use Rattle.mcs51_isa.specs.declared.instr.ReturnKind.TheVariants.{FromCall}
use Rattle.mcs51_isa.specs.declared.instr.SumOp.TheVariants.{Add}
use Rattle.mcs51_isa.specs.declared.instr.Move.TheVariants.{IntoAcc, FromAcc}
use Rattle.asm51.specs.declared.items.AsmItem.{AsmItem}
use Rattle.asm51.specs.declared.items.AsmItem.TheVariants.{Plain, Mark, Enter, Here, Jump, Test, Call}

-- a label with its NOP
abbrev pub labelled : ℕ → List AsmItem
labelled l = Mark (record { 0 = l }) ∷ Plain Nop ∷ []

-- the start of a program without initialised variables: MOV SP,#7FH; a call of function 0; SJMP to itself
abbrev pub start : List AsmItem
start = Plain (MovDirectImmediate 0x81 0x7F) ∷ Call 0 ∷ Plain (Sjmp 0xFE) ∷ []

abbrev pub return : AsmItem
return = Plain (Ret FromCall)

-- a byte that the start writes to external RAM
abbrev pub initialise : ℕ → ℕ → List AsmItem
initialise address byte = Plain (MovDptr address) ∷ Plain (MovAccImmediate byte) ∷ Plain (MovxDptr FromAcc) ∷ []

-- void main(void){}
abbrev pub nothing : List AsmItem
nothing = start ++ Enter 0 ∷ labelled 0 ++ return ∷ []

-- void main(void){P1=5;}, with the number moved to the port at once
abbrev pub one_write : List AsmItem
one_write = start ++ Enter 0 ∷ labelled 0 ++ Plain (MovDirectImmediate 0x90 5) ∷ return ∷ []

-- Function 0 reads a number from port 1 into R2, and then calls function 1 as often as the number says, and counts R2 down after each
-- call. Function 1 writes R2 to the port.
abbrev pub countdown : List AsmItem
countdown =
    start
    ++ Enter 0 ∷ labelled 0 ++ Plain (MovDirect IntoAcc 0x90) ∷ Plain (MovRegister FromAcc R2)
    ∷ Here 0 1 ∷ labelled 1 ++ Call 1
    ∷ labelled 2 ++ Plain (MovRegister IntoAcc R2) ∷ Plain (ArithImmediate Add 0xFF) ∷ Plain (MovRegister FromAcc R2) ∷ Test 0 1
    ∷ labelled 3 ++ return
    ∷ Enter 1 ∷ labelled 4 ++ Plain (MovRegister IntoAcc R2) ∷ Plain (MovDirect FromAcc 0x90) ∷ return ∷ []

-- instructions of three bytes, by which jumps become far
abbrev pub filling : ℕ → List AsmItem
filling n = replicate n (Plain (MovDptr 0))

-- a jump over 150 bytes
abbrev pub over_150 : List AsmItem
over_150 = Jump 0 1 ∷ filling 50 ++ Here 0 1 ∷ labelled 0

-- A test and a jump over 2,040 bytes, after as many bytes. The next instruction of the jump stands at 2,044 before anything grows, and
-- its target in another page. Once the test has grown both stand in one page.
abbrev pub at_a_page : List AsmItem
at_a_page = filling 680 ++ Test 0 1 ∷ Jump 0 1 ∷ filling 680 ++ Here 0 1 ∷ labelled 0
