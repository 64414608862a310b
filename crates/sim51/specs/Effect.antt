-- What each instruction does to the registers and memories, where it goes on, and which port it reads and writes (Intel, MCS-51
-- family: instruction set). A direct or bit access that reads a port reads its pins; the instructions that read a byte, change it and
-- write it back read its latch.
use Rattle.std.specs.Prelude.{ℕ, ◌+◌, ◌*◌, ◌/◌, ◌%◌, ◌-◌, List, Option, None, Bool, true, false, if◌then◌else◌, not, ◌&&◌, ◌||◌, nat_eq, nat_lt, nat_le, slice_index, slice_set, bit_and, bit_or, bit_xor}
use Rattle.cerco_base.specs.declared.events.Port.{Port}
use Rattle.cerco_base.specs.Bytes.{bit_value, sum_byte, carries, difference_byte, borrows}
use Rattle.mcs51_isa.specs.declared.instr.Instr.{Instr}
use Rattle.mcs51_isa.specs.declared.instr.Instr.TheVariants.{Nop, Ajmp, Acall, Long, Ret, RotateAcc, StepAcc, StepDirect, StepIndirect, StepRegister, BranchBit, BranchFlag, Sjmp, ArithImmediate, ArithDirect, ArithIndirect, ArithRegister, LogicDirectAcc, LogicDirectImmediate, LogicImmediate, LogicDirect, LogicIndirect, LogicRegister, CarryLogic, JmpIndirect, MovAccImmediate, MovDirectImmediate, MovIndirectImmediate, MovRegisterImmediate, Movc, Multiplier, MovDirectDirect, MovDirectIndirect, MovDirectRegister, MovDptr, MovBitCarry, MovCarryBit, IncDptr, MovIndirectDirect, MovRegisterDirect, ChangeBit, ChangeCarry, CjneImmediate, CjneDirect, CjneIndirect, CjneRegister, Stack, Adjust, XchDirect, XchIndirect, XchRegister, Xchd, DjnzDirect, DjnzRegister, MovxDptr, MovxIndirect, WholeAcc, MovDirect, MovIndirect, MovRegister}
use Rattle.mcs51_isa.specs.declared.instr.LongJump.TheVariants.{Ljmp, Lcall}
use Rattle.mcs51_isa.specs.declared.instr.Rotate.{Rotate}
use Rattle.mcs51_isa.specs.declared.instr.Rotate.TheVariants.{Rr, Rrc, Rl, Rlc}
use Rattle.mcs51_isa.specs.declared.instr.ByOne.{ByOne}
use Rattle.mcs51_isa.specs.declared.instr.ByOne.TheVariants.{Inc, Dec}
use Rattle.mcs51_isa.specs.declared.instr.BitTest.{BitTest}
use Rattle.mcs51_isa.specs.declared.instr.BitTest.TheVariants.{Jbc, Jb, Jnb}
use Rattle.mcs51_isa.specs.declared.instr.FlagTest.{FlagTest}
use Rattle.mcs51_isa.specs.declared.instr.FlagTest.TheVariants.{Jc, Jnc, Jz, Jnz}
use Rattle.mcs51_isa.specs.declared.instr.SumOp.{SumOp}
use Rattle.mcs51_isa.specs.declared.instr.SumOp.TheVariants.{Add, Addc, Subb}
use Rattle.mcs51_isa.specs.declared.instr.Logic.{Logic}
use Rattle.mcs51_isa.specs.declared.instr.Logic.TheVariants.{Orl, Anl, Xrl}
use Rattle.mcs51_isa.specs.declared.instr.CarryOp.{CarryOp}
use Rattle.mcs51_isa.specs.declared.instr.CarryOp.TheVariants.{OrlBit, AnlBit, OrlNotBit, AnlNotBit}
use Rattle.mcs51_isa.specs.declared.instr.TableBase.{TableBase}
use Rattle.mcs51_isa.specs.declared.instr.TableBase.TheVariants.{Pc, Dptr}
use Rattle.mcs51_isa.specs.declared.instr.MulDiv.{MulDiv}
use Rattle.mcs51_isa.specs.declared.instr.MulDiv.TheVariants.{DivAb, MulAb}
use Rattle.mcs51_isa.specs.declared.instr.BitChange.{BitChange}
use Rattle.mcs51_isa.specs.declared.instr.BitChange.TheVariants.{Cpl, Clr, Setb}
use Rattle.mcs51_isa.specs.declared.instr.StackOp.TheVariants.{Push, Pop}
use Rattle.mcs51_isa.specs.declared.instr.Adjustment.{Adjustment}
use Rattle.mcs51_isa.specs.declared.instr.Adjustment.TheVariants.{Swap, Da}
use Rattle.mcs51_isa.specs.declared.instr.Move.TheVariants.{IntoAcc, FromAcc}
use Rattle.mcs51_isa.specs.declared.instr.Whole.{Whole}
use Rattle.mcs51_isa.specs.declared.instr.Whole.TheVariants.{ClearAcc, ComplementAcc}
use Rattle.mcs51_isa.specs.declared.operands.Ind.{Ind}
use Rattle.mcs51_isa.specs.Operands.{page_target, relative_target}
use Rattle.sim51.specs.declared.location.Location.{Location}
use Rattle.sim51.specs.State.{Core}
use Rattle.sim51.specs.Locations.{bit_of, with_bit, location_of, byte_of_bit, held, read_value, after_read, read_event, written, write_event, register, with_register, indirect, with_indirect, external_pointer, dptr, with_dptr, raised, with_top, top, popped, called_from}

-- what is held after an instruction, the address that it goes on at, and the byte of a port that it reads and writes
pub record Effect : Type 0 where
  pub core : Core
  pub pc : ℕ
  pub read : Option (Port × ℕ)
  pub write : Option (Port × ℕ)

-- no port is read or written
abbrev pub goes_to : ℕ → Core → Effect
goes_to pc c = record { core = c; pc = pc; read = None; write = None }

-- the instruction read this location, when the machine held `before`
abbrev pub reads : Core → Location → ℕ → Core → Effect
reads before l pc c = record { core = c; pc = pc; read = read_event before l; write = None }

-- a byte is written to this location
abbrev pub writes : Location → ℕ → ℕ → Core → Effect
writes l byte pc c = record { core = written c l byte; pc = pc; read = None; write = write_event l byte }

abbrev pub differ : Bool → Bool → Bool
differ true q = not q
differ false q = q

-- a sum in the accumulator: CY is the carry out of bit 7, AC the one out of bit 3, and OV says whether those out of bits 7 and 6 differ
abbrev pub added : Core → ℕ → Bool → Core
added c byte carry =
    record c {
      acc = sum_byte c.acc byte carry;
      cy = carries 256 c.acc byte carry;
      ac = carries 16 c.acc byte carry;
      ov = differ (carries 256 c.acc byte carry) (carries 128 c.acc byte carry);
    }

-- a difference in the accumulator, less CY: the flags tell of borrows in the same way
abbrev pub subtracted : Core → ℕ → Core
subtracted c byte =
    record c {
      acc = difference_byte c.acc byte c.cy;
      cy = borrows 256 c.acc byte c.cy;
      ac = borrows 16 c.acc byte c.cy;
      ov = differ (borrows 256 c.acc byte c.cy) (borrows 128 c.acc byte c.cy);
    }

abbrev pub arithmetic : SumOp → Core → ℕ → Core
arithmetic Add c byte = added c byte false
arithmetic Addc c byte = added c byte c.cy
arithmetic Subb c byte = subtracted c byte

abbrev pub logical : Logic → ℕ → ℕ → ℕ
logical Orl a b = bit_or a b
logical Anl a b = bit_and a b
logical Xrl a b = bit_xor a b

abbrev pub carry_logical : CarryOp → Bool → Bool → Bool
carry_logical OrlBit carry bit = carry || bit
carry_logical AnlBit carry bit = carry && bit
carry_logical OrlNotBit carry bit = carry || not bit
carry_logical AnlNotBit carry bit = carry && not bit

abbrev pub stepped : ByOne → ℕ → ℕ
stepped Inc byte = (byte + 1) % 256
stepped Dec byte = (byte + 255) % 256

abbrev pub changed : BitChange → Bool → Bool
changed Cpl bit = not bit
changed Clr bit = false
changed Setb bit = true

-- a rotation of the accumulator by one bit; RRC and RLC take the carry as a ninth bit
abbrev pub rotated : Rotate → Core → Core
rotated Rr c = record c { acc = c.acc / 2 + 128 * (c.acc % 2) }
rotated Rrc c = record c { acc = c.acc / 2 + 128 * bit_value c.cy; cy = bit_of c.acc 0 }
rotated Rl c = record c { acc = c.acc * 2 % 256 + c.acc / 128 }
rotated Rlc c = record c { acc = c.acc * 2 % 256 + bit_value c.cy; cy = bit_of c.acc 7 }

-- the accumulator becomes the low byte of the product, or the quotient; B its high byte, or the remainder. A division by 0 leaves
-- both and sets OV
abbrev pub multiplied : MulDiv → Core → Core
multiplied MulAb c = record c { acc = c.acc * c.b % 256; b = c.acc * c.b / 256; cy = false; ov = nat_lt 255 (c.acc * c.b) }
multiplied DivAb c =
    if nat_eq c.b 0 then record c { cy = false; ov = true } else record c { acc = c.acc / c.b; b = c.acc % c.b; cy = false; ov = false }

-- decimal adjustment after a sum: first 6 is added where the low digit is above 9 or AC is 1, then 60H where the high digit is above 9
-- or CY is 1. A carry out sets CY, which is never cleared
abbrev pub low_adjusted : Core → Core
low_adjusted c = if nat_lt 9 (c.acc % 16) || c.ac then record c { acc = (c.acc + 6) % 256; cy = c.cy || nat_le 256 (c.acc + 6) } else c

abbrev pub high_adjusted : Core → Core
high_adjusted c = if nat_lt 9 (c.acc / 16) || c.cy then record c { acc = (c.acc + 0x60) % 256; cy = c.cy || nat_le 256 (c.acc + 0x60) } else c

abbrev pub adjusted : Adjustment → Core → Core
adjusted Swap c = record c { acc = c.acc % 16 * 16 + c.acc / 16 }
adjusted Da c = high_adjusted (low_adjusted c)

abbrev pub whole_byte : Whole → ℕ → ℕ
whole_byte ClearAcc byte = 0
whole_byte ComplementAcc byte = 255 - byte

-- XCH with a direct address, and XCHD, which exchanges the low digits
abbrev pub exchanged : Core → Location → Core
exchanged c l = record (written (after_read c l) l c.acc) { acc = read_value c l }

abbrev pub digit_exchanged : Core → Ind → Core
digit_exchanged c i = record (with_indirect c i (indirect c i / 16 * 16 + c.acc % 16)) { acc = c.acc / 16 * 16 + indirect c i % 16 }

abbrev pub flag_holds : FlagTest → Core → Bool
flag_holds Jc c = c.cy
flag_holds Jnc c = not c.cy
flag_holds Jz c = nat_eq c.acc 0
flag_holds Jnz c = not (nat_eq c.acc 0)

-- JBC clears the bit where it is 1 and jumps then; it writes nothing else
abbrev pub clears_bit : Bool → ℕ → ℕ → ℕ → Core → Effect
clears_bit true bit target next c = let l = location_of (byte_of_bit bit) in writes l (with_bit (held c l) (bit % 8) false) target c
clears_bit false bit target next c = goes_to next c

abbrev pub branches_on_bit : BitTest → ℕ → ℕ → ℕ → Core → Effect
branches_on_bit Jbc bit target next c = clears_bit (bit_of (held c (location_of (byte_of_bit bit))) (bit % 8)) bit target next c
branches_on_bit Jb bit target next c =
    let l = location_of (byte_of_bit bit) in reads c l (if bit_of (read_value c l) (bit % 8) then target else next) (after_read c l)
branches_on_bit Jnb bit target next c =
    let l = location_of (byte_of_bit bit) in reads c l (if bit_of (read_value c l) (bit % 8) then next else target) (after_read c l)

-- CJNE: CY says whether the first byte is below the second; it jumps where they differ
abbrev pub compares : ℕ → ℕ → ℕ → ℕ → Core → Effect
compares a b target next c = goes_to (if nat_eq a b then next else target) (record c { cy = nat_lt a b })

-- the byte of the code at an address, modulo 65,536; it is 0 past the code's end
abbrev pub code_at : List ℕ → ℕ → ℕ
code_at code a = slice_index code (a % 65536)

-- what MOVC adds the accumulator to
abbrev pub table_base : TableBase → ℕ → Core → ℕ
table_base Pc next c = next
table_base Dptr next c = dptr c

-- The effect of an instruction, by the code that it stands in and the address of the next instruction. Only MOVC reads the code.
abbrev pub effect : List ℕ → Instr → ℕ → Core → Effect
effect code Nop next c = goes_to next c
effect code (Ajmp t) next c = goes_to (page_target next t) c
effect code (Acall t) next c = goes_to (page_target next t) (called_from c next)
effect code (Long Ljmp w) next c = goes_to w c
effect code (Long Lcall w) next c = goes_to w (called_from c next)
effect code (Ret op) next c = goes_to (256 * top c + top (popped c)) (popped (popped c))
effect code (RotateAcc op) next c = goes_to next (rotated op c)
effect code (StepAcc op) next c = goes_to next (record c { acc = stepped op c.acc })
effect code (StepDirect op d) next c = let l = location_of d in writes l (stepped op (held c l)) next c
effect code (StepIndirect op i) next c = goes_to next (with_indirect c i (stepped op (indirect c i)))
effect code (StepRegister op r) next c = goes_to next (with_register c r (stepped op (register c r)))
effect code (BranchBit op bit o) next c = branches_on_bit op bit (relative_target next o) next c
effect code (BranchFlag op o) next c = goes_to (if flag_holds op c then relative_target next o else next) c
effect code (Sjmp o) next c = goes_to (relative_target next o) c
effect code (ArithImmediate op k) next c = goes_to next (arithmetic op c k)
effect code (ArithDirect op d) next c = let l = location_of d in reads c l next (arithmetic op (after_read c l) (read_value c l))
effect code (ArithIndirect op i) next c = goes_to next (arithmetic op c (indirect c i))
effect code (ArithRegister op r) next c = goes_to next (arithmetic op c (register c r))
effect code (LogicDirectAcc op d) next c = let l = location_of d in writes l (logical op (held c l) c.acc) next c
effect code (LogicDirectImmediate op d k) next c = let l = location_of d in writes l (logical op (held c l) k) next c
effect code (LogicImmediate op k) next c = goes_to next (record c { acc = logical op c.acc k })
effect code (LogicDirect op d) next c =
    let l = location_of d in reads c l next (record (after_read c l) { acc = logical op c.acc (read_value c l) })
effect code (LogicIndirect op i) next c = goes_to next (record c { acc = logical op c.acc (indirect c i) })
effect code (LogicRegister op r) next c = goes_to next (record c { acc = logical op c.acc (register c r) })
effect code (CarryLogic op bit) next c =
    let l = location_of (byte_of_bit bit) in reads c l next (record (after_read c l) { cy = carry_logical op c.cy (bit_of (read_value c l) (bit % 8)) })
effect code JmpIndirect next c = goes_to ((c.acc + dptr c) % 65536) c
effect code (MovAccImmediate k) next c = goes_to next (record c { acc = k })
effect code (MovDirectImmediate d k) next c = writes (location_of d) k next c
effect code (MovIndirectImmediate i k) next c = goes_to next (with_indirect c i k)
effect code (MovRegisterImmediate r k) next c = goes_to next (with_register c r k)
effect code (Movc base) next c = goes_to next (record c { acc = code_at code (c.acc + table_base base next c) })
effect code (Multiplier op) next c = goes_to next (multiplied op c)
effect code (MovDirectDirect s t) next c =
    let l = location_of s in record (writes (location_of t) (read_value c l) next (after_read c l)) { read = read_event c l }
effect code (MovDirectIndirect d i) next c = writes (location_of d) (indirect c i) next c
effect code (MovDirectRegister d r) next c = writes (location_of d) (register c r) next c
effect code (MovDptr w) next c = goes_to next (with_dptr c w)
effect code (MovBitCarry bit) next c = let l = location_of (byte_of_bit bit) in writes l (with_bit (held c l) (bit % 8) c.cy) next c
effect code (MovCarryBit bit) next c =
    let l = location_of (byte_of_bit bit) in reads c l next (record (after_read c l) { cy = bit_of (read_value c l) (bit % 8) })
effect code IncDptr next c = goes_to next (with_dptr c ((dptr c + 1) % 65536))
effect code (MovIndirectDirect i d) next c = let l = location_of d in reads c l next (with_indirect (after_read c l) i (read_value c l))
effect code (MovRegisterDirect r d) next c = let l = location_of d in reads c l next (with_register (after_read c l) r (read_value c l))
effect code (ChangeBit op bit) next c =
    let l = location_of (byte_of_bit bit) in writes l (with_bit (held c l) (bit % 8) (changed op (bit_of (held c l) (bit % 8)))) next c
effect code (ChangeCarry op) next c = goes_to next (record c { cy = changed op c.cy })
effect code (CjneImmediate k o) next c = compares c.acc k (relative_target next o) next c
effect code (CjneDirect d o) next c =
    let l = location_of d in record (compares c.acc (read_value c l) (relative_target next o) next (after_read c l)) { read = read_event c l }
effect code (CjneIndirect i k o) next c = compares (indirect c i) k (relative_target next o) next c
effect code (CjneRegister r k o) next c = compares (register c r) k (relative_target next o) next c
effect code (Stack Push d) next c =
    let l = location_of d in reads (raised c) l next (with_top (after_read (raised c) l) (read_value (raised c) l))
effect code (Stack Pop d) next c = writes (location_of d) (top c) next (popped c)
effect code (Adjust op) next c = goes_to next (adjusted op c)
effect code (XchDirect d) next c =
    let l = location_of d in record { core = exchanged c l; pc = next; read = read_event c l; write = write_event l c.acc }
effect code (XchIndirect i) next c = goes_to next (record (with_indirect c i c.acc) { acc = indirect c i })
effect code (XchRegister r) next c = goes_to next (record (with_register c r c.acc) { acc = register c r })
effect code (Xchd i) next c = goes_to next (digit_exchanged c i)
effect code (DjnzDirect d o) next c =
    let l = location_of d in
    let byte = stepped Dec (held c l) in
    writes l byte (if nat_eq byte 0 then next else relative_target next o) c
effect code (DjnzRegister r o) next c =
    let byte = stepped Dec (register c r) in goes_to (if nat_eq byte 0 then next else relative_target next o) (with_register c r byte)
effect code (MovxDptr IntoAcc) next c = goes_to next (record c { acc = slice_index c.xram (dptr c) })
effect code (MovxDptr FromAcc) next c = goes_to next (record c { xram = slice_set c.xram (dptr c) c.acc })
effect code (MovxIndirect IntoAcc i) next c = goes_to next (record c { acc = slice_index c.xram (external_pointer c i) })
effect code (MovxIndirect FromAcc i) next c = goes_to next (record c { xram = slice_set c.xram (external_pointer c i) c.acc })
effect code (WholeAcc op) next c = goes_to next (record c { acc = whole_byte op c.acc })
effect code (MovDirect IntoAcc d) next c = let l = location_of d in reads c l next (record (after_read c l) { acc = read_value c l })
effect code (MovDirect FromAcc d) next c = writes (location_of d) c.acc next c
effect code (MovIndirect IntoAcc i) next c = goes_to next (record c { acc = indirect c i })
effect code (MovIndirect FromAcc i) next c = goes_to next (with_indirect c i c.acc)
effect code (MovRegister IntoAcc r) next c = goes_to next (record c { acc = register c r })
effect code (MovRegister FromAcc r) next c = goes_to next (with_register c r c.acc)
