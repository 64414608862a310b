-- A machine is in a valid state at reset, and each step keeps it valid.
use Rattle.std.proofs.Common.{◌≡◌, ℕ, zero, suc, ◌+◌, ◌*◌, ◌/◌, ◌%◌, ◌-◌, ◌^◌, ◌<◌, List, [], ◌∷◌, Some, Bool, true, false, cond, nat_eq, nat_lt, slice_index, slice_set, length, take, refl, sym, subst, ◌∙◌, arith, inl, inr, length-set}
use Rattle.std.specs.Prelude.{◌||◌, replicate, All}
use Rattle.std.specs.List.{AllByRecursion}
use Rattle.std.proofs.lemmas.List.{get_or_past, length-replicate}
use Rattle.std.proofs.lemmas.List.Elements.{All-set, All-get_or, All-replicate, All-drop}
use Rattle.std.proofs.lemmas.Bool.{cases_lt}
use Rattle.std.proofs.lemmas.Nat.{and_le_l, or_lt, xor_lt, mul-le}
use Rattle.std.proofs.Math.Nat.{div-le_self, mod-le, mod-lt}
use Rattle.std.proofs.Math.Pow.{pow-lt}
use Rattle.cerco_base.specs.Bytes.{bit_value}
use Rattle.cerco_base.specs.Events.{IsScript, next_reading}
use Rattle.cerco_base.proofs.ByteLaws.{bit_value_le, sum_byte_lt, difference_byte_lt}
use Rattle.mcs51_isa.specs.declared.instr.Instr.{Instr}
use Rattle.mcs51_isa.specs.declared.instr.Instr.TheVariants.{Nop, Ajmp, Acall, Long, Ret, RotateAcc, StepAcc, StepDirect, StepIndirect, StepRegister, BranchBit, BranchFlag, Sjmp, ArithImmediate, ArithDirect, ArithIndirect, ArithRegister, LogicDirectAcc, LogicDirectImmediate, LogicImmediate, LogicDirect, LogicIndirect, LogicRegister, CarryLogic, JmpIndirect, MovAccImmediate, MovDirectImmediate, MovIndirectImmediate, MovRegisterImmediate, Movc, Multiplier, MovDirectDirect, MovDirectIndirect, MovDirectRegister, MovDptr, MovBitCarry, MovCarryBit, IncDptr, MovIndirectDirect, MovRegisterDirect, ChangeBit, CjneImmediate, CjneDirect, CjneIndirect, CjneRegister, Stack, Adjust, XchDirect, XchIndirect, XchRegister, Xchd, DjnzDirect, DjnzRegister, MovxDptr, MovxIndirect, WholeAcc, MovDirect, MovIndirect, MovRegister}
use Rattle.mcs51_isa.specs.declared.instr.LongJump.TheVariants.{Ljmp, Lcall}
use Rattle.mcs51_isa.specs.declared.instr.Rotate.TheVariants.{Rr, Rrc, Rl, Rlc}
use Rattle.mcs51_isa.specs.declared.instr.ByOne.{ByOne}
use Rattle.mcs51_isa.specs.declared.instr.ByOne.TheVariants.{Inc, Dec}
use Rattle.mcs51_isa.specs.declared.instr.BitTest.TheVariants.{Jbc, Jb, Jnb}
use Rattle.mcs51_isa.specs.declared.instr.SumOp.{SumOp}
use Rattle.mcs51_isa.specs.declared.instr.SumOp.TheVariants.{Add, Addc, Subb}
use Rattle.mcs51_isa.specs.declared.instr.Logic.{Logic}
use Rattle.mcs51_isa.specs.declared.instr.Logic.TheVariants.{Orl, Anl, Xrl}
use Rattle.mcs51_isa.specs.declared.instr.MulDiv.TheVariants.{DivAb, MulAb}
use Rattle.mcs51_isa.specs.declared.instr.StackOp.TheVariants.{Push, Pop}
use Rattle.mcs51_isa.specs.declared.instr.Adjustment.TheVariants.{Swap, Da}
use Rattle.mcs51_isa.specs.declared.instr.Move.TheVariants.{IntoAcc, FromAcc}
use Rattle.mcs51_isa.specs.declared.instr.Whole.TheVariants.{ClearAcc, ComplementAcc}
use Rattle.mcs51_isa.specs.declared.operands.Reg.{Reg}
use Rattle.mcs51_isa.specs.declared.operands.Ind.{Ind}
use Rattle.mcs51_isa.specs.declared.operands.Page.{Page}
use Rattle.mcs51_isa.specs.Operands.{page_number, relative_target}
use Rattle.mcs51_isa.specs.Table.{encode_of}
use Rattle.mcs51_isa.specs.Flow.{Flow, On, Branch, Back, Lost, flow_of, LeadsTo}
use Rattle.mcs51_isa.proofs.Cases.{each_page}
use Rattle.mcs51_isa.proofs.Inverse.{EncodesBack, encode_decode}
use Rattle.sim51.specs.declared.location.Location.{Location}
use Rattle.sim51.specs.declared.location.Location.TheVariants.{Ram, Latch, Acc, B, Psw, Sp, Dpl, Dph, Other}
use Rattle.sim51.specs.declared.events.Events.{Events}
use Rattle.sim51.specs.State.{Core, State, reset}
use Rattle.sim51.specs.Locations.{bit_of, with_bit, psw, location_of, byte_of_bit, held, read_value, after_read, written, register, with_register, indirect, with_indirect, dptr, top, popped, called_from, raised, with_top}
use Rattle.sim51.specs.Effect.{effect, code_at, arithmetic, logical, stepped, changed, low_adjusted, high_adjusted, clears_bit, table_base}
use Rattle.sim51.specs.Step.{Goes, instr_at, next_address, step}
use Rattle.sim51.specs.Valid.{IsByte, IsMemory, IsValid, IsValidState, IsEncodable}
use Rattle.sim51.proofs.Leads.{leads, step_state, step_instr}

-- bytes of memories
byte_at : (bytes : List ℕ) (k : ℕ) → All IsByte bytes → slice_index bytes k < 256
byte_at bytes k all =
    elim (cases_lt k (length bytes)) [ inl within ↦ All-get_or IsByte bytes k 0 within all | inr past ↦ subst IsByte (sym (get_or_past bytes k 0 past)) (omega arith) ]

memory_set : (size : ℕ) (bytes : List ℕ) (k byte : ℕ) → IsMemory size bytes → byte < 256 → IsMemory size (slice_set bytes k byte)
memory_set size bytes k byte memory fits = (length-set bytes k byte ∙ memory.0, All-set IsByte bytes k byte fits memory.1)

memory_of : (size byte : ℕ) → byte < 256 → IsMemory size (replicate size byte)
memory_of size byte fits = (length-replicate size byte, All-replicate IsByte size byte fits)

next_reading_byte : (script : List ℕ) → IsScript script → next_reading script < 256
next_reading_byte [] all = omega arith
next_reading_byte (byte ∷ bytes) all = all 0 0 (omega arith)

-- bytes that instructions make
with_bit_byte : (byte k : ℕ) (bit : Bool) → byte < 256 → k < 8 → with_bit byte k bit < 256
with_bit_byte byte k true fits small = or_lt 8 byte (2 ^ k) fits (pow-lt small)
with_bit_byte byte k false fits small = let less = and_le_l byte (255 - 2 ^ k) in omega arith

logical_byte : (op : Logic) (a b : ℕ) → a < 256 → b < 256 → logical op a b < 256
logical_byte Orl a b first second = or_lt 8 a b first second
logical_byte Anl a b first second = let less = and_le_l a b in omega arith
logical_byte Xrl a b first second = xor_lt 8 a b first second

stepped_byte : (op : ByOne) (byte : ℕ) → stepped op byte < 256
stepped_byte Inc byte = omega arith
stepped_byte Dec byte = omega arith

psw_byte : (c : Core) → psw c < 256
psw_byte c =
    omega (arith, bit_value_le c.cy, bit_value_le c.ac, bit_value_le c.f0, bit_value_le c.rs1, bit_value_le c.rs0, bit_value_le c.ov, bit_value_le c.user)

-- a valid core with one part changed
valid_acc : (c : Core) (byte : ℕ) → IsValid c → byte < 256 → IsValid (record c { acc = byte })
valid_acc c byte v fits = ((fits, v.0.1, v.0.2, v.0.3, v.0.4), v.1, v.2, v.3, v.4, v.5)

valid_sp : (c : Core) (byte : ℕ) → IsValid c → byte < 256 → IsValid (record c { sp = byte })
valid_sp c byte v fits = ((v.0.0, v.0.1, fits, v.0.3, v.0.4), v.1, v.2, v.3, v.4, v.5)

valid_acc_b : (c : Core) (low_byte high_byte : ℕ) → IsValid c → low_byte < 256 → high_byte < 256 → IsValid (record c { acc = low_byte; b = high_byte })
valid_acc_b c low_byte high_byte v low_fits high_fits = ((low_fits, high_fits, v.0.2, v.0.3, v.0.4), v.1, v.2, v.3, v.4, v.5)

valid_dptr : (c : Core) (word : ℕ) → IsValid c → word < 65536 → IsValid (record c { dph = word / 256; dpl = word % 256 })
valid_dptr c word v fits = ((v.0.0, v.0.1, v.0.2, omega arith, omega arith), v.1, v.2, v.3, v.4, v.5)

valid_iram : (c : Core) (k byte : ℕ) → IsValid c → byte < 256 → IsValid (record c { iram = slice_set c.iram k byte })
valid_iram c k byte v fits = (v.0, memory_set 256 c.iram k byte v.1 fits, v.2, v.3, v.4, v.5)

valid_xram : (c : Core) (k byte : ℕ) → IsValid c → byte < 256 → IsValid (record c { xram = slice_set c.xram k byte })
valid_xram c k byte v fits = (v.0, v.1, v.2, v.3, memory_set 65536 c.xram k byte v.4 fits, v.5)

valid_written : (c : Core) (l : Location) (byte : ℕ) → IsValid c → byte < 256 → IsValid (written c l byte)
valid_written c (Ram a) byte v fits = valid_iram c a byte v fits
valid_written c (Latch port) byte v fits = (v.0, v.1, memory_set 4 c.ports _ byte v.2 fits, v.3, v.4, v.5)
valid_written c Acc byte v fits = valid_acc c byte v fits
valid_written c B byte v fits = ((v.0.0, fits, v.0.2, v.0.3, v.0.4), v.1, v.2, v.3, v.4, v.5)
valid_written c Psw byte v fits = v
valid_written c Sp byte v fits = valid_sp c byte v fits
valid_written c Dpl byte v fits = ((v.0.0, v.0.1, v.0.2, fits, v.0.4), v.1, v.2, v.3, v.4, v.5)
valid_written c Dph byte v fits = ((v.0.0, v.0.1, v.0.2, v.0.3, fits), v.1, v.2, v.3, v.4, v.5)
valid_written c (Other a) byte v fits = (v.0, v.1, v.2, memory_set 128 c.rest _ byte v.3 fits, v.4, v.5)

valid_after_read : (c : Core) (l : Location) → IsValid c → IsValid (after_read c l)
valid_after_read c (Ram a) v = v
valid_after_read c (Latch port) v = (v.0, v.1, v.2, v.3, v.4, All-drop (λ byte. byte < 2 ^ 8) 1 c.script v.5)
valid_after_read c Acc v = v
valid_after_read c B v = v
valid_after_read c Psw v = v
valid_after_read c Sp v = v
valid_after_read c Dpl v = v
valid_after_read c Dph v = v
valid_after_read c (Other a) v = v

-- what a valid core holds
held_byte : (c : Core) (l : Location) → IsValid c → held c l < 256
held_byte c (Ram a) v = byte_at c.iram a v.1.1
held_byte c (Latch port) v = byte_at c.ports _ v.2.1
held_byte c Acc v = v.0.0
held_byte c B v = v.0.1
held_byte c Psw v = psw_byte c
held_byte c Sp v = v.0.2
held_byte c Dpl v = v.0.3
held_byte c Dph v = v.0.4
held_byte c (Other a) v = byte_at c.rest _ v.3.1

read_value_byte : (c : Core) (l : Location) → IsValid c → read_value c l < 256
read_value_byte c (Ram a) v = byte_at c.iram a v.1.1
read_value_byte c (Latch port) v = next_reading_byte c.script v.5
read_value_byte c Acc v = v.0.0
read_value_byte c B v = v.0.1
read_value_byte c Psw v = psw_byte c
read_value_byte c Sp v = v.0.2
read_value_byte c Dpl v = v.0.3
read_value_byte c Dph v = v.0.4
read_value_byte c (Other a) v = byte_at c.rest _ v.3.1

register_byte : (c : Core) (r : Reg) → IsValid c → register c r < 256
register_byte c r v = byte_at c.iram _ v.1.1

indirect_byte : (c : Core) (i : Ind) → IsValid c → indirect c i < 256
indirect_byte c i v = byte_at c.iram _ v.1.1

-- the effects of operators
valid_arithmetic : (op : SumOp) (c : Core) (byte : ℕ) → IsValid c → IsValid (arithmetic op c byte)
valid_arithmetic Add c byte v = valid_acc c _ v (sum_byte_lt c.acc byte false)
valid_arithmetic Addc c byte v = valid_acc c _ v (sum_byte_lt c.acc byte c.cy)
valid_arithmetic Subb c byte v = valid_acc c _ v (difference_byte_lt c.acc byte c.cy)

valid_cond : (b : Bool) (c d : Core) → IsValid c → IsValid d → IsValid (cond b c d)
valid_cond true c d first second = first
valid_cond false c d first second = second

valid_low_adjusted : (c : Core) → IsValid c → IsValid (low_adjusted c)
valid_low_adjusted c v = valid_cond (nat_lt 9 (c.acc % 16) || c.ac) _ c (valid_acc c ((c.acc + 6) % 256) v (omega arith)) v

valid_high_adjusted : (c : Core) → IsValid c → IsValid (high_adjusted c)
valid_high_adjusted c v = valid_cond (nat_lt 9 (c.acc / 16) || c.cy) _ c (valid_acc c ((c.acc + 0x60) % 256) v (omega arith)) v

valid_raised : (c : Core) → IsValid c → IsValid (raised c)
valid_raised c v = valid_sp c ((c.sp + 1) % 256) v (omega arith)

valid_popped : (c : Core) → IsValid c → IsValid (popped c)
valid_popped c v = valid_sp c ((c.sp + 255) % 256) v (omega arith)

valid_called : (c : Core) (address : ℕ) → address < 65536 → IsValid c → IsValid (called_from c address)
valid_called c address fits v =
    let first : IsValid (with_top (raised c) (address % 256)) = valid_iram (raised c) _ (address % 256) (valid_raised c v) (omega arith) in
    valid_iram (raised (with_top (raised c) (address % 256))) _ (address / 256) (valid_raised (with_top (raised c) (address % 256)) first) (omega arith)

valid_changed_bit : (c : Core) (bit : ℕ) (value : Bool) → IsValid c → IsValid (written c (location_of (byte_of_bit bit)) (with_bit (held c (location_of (byte_of_bit bit))) (bit % 8) value))
valid_changed_bit c bit value v =
    valid_written c (location_of (byte_of_bit bit)) _ v
    (with_bit_byte (held c (location_of (byte_of_bit bit))) (bit % 8) value (held_byte c (location_of (byte_of_bit bit)) v) (omega arith))

valid_cleared : (b : Bool) (bit target next : ℕ) (c : Core) → IsValid c → IsValid (clears_bit b bit target next c).core
valid_cleared true bit target next c v = valid_changed_bit c bit false v
valid_cleared false bit target next c v = v

-- each instruction keeps a core valid
module _ (code : List ℕ) (bytes : All IsByte code) where
  pub valid-effect : (i : Instr) (next : ℕ) (c : Core) → IsEncodable i → next < 65536 → IsValid c → IsValid (effect code i next c).core
  valid-effect Nop next c e fits v = v
  valid-effect (Acall target) next c e fits v = valid_called c next fits v
  valid-effect (Long Ljmp target) next c e fits v = v
  valid-effect (Long Lcall target) next c e fits v = valid_called c next fits v
  valid-effect (Ret op) next c e fits v = valid_popped (popped c) (valid_popped c v)
  valid-effect (RotateAcc Rr) next c e fits v = let acc = v.0.0 in valid_acc c (c.acc / 2 + 128 * (c.acc % 2)) v (omega arith)
  valid-effect (RotateAcc Rrc) next c e fits v = let acc = v.0.0 in valid_acc c (c.acc / 2 + 128 * bit_value c.cy) v (omega (arith, bit_value_le c.cy))
  valid-effect (RotateAcc Rl) next c e fits v = let acc = v.0.0 in valid_acc c (c.acc * 2 % 256 + c.acc / 128) v (omega arith)
  valid-effect (RotateAcc Rlc) next c e fits v = let acc = v.0.0 in valid_acc c (c.acc * 2 % 256 + bit_value c.cy) v (omega (arith, bit_value_le c.cy))
  valid-effect (StepAcc op) next c e fits v = valid_acc c _ v (stepped_byte op c.acc)
  valid-effect (StepDirect op d) next c e fits v = valid_written c (location_of d) _ v (stepped_byte op (held c (location_of d)))
  valid-effect (StepIndirect op ind) next c e fits v = valid_iram c _ _ v (stepped_byte op (indirect c ind))
  valid-effect (StepRegister op r) next c e fits v = valid_iram c _ _ v (stepped_byte op (register c r))
  valid-effect (BranchBit Jbc bit offset) next c e fits v =
      valid_cleared (bit_of (held c (location_of (byte_of_bit bit))) (bit % 8)) bit (relative_target next offset) next c v
  valid-effect (BranchBit Jb bit offset) next c e fits v = valid_after_read c (location_of (byte_of_bit bit)) v
  valid-effect (BranchBit Jnb bit offset) next c e fits v = valid_after_read c (location_of (byte_of_bit bit)) v
  valid-effect (ArithImmediate op byte) next c e fits v = valid_arithmetic op c byte v
  valid-effect (ArithDirect op d) next c e fits v = valid_arithmetic op (after_read c (location_of d)) _ (valid_after_read c (location_of d) v)
  valid-effect (ArithIndirect op ind) next c e fits v = valid_arithmetic op c _ v
  valid-effect (ArithRegister op r) next c e fits v = valid_arithmetic op c _ v
  valid-effect (LogicDirectAcc op d) next c e fits v =
      valid_written c (location_of d) _ v (logical_byte op (held c (location_of d)) c.acc (held_byte c (location_of d) v) v.0.0)
  valid-effect (LogicDirectImmediate op d byte) next c e fits v =
      valid_written c (location_of d) _ v (logical_byte op (held c (location_of d)) byte (held_byte c (location_of d) v) e.1.1.0)
  valid-effect (LogicImmediate op byte) next c e fits v = valid_acc c _ v (logical_byte op c.acc byte v.0.0 e.1.0)
  valid-effect (LogicDirect op d) next c e fits v =
      valid_acc (after_read c (location_of d)) _ (valid_after_read c (location_of d) v)
      (logical_byte op c.acc (read_value c (location_of d)) v.0.0 (read_value_byte c (location_of d) v))
  valid-effect (LogicIndirect op ind) next c e fits v = valid_acc c _ v (logical_byte op c.acc (indirect c ind) v.0.0 (indirect_byte c ind v))
  valid-effect (LogicRegister op r) next c e fits v = valid_acc c _ v (logical_byte op c.acc (register c r) v.0.0 (register_byte c r v))
  valid-effect (CarryLogic op bit) next c e fits v = valid_after_read c (location_of (byte_of_bit bit)) v
  valid-effect (MovAccImmediate byte) next c e fits v = valid_acc c byte v e.1.0
  valid-effect (MovDirectImmediate d byte) next c e fits v = valid_written c (location_of d) byte v e.1.1.0
  valid-effect (MovIndirectImmediate ind byte) next c e fits v = valid_iram c _ byte v e.1.0
  valid-effect (MovRegisterImmediate r byte) next c e fits v = valid_iram c _ byte v e.1.0
  valid-effect (Movc base) next c e fits v = valid_acc c _ v (byte_at code ((c.acc + table_base base next c) % 65536) bytes)
  valid-effect (Multiplier MulAb) next c e fits v =
      let acc = v.0.0 in let b = v.0.1 in
      let product = mul-le c.acc c.b 255 255 (omega arith) (omega arith) in valid_acc_b c (c.acc * c.b % 256) (c.acc * c.b / 256) v (omega arith) (omega arith)
  valid-effect (Multiplier DivAb) next c e fits v =
      let acc = v.0.0 in let quotient = div-le_self c.acc c.b in let remainder = mod-le c.acc c.b in
      valid_cond (nat_eq c.b 0) (record c { cy = false; ov = true }) (record c { acc = c.acc / c.b; b = c.acc % c.b; cy = false; ov = false }) v (valid_acc_b c (c.acc / c.b) (c.acc % c.b) v (omega arith) (omega arith))
  valid-effect (MovDirectDirect s t) next c e fits v =
      valid_written (after_read c (location_of s)) (location_of t) _ (valid_after_read c (location_of s) v) (read_value_byte c (location_of s) v)
  valid-effect (MovDirectIndirect d ind) next c e fits v = valid_written c (location_of d) _ v (indirect_byte c ind v)
  valid-effect (MovDirectRegister d r) next c e fits v = valid_written c (location_of d) _ v (register_byte c r v)
  valid-effect (MovDptr word) next c e fits v = let high = e.1.0 in valid_dptr c word v (omega arith)
  valid-effect (MovBitCarry bit) next c e fits v = valid_changed_bit c bit c.cy v
  valid-effect (MovCarryBit bit) next c e fits v = valid_after_read c (location_of (byte_of_bit bit)) v
  valid-effect IncDptr next c e fits v = valid_dptr c ((dptr c + 1) % 65536) v (omega arith)
  valid-effect (MovIndirectDirect ind d) next c e fits v =
      valid_iram (after_read c (location_of d)) _ _ (valid_after_read c (location_of d) v) (read_value_byte c (location_of d) v)
  valid-effect (MovRegisterDirect r d) next c e fits v =
      valid_iram (after_read c (location_of d)) _ _ (valid_after_read c (location_of d) v) (read_value_byte c (location_of d) v)
  valid-effect (ChangeBit op bit) next c e fits v = valid_changed_bit c bit (changed op (bit_of (held c (location_of (byte_of_bit bit))) (bit % 8))) v
  valid-effect (CjneDirect d offset) next c e fits v = valid_after_read c (location_of d) v
  valid-effect (Stack Push d) next c e fits v =
      valid_iram (after_read (raised c) (location_of d)) _ _ (valid_after_read (raised c) (location_of d) (valid_raised c v))
      (read_value_byte (raised c) (location_of d) (valid_raised c v))
  valid-effect (Stack Pop d) next c e fits v = valid_written (popped c) (location_of d) _ (valid_popped c v) (byte_at c.iram c.sp v.1.1)
  valid-effect (Adjust Swap) next c e fits v = let acc = v.0.0 in valid_acc c (c.acc % 16 * 16 + c.acc / 16) v (omega arith)
  valid-effect (Adjust Da) next c e fits v = valid_high_adjusted (low_adjusted c) (valid_low_adjusted c v)
  valid-effect (XchDirect d) next c e fits v =
      valid_acc (written (after_read c (location_of d)) (location_of d) c.acc) _
      (valid_written (after_read c (location_of d)) (location_of d) c.acc (valid_after_read c (location_of d) v) v.0.0) (read_value_byte c (location_of d) v)
  valid-effect (XchIndirect ind) next c e fits v = valid_acc (with_indirect c ind c.acc) _ (valid_iram c _ c.acc v v.0.0) (indirect_byte c ind v)
  valid-effect (XchRegister r) next c e fits v = valid_acc (with_register c r c.acc) _ (valid_iram c _ c.acc v v.0.0) (register_byte c r v)
  valid-effect (Xchd ind) next c e fits v =
      let acc = v.0.0 in let byte = indirect_byte c ind v in
      valid_acc (with_indirect c ind (indirect c ind / 16 * 16 + c.acc % 16)) (c.acc / 16 * 16 + indirect c ind % 16)
      (valid_iram c _ (indirect c ind / 16 * 16 + c.acc % 16) v (omega arith)) (omega arith)
  valid-effect (DjnzDirect d offset) next c e fits v = valid_written c (location_of d) _ v (stepped_byte Dec (held c (location_of d)))
  valid-effect (DjnzRegister r offset) next c e fits v = valid_iram c _ _ v (stepped_byte Dec (register c r))
  valid-effect (MovxDptr IntoAcc) next c e fits v = valid_acc c _ v (byte_at c.xram (dptr c) v.4.1)
  valid-effect (MovxDptr FromAcc) next c e fits v = valid_xram c _ c.acc v v.0.0
  valid-effect (MovxIndirect IntoAcc ind) next c e fits v = valid_acc c _ v (byte_at c.xram _ v.4.1)
  valid-effect (MovxIndirect FromAcc ind) next c e fits v = valid_xram c _ c.acc v v.0.0
  valid-effect (WholeAcc ClearAcc) next c e fits v = valid_acc c 0 v (omega arith)
  valid-effect (WholeAcc ComplementAcc) next c e fits v = valid_acc c (255 - c.acc) v (omega arith)
  valid-effect (MovDirect IntoAcc d) next c e fits v =
      valid_acc (after_read c (location_of d)) _ (valid_after_read c (location_of d) v) (read_value_byte c (location_of d) v)
  valid-effect (MovDirect FromAcc d) next c e fits v = valid_written c (location_of d) c.acc v v.0.0
  valid-effect (MovIndirect IntoAcc ind) next c e fits v = valid_acc c _ v (indirect_byte c ind v)
  valid-effect (MovIndirect FromAcc ind) next c e fits v = valid_iram c _ c.acc v v.0.0
  valid-effect (MovRegister IntoAcc r) next c e fits v = valid_acc c _ v (register_byte c r v)
  valid-effect (MovRegister FromAcc r) next c e fits v = valid_iram c _ c.acc v v.0.0
  valid-effect _ next c e fits v = v

-- where an instruction leads by its table alone, it leads to an address of the code memory
relative_low : (next offset : ℕ) → relative_target next offset < 65536
relative_low next offset = mod-lt _ (omega arith)

page_low : (next : ℕ) (page : Page) (byte : ℕ) → next < 65536 → byte < 256 → next / 2048 * 2048 + page_number page * 256 + byte < 65536
page_low next page byte fits small =
    let below : page_number page < 8 = each_page (λ p. page_number p < 8) (omega arith) (omega arith) (omega arith) (omega arith) (omega arith) (omega arith) (omega arith) (omega arith) page in
    omega arith

abbrev IsLow : Flow → Type 0
IsLow (On target) = target < 65536
IsLow (Branch next target) = (next < 65536) × (target < 65536)
IsLow Back = Unit {0}
IsLow Lost = Unit {0}

flow_low : (i : Instr) (next : ℕ) → IsEncodable i → next < 65536 → IsLow (flow_of i next)
flow_low Nop next e fits = fits
flow_low (Ajmp target) next e fits = page_low next target.page target.low fits e.1.0
flow_low (Acall target) next e fits = page_low next target.page target.low fits e.1.0
flow_low (Long op target) next e fits = let high = e.1.0 in omega arith
flow_low (Sjmp offset) next e fits = relative_low next offset
flow_low (BranchBit op bit offset) next e fits = (fits, relative_low next offset)
flow_low (BranchFlag op offset) next e fits = (fits, relative_low next offset)
flow_low (CjneImmediate byte offset) next e fits = (fits, relative_low next offset)
flow_low (CjneDirect direct offset) next e fits = (fits, relative_low next offset)
flow_low (CjneIndirect ind byte offset) next e fits = (fits, relative_low next offset)
flow_low (CjneRegister reg byte offset) next e fits = (fits, relative_low next offset)
flow_low (DjnzDirect direct offset) next e fits = (fits, relative_low next offset)
flow_low (DjnzRegister reg offset) next e fits = (fits, relative_low next offset)
flow_low (Ret op) next e fits = tt
flow_low JmpIndirect next e fits = tt
flow_low _ next e fits = fits

leads_low : (f : Flow) (address : ℕ) → IsLow f → LeadsTo f address → (f ≡ Back → address < 65536) → (f ≡ Lost → address < 65536) → address < 65536
leads_low (On target) address low is back lost = subst (λ n. n < 65536) (sym is) low
leads_low (Branch next target) address low is back lost = elim is [ inl e ↦ subst (λ n. n < 65536) (sym e) low.0 | inr e ↦ subst (λ n. n < 65536) (sym e) low.1 ]
leads_low Back address low is back lost = back refl
leads_low Lost address low is back lost = lost refl

-- a return and a computed jump lead there too
pub effect_pc : (code : List ℕ) (i : Instr) (next : ℕ) (c : Core) → IsEncodable i → next < 65536 → IsValid c → (effect code i next c).pc < 65536
effect_pc code (Ret op) next c e fits v =
    let high : top c < 256 = byte_at c.iram c.sp v.1.1 in
    let under : top (popped c) < 256 = byte_at c.iram (popped c).sp v.1.1 in
    omega arith
effect_pc code JmpIndirect next c e fits v = omega arith
effect_pc code (Long op target) next c e fits v = leads_low (flow_of (Long op target) next) _ (flow_low (Long op target) next e fits) (leads code (Long op target) next c) (λ f. absurd cc) (λ f. absurd cc)
effect_pc code i next c e fits v = leads_low (flow_of i next) _ (flow_low i next e fits) (leads code i next c) (λ f. absurd cc) (λ f. absurd cc)

all_take : (n : ℕ) (xs : List ℕ) → AllByRecursion IsByte xs → AllByRecursion IsByte (take n xs)
all_take zero xs all = tt
all_take (suc n) [] all = tt
all_take (suc n) (x ∷ xs) all = (all.0, all_take n xs all.1)

-- the operands of what is decoded are bytes
pub instr_encodable : (code : List ℕ) (a : ℕ) (i : Instr) → All IsByte code → instr_at code a ≡ Some i → IsEncodable i
unfolding instr_at
instr_encodable code a i bytes there =
    let first = byte_at code (a % 65536) bytes in
    let second = byte_at code ((a + 1) % 65536) bytes in
    let third = byte_at code ((a + 2) % 65536) bytes in
    let whole = encode_decode (code_at code a) (code_at code (a + 1)) (code_at code (a + 2)) first second third in
    let is : encode_of i ≡ take (length (encode_of i)) (code_at code a ∷ code_at code (a + 1) ∷ code_at code (a + 2) ∷ []) = subst (EncodesBack (code_at code a) (code_at code (a + 1)) (code_at code (a + 2))) there whole in
    subst (AllByRecursion IsByte) (sym is) (all_take (length (encode_of i)) (code_at code a ∷ code_at code (a + 1) ∷ code_at code (a + 2) ∷ []) (first, (second, (third, tt))))

pub valid-reset : (script : List ℕ) → IsScript script → IsValidState (reset script)
valid-reset script all = (
  omega arith,
  (
    (omega arith, omega arith, omega arith, omega arith, omega arith),
    memory_of 256 0 (omega arith),
    memory_of 4 255 (omega arith),
    memory_of 128 0 (omega arith),
    memory_of 65536 0 (omega arith),
    all,
  ),
)

pub valid-step : (code labels : List ℕ) (s : State) (e : Events) (t : State) → All IsByte code → IsValidState s → step code labels s ≡ Goes e t → IsValidState t
valid-step code labels s e t bytes v goes =
    let i = step_instr code labels s e t goes in
    let encodable = instr_encodable code s.pc i.0 bytes i.1 in
    let next : next_address s.pc i.0 < 65536 = mod-lt _ (omega arith) in
    subst IsValidState (step_state code labels s e t i.0 i.1 goes)
    (effect_pc code i.0 (next_address s.pc i.0) s.core encodable next v.1, valid-effect code bytes i.0 (next_address s.pc i.0) s.core encodable next v.1)
