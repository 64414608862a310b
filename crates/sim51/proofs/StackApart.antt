-- An instruction that spares the stack does the same to all the rest, whatever the stack is, and nothing to it.
use Rattle.std.proofs.Common.{◌≡◌, ◌≢◌, ℕ, ◌+◌, ◌*◌, ◌/◌, ◌%◌, ◌<◌, ◌≤◌, List, Option, None, Bool, true, false, cond, nat_eq, nat_lt, slice_index, slice_set, length, refl, sym, ap, subst, ◌∙◌, arith, get_or-take, get_or-set_other, length-set, ltb-true, ltb-false}
use Rattle.std.specs.Prelude.{nat_le, ◌||◌}
use Rattle.std.proofs.Math.Seq.{take-set-lt}
use Rattle.std.proofs.lemmas.Bool.{ne_eqb}
use Rattle.cerco_base.specs.declared.events.Port.{Port}
use Rattle.cerco_base.specs.declared.events.Port.TheVariants.{P0, P1, P2, P3}
use Rattle.cerco_base.proofs.ByteLaws.{bit_value_le}
use Rattle.mcs51_isa.specs.declared.instr.Instr.{Instr}
use Rattle.mcs51_isa.specs.declared.instr.Instr.TheVariants.{Nop, Ajmp, Acall, Long, Ret, RotateAcc, StepDirect, StepIndirect, StepRegister, BranchBit, BranchFlag, ArithImmediate, ArithDirect, ArithIndirect, ArithRegister, LogicDirectAcc, LogicDirectImmediate, LogicDirect, LogicIndirect, LogicRegister, CarryLogic, MovDirectImmediate, MovIndirectImmediate, MovRegisterImmediate, Movc, Multiplier, MovDirectDirect, MovDirectIndirect, MovDirectRegister, MovBitCarry, MovCarryBit, MovIndirectDirect, MovRegisterDirect, ChangeBit, CjneDirect, CjneIndirect, CjneRegister, Stack, Adjust, XchDirect, XchIndirect, XchRegister, Xchd, DjnzDirect, DjnzRegister, MovxDptr, MovxIndirect, MovDirect, MovIndirect, MovRegister}
use Rattle.mcs51_isa.specs.declared.instr.LongJump.TheVariants.{Ljmp, Lcall}
use Rattle.mcs51_isa.specs.declared.instr.Rotate.TheVariants.{Rr, Rrc, Rl, Rlc}
use Rattle.mcs51_isa.specs.declared.instr.BitTest.TheVariants.{Jbc, Jb, Jnb}
use Rattle.mcs51_isa.specs.declared.instr.FlagTest.TheVariants.{Jc, Jnc, Jz, Jnz}
use Rattle.mcs51_isa.specs.declared.instr.ByOne.TheVariants.{Dec}
use Rattle.mcs51_isa.specs.declared.instr.SumOp.{SumOp}
use Rattle.mcs51_isa.specs.declared.instr.SumOp.TheVariants.{Add, Addc, Subb}
use Rattle.mcs51_isa.specs.declared.instr.TableBase.TheVariants.{Pc, Dptr}
use Rattle.mcs51_isa.specs.declared.instr.MulDiv.TheVariants.{DivAb, MulAb}
use Rattle.mcs51_isa.specs.declared.instr.Adjustment.TheVariants.{Swap, Da}
use Rattle.mcs51_isa.specs.declared.instr.Move.TheVariants.{IntoAcc, FromAcc}
use Rattle.mcs51_isa.specs.declared.operands.Reg.{Reg}
use Rattle.mcs51_isa.specs.declared.operands.Ind.{Ind}
use Rattle.mcs51_isa.specs.declared.operands.Ind.TheVariants.{At0, At1}
use Rattle.mcs51_isa.specs.Operands.{reg_number, ind_number, relative_target}
use Rattle.mcs51_isa.proofs.Addresses.{reg_number_below}
use Rattle.sim51.specs.declared.location.Location.{Location}
use Rattle.sim51.specs.declared.location.Location.TheVariants.{Ram, Latch, Acc, B, Psw, Sp, Dpl, Dph, Other}
use Rattle.sim51.specs.State.{Core}
use Rattle.sim51.specs.Locations.{bit_of, with_bit, special_at, location_of, byte_of_bit, held, read_value, after_read, read_event, written, write_event, register_address, register, with_register, pointer}
use Rattle.sim51.specs.Effect.{Effect, effect, goes_to, reads, writes, arithmetic, logical, carry_logical, stepped, changed, low_adjusted, high_adjusted, exchanged, clears_bit, compares}
use Rattle.sim51.specs.StackApart.{low, low_effect, SparesStack, SameStack}

-- neither the stack pointer nor a byte of internal RAM from 80H on
abbrev IsApart : Location → Type 0
IsApart (Ram a) = a < 128
IsApart Sp = ⊥
IsApart _ = Unit {0}

apart_cond : (b : Bool) (x y : Location) → IsApart x → IsApart y → IsApart (cond b x y)
apart_cond true x y p q = p
apart_cond false x y p q = q

special_apart : (a : ℕ) → a ≢ 0x81 → IsApart (special_at a)
special_apart a other =
    let not_sp = ne_eqb a 0x81 other in
    apart_cond (nat_eq a 0x80) (Latch P0) _ tt (rw not_sp (apart_cond (nat_eq a 0x82) Dpl _ tt (apart_cond (nat_eq a 0x83) Dph _ tt
    (apart_cond (nat_eq a 0x90) (Latch P1) _ tt (apart_cond (nat_eq a 0xA0) (Latch P2) _ tt (apart_cond (nat_eq a 0xB0) (Latch P3) _ tt
    (apart_cond (nat_eq a 0xD0) Psw _ tt (apart_cond (nat_eq a 0xE0) Acc _ tt (apart_cond (nat_eq a 0xF0) B (Other a) tt tt)))))))))

location_apart : (a : ℕ) → a ≢ 0x81 → IsApart (location_of a)
location_apart a other = by_test (nat_lt a 0x80) refl
  where
    by_test : (b : Bool) → nat_lt a 0x80 ≡ b → IsApart (location_of a)
    by_test true e = rw e (ltb-true a 0x80 e)
    by_test false e = rw e (special_apart a other)

-- no bit address names the stack pointer
byte_of_bit_other : (bit : ℕ) → byte_of_bit bit ≢ 0x81
byte_of_bit_other bit = by_test (nat_lt bit 0x80) refl
  where
    by_test : (b : Bool) → nat_lt bit 0x80 ≡ b → byte_of_bit bit ≢ 0x81
    by_test true e = let under : bit < 0x80 = ltb-true bit 0x80 e in rw e (λ same. omega arith)
    by_test false e = let from : 0x80 ≤ bit = ltb-false bit 0x80 e in rw e (λ same. omega arith)

bit_apart : (bit : ℕ) → IsApart (location_of (byte_of_bit bit))
bit_apart bit = location_apart (byte_of_bit bit) (byte_of_bit_other bit)

-- the registers of the four banks
register_apart : (c : Core) (n : ℕ) → n < 8 → register_address c n < 128
register_apart c n small = omega (arith, bit_value_le c.rs1, bit_value_le c.rs0)

ind_number_below : (i : Ind) → ind_number i < 8
ind_number_below At0 = omega arith
ind_number_below At1 = omega arith

low_cond : (b : Bool) (x y : Core) → low (cond b x y) ≡ cond b (low x) (low y)
low_cond true x y = refl
low_cond false x y = refl

abbrev parts : Core → ℕ → Option (Port × ℕ) → Option (Port × ℕ) → Effect
parts c pc read write = record { core = c; pc = pc; read = read; write = write }

-- what is held, read and written apart from the stack
register_low : (c : Core) (r : Reg) → register (low c) r ≡ register c r
register_low c r = get_or-take 128 c.iram (register_address c (reg_number r)) 0 (register_apart c (reg_number r) (reg_number_below r))

pointer_low : (c : Core) (i : Ind) → pointer (low c) i ≡ pointer c i
pointer_low c i = get_or-take 128 c.iram (register_address c (ind_number i)) 0 (register_apart c (ind_number i) (ind_number_below i))

with_register_low : (r : Reg) (c : Core) (byte : ℕ) → low (with_register c r byte) ≡ with_register (low c) r byte
with_register_low r c byte =
    ap (λ (bytes : List ℕ). record (low c) { iram = bytes })
    (take-set-lt 128 c.iram (register_address c (reg_number r)) byte (register_apart c (reg_number r) (reg_number_below r)))

held_low : (c : Core) (l : Location) → IsApart l → held (low c) l ≡ held c l
held_low c (Ram a) apart = get_or-take 128 c.iram a 0 apart
held_low c (Latch port) apart = refl
held_low c Acc apart = refl
held_low c B apart = refl
held_low c Psw apart = refl
held_low c Sp apart = absurd apart
held_low c Dpl apart = refl
held_low c Dph apart = refl
held_low c (Other a) apart = refl

written_low : (c : Core) (l : Location) (byte : ℕ) → IsApart l → low (written c l byte) ≡ written (low c) l byte
written_low c (Ram a) byte apart = ap (λ (bytes : List ℕ). record (low c) { iram = bytes }) (take-set-lt 128 c.iram a byte apart)
written_low c (Latch port) byte apart = refl
written_low c Acc byte apart = refl
written_low c B byte apart = refl
written_low c Psw byte apart = refl
written_low c Sp byte apart = absurd apart
written_low c Dpl byte apart = refl
written_low c Dph byte apart = refl
written_low c (Other a) byte apart = refl

-- what the read of a location gives: its byte, what is held after it, and its event
read_low : (c : Core) (P : ℕ → Core → Option (Port × ℕ) → Type 0) (l : Location) → IsApart l → P (read_value c l) (low (after_read c l)) (read_event c l) → P (read_value (low c) l) (after_read (low c) l) (read_event (low c) l)
read_low c P (Ram a) apart p = subst (λ v. P v (low c) None) (sym (held_low c (Ram a) apart)) p
read_low c P (Latch port) apart p = p
read_low c P Acc apart p = p
read_low c P B apart p = p
read_low c P Psw apart p = p
read_low c P Sp apart p = absurd apart
read_low c P Dpl apart p = p
read_low c P Dph apart p = p
read_low c P (Other a) apart p = p

-- an effect that depends on the byte that is read
reads_low : (c : Core) (l : Location) (f : Core → ℕ → Core) (pc : ℕ → ℕ) → IsApart l → ((m : Core) (v : ℕ) → low (f m v) ≡ f (low m) v) → low_effect (reads c l (pc (read_value c l)) (f (after_read c l) (read_value c l))) ≡ reads (low c) l (pc (read_value (low c) l)) (f (after_read (low c) l) (read_value (low c) l))
reads_low c l f pc apart commutes =
    read_low c (λ (v : ℕ) (m : Core) (event : Option (Port × ℕ)). low_effect (reads c l (pc (read_value c l)) (f (after_read c l) (read_value c l))) ≡ parts (f m v) (pc v) event None) l apart
    (ap (λ (m : Core). parts m (pc (read_value c l)) (read_event c l) None) (commutes (after_read c l) (read_value c l)))

-- one that writes a byte that depends on the one that is held
writes_low : (c : Core) (l : Location) (byte pc : ℕ → ℕ) → IsApart l → low_effect (writes l (byte (held c l)) (pc (held c l)) c) ≡ writes l (byte (held (low c) l)) (pc (held (low c) l)) (low c)
writes_low c l byte pc apart =
    ap (λ (m : Core). parts m (pc (held c l)) None (write_event l (byte (held c l)))) (written_low c l (byte (held c l)) apart)
    ∙ ap (λ v. writes l (byte v) (pc v) (low c)) (sym (held_low c l apart))

-- one that reads a location and writes to another
moves_low : (c : Core) (source target : Location) (next : ℕ) → IsApart source → IsApart target → low_effect (record (writes target (read_value c source) next (after_read c source)) { read = read_event c source }) ≡ record (writes target (read_value (low c) source) next (after_read (low c) source)) { read = read_event (low c) source }
moves_low c source target next from to =
    read_low c (λ (v : ℕ) (m : Core) (event : Option (Port × ℕ)). low_effect (record (writes target (read_value c source) next (after_read c source)) { read = read_event c source }) ≡ parts (written m target v) next event (write_event target v)) source from
    (ap (λ (m : Core). parts m next (read_event c source) (write_event target (read_value c source))) (written_low (after_read c source) target (read_value c source) to))

exchanges_low : (c : Core) (l : Location) (next : ℕ) → IsApart l → low_effect (parts (exchanged c l) next (read_event c l) (write_event l c.acc)) ≡ parts (exchanged (low c) l) next (read_event (low c) l) (write_event l c.acc)
exchanges_low c l next apart =
    read_low c (λ (v : ℕ) (m : Core) (event : Option (Port × ℕ)). low_effect (parts (exchanged c l) next (read_event c l) (write_event l c.acc)) ≡ parts (record (written m l c.acc) { acc = v }) next event (write_event l c.acc)) l apart
    (ap (λ (m : Core). parts (record m { acc = read_value c l }) next (read_event c l) (write_event l c.acc)) (written_low (after_read c l) l c.acc apart))

-- one on a register
registers_low : (c : Core) (r : Reg) (byte pc : ℕ → ℕ) → low_effect (goes_to (pc (register c r)) (with_register c r (byte (register c r)))) ≡ goes_to (pc (register (low c) r)) (with_register (low c) r (byte (register (low c) r)))
registers_low c r byte pc =
    ap (λ (m : Core). goes_to (pc (register c r)) m) (with_register_low r c (byte (register c r)))
    ∙ ap (λ v. goes_to (pc v) (with_register (low c) r (byte v))) (sym (register_low c r))

clears_low : (c : Core) (b : Bool) (bit target next : ℕ) → low_effect (clears_bit b bit target next c) ≡ clears_bit b bit target next (low c)
clears_low c true bit target next = writes_low c (location_of (byte_of_bit bit)) (λ v. with_bit v (bit % 8) false) (λ v. target) (bit_apart bit)
clears_low c false bit target next = refl

arithmetic_low : (op : SumOp) (c : Core) (v : ℕ) → low (arithmetic op c v) ≡ arithmetic op (low c) v
arithmetic_low Add c v = refl
arithmetic_low Addc c v = refl
arithmetic_low Subb c v = refl

low_adjusted_low : (c : Core) → low (low_adjusted c) ≡ low_adjusted (low c)
low_adjusted_low c = low_cond (nat_lt 9 (c.acc % 16) || c.ac) (record c { acc = (c.acc + 6) % 256; cy = c.cy || nat_le 256 (c.acc + 6) }) c

high_adjusted_low : (c : Core) → low (high_adjusted c) ≡ high_adjusted (low c)
high_adjusted_low c = low_cond (nat_lt 9 (c.acc / 16) || c.cy) (record c { acc = (c.acc + 0x60) % 256; cy = c.cy || nat_le 256 (c.acc + 0x60) }) c

-- an instruction that spares the stack has the same effect apart from the stack
pub effect_low : (code : List ℕ) (i : Instr) (next : ℕ) (c : Core) → SparesStack i → low_effect (effect code i next c) ≡ effect code i next (low c)
effect_low code Nop next c spares = refl
effect_low code (Ajmp target) next c spares = refl
effect_low code (Acall target) next c spares = absurd spares
effect_low code (Long Ljmp target) next c spares = refl
effect_low code (Long Lcall target) next c spares = absurd spares
effect_low code (Ret op) next c spares = absurd spares
effect_low code (RotateAcc Rr) next c spares = refl
effect_low code (RotateAcc Rrc) next c spares = refl
effect_low code (RotateAcc Rl) next c spares = refl
effect_low code (RotateAcc Rlc) next c spares = refl
effect_low code (StepDirect op d) next c spares = writes_low c (location_of d) (stepped op) (λ v. next) (location_apart d spares)
effect_low code (StepIndirect op ind) next c spares = absurd spares
effect_low code (StepRegister op r) next c spares = registers_low c r (stepped op) (λ v. next)
effect_low code (BranchBit Jbc bit offset) next c spares =
    clears_low c (bit_of (held c (location_of (byte_of_bit bit))) (bit % 8)) bit (relative_target next offset) next
    ∙ ap (λ v. clears_bit (bit_of v (bit % 8)) bit (relative_target next offset) next (low c)) (sym (held_low c (location_of (byte_of_bit bit)) (bit_apart bit)))
effect_low code (BranchBit Jb bit offset) next c spares =
    reads_low c (location_of (byte_of_bit bit)) (λ m v. m) (λ v. cond (bit_of v (bit % 8)) (relative_target next offset) next) (bit_apart bit) (λ m v. refl)
effect_low code (BranchBit Jnb bit offset) next c spares =
    reads_low c (location_of (byte_of_bit bit)) (λ m v. m) (λ v. cond (bit_of v (bit % 8)) next (relative_target next offset)) (bit_apart bit) (λ m v. refl)
effect_low code (BranchFlag Jc offset) next c spares = refl
effect_low code (BranchFlag Jnc offset) next c spares = refl
effect_low code (BranchFlag Jz offset) next c spares = refl
effect_low code (BranchFlag Jnz offset) next c spares = refl
effect_low code (ArithImmediate op byte) next c spares = ap (goes_to next) (arithmetic_low op c byte)
effect_low code (ArithDirect op d) next c spares = reads_low c (location_of d) (arithmetic op) (λ v. next) (location_apart d spares) (arithmetic_low op)
effect_low code (ArithIndirect op ind) next c spares = absurd spares
effect_low code (ArithRegister op r) next c spares =
    ap (goes_to next) (arithmetic_low op c (register c r) ∙ ap (arithmetic op (low c)) (sym (register_low c r)))
effect_low code (LogicDirectAcc op d) next c spares = writes_low c (location_of d) (λ v. logical op v c.acc) (λ v. next) (location_apart d spares)
effect_low code (LogicDirectImmediate op d byte) next c spares = writes_low c (location_of d) (λ v. logical op v byte) (λ v. next) (location_apart d spares)
effect_low code (LogicDirect op d) next c spares =
    reads_low c (location_of d) (λ m v. record m { acc = logical op c.acc v }) (λ v. next) (location_apart d spares) (λ m v. refl)
effect_low code (LogicIndirect op ind) next c spares = absurd spares
effect_low code (LogicRegister op r) next c spares = ap (λ v. goes_to next (record (low c) { acc = logical op c.acc v })) (sym (register_low c r))
effect_low code (CarryLogic op bit) next c spares =
    reads_low c (location_of (byte_of_bit bit)) (λ m v. record m { cy = carry_logical op c.cy (bit_of v (bit % 8)) }) (λ v. next) (bit_apart bit) (λ m v. refl)
effect_low code (MovDirectImmediate d byte) next c spares = writes_low c (location_of d) (λ v. byte) (λ v. next) (location_apart d spares)
effect_low code (MovIndirectImmediate ind byte) next c spares = absurd spares
effect_low code (MovRegisterImmediate r byte) next c spares = registers_low c r (λ v. byte) (λ v. next)
effect_low code (Movc Pc) next c spares = refl
effect_low code (Movc Dptr) next c spares = refl
effect_low code (Multiplier MulAb) next c spares = refl
effect_low code (Multiplier DivAb) next c spares =
    ap (goes_to next) (low_cond (nat_eq c.b 0) (record c { cy = false; ov = true }) (record c { acc = c.acc / c.b; b = c.acc % c.b; cy = false; ov = false }))
effect_low code (MovDirectDirect s t) next c spares = moves_low c (location_of s) (location_of t) next (location_apart s spares.0) (location_apart t spares.1)
effect_low code (MovDirectIndirect d ind) next c spares = absurd spares
effect_low code (MovDirectRegister d r) next c spares =
    writes_low c (location_of d) (λ v. register c r) (λ v. next) (location_apart d spares) ∙ ap (λ v. writes (location_of d) v next (low c)) (sym (register_low c r))
effect_low code (MovBitCarry bit) next c spares =
    writes_low c (location_of (byte_of_bit bit)) (λ v. with_bit v (bit % 8) c.cy) (λ v. next) (bit_apart bit)
effect_low code (MovCarryBit bit) next c spares =
    reads_low c (location_of (byte_of_bit bit)) (λ m v. record m { cy = bit_of v (bit % 8) }) (λ v. next) (bit_apart bit) (λ m v. refl)
effect_low code (MovIndirectDirect ind d) next c spares = absurd spares
effect_low code (MovRegisterDirect r d) next c spares =
    reads_low c (location_of d) (λ m v. with_register m r v) (λ v. next) (location_apart d spares) (with_register_low r)
effect_low code (ChangeBit op bit) next c spares =
    writes_low c (location_of (byte_of_bit bit)) (λ v. with_bit v (bit % 8) (changed op (bit_of v (bit % 8)))) (λ v. next) (bit_apart bit)
effect_low code (CjneDirect d offset) next c spares =
    reads_low c (location_of d) (λ m v. record m { cy = nat_lt c.acc v }) (λ v. cond (nat_eq c.acc v) next (relative_target next offset)) (location_apart d spares) (λ m v. refl)
effect_low code (CjneIndirect ind byte offset) next c spares = absurd spares
effect_low code (CjneRegister r byte offset) next c spares = ap (λ v. compares v byte (relative_target next offset) next (low c)) (sym (register_low c r))
effect_low code (Stack op d) next c spares = absurd spares
effect_low code (Adjust Swap) next c spares = refl
effect_low code (Adjust Da) next c spares = ap (goes_to next) (high_adjusted_low (low_adjusted c) ∙ ap high_adjusted (low_adjusted_low c))
effect_low code (XchDirect d) next c spares = exchanges_low c (location_of d) next (location_apart d spares)
effect_low code (XchIndirect ind) next c spares = absurd spares
effect_low code (XchRegister r) next c spares =
    ap (λ (m : Core). goes_to next (record m { acc = register c r })) (with_register_low r c c.acc)
    ∙ ap (λ v. goes_to next (record (with_register (low c) r c.acc) { acc = v })) (sym (register_low c r))
effect_low code (Xchd ind) next c spares = absurd spares
effect_low code (DjnzDirect d offset) next c spares =
    writes_low c (location_of d) (stepped Dec) (λ v. cond (nat_eq (stepped Dec v) 0) next (relative_target next offset)) (location_apart d spares)
effect_low code (DjnzRegister r offset) next c spares =
    registers_low c r (stepped Dec) (λ v. cond (nat_eq (stepped Dec v) 0) next (relative_target next offset))
effect_low code (MovxDptr IntoAcc) next c spares = refl
effect_low code (MovxDptr FromAcc) next c spares = refl
effect_low code (MovxIndirect IntoAcc ind) next c spares =
    ap (λ v. goes_to next (record (low c) { acc = slice_index c.xram (256 * slice_index c.ports 2 + v) })) (sym (pointer_low c ind))
effect_low code (MovxIndirect FromAcc ind) next c spares =
    ap (λ v. goes_to next (record (low c) { xram = slice_set c.xram (256 * slice_index c.ports 2 + v) c.acc })) (sym (pointer_low c ind))
effect_low code (MovDirect IntoAcc d) next c spares =
    reads_low c (location_of d) (λ m v. record m { acc = v }) (λ v. next) (location_apart d spares) (λ m v. refl)
effect_low code (MovDirect FromAcc d) next c spares = writes_low c (location_of d) (λ v. c.acc) (λ v. next) (location_apart d spares)
effect_low code (MovIndirect op ind) next c spares = absurd spares
effect_low code (MovRegister IntoAcc r) next c spares = ap (λ v. goes_to next (record (low c) { acc = v })) (sym (register_low c r))
effect_low code (MovRegister FromAcc r) next c spares = registers_low c r (λ v. c.acc) (λ v. next)
effect_low code _ next c spares = refl

-- what keeps the stack
same_stack : (c d : Core) → d.sp ≡ c.sp → d.iram ≡ c.iram → SameStack c d
same_stack c d sp iram = record { sp = sp; bytes = ap length iram; high = λ a from. ap (λ (bytes : List ℕ). slice_index bytes a) iram }

-- the stack of a core that differs in other parts
same_still : (c d e : Core) → SameStack c d → e.sp ≡ d.sp → e.iram ≡ d.iram → SameStack c e
same_still c d e same sp iram =
    record { sp = sp ∙ same.sp; bytes = ap length iram ∙ same.bytes; high = λ a from. ap (λ (bytes : List ℕ). slice_index bytes a) iram ∙ same.high a from }

same_set : (c d : Core) (k byte : ℕ) → k < 128 → SameStack c d → SameStack c (record d { iram = slice_set d.iram k byte })
same_set c d k byte under same = record {
  sp = same.sp;
  bytes = length-set d.iram k byte ∙ same.bytes;
  high = λ a from. (let other : a ≢ k = omega arith in get_or-set_other d.iram k a byte 0 other) ∙ same.high a from;
}

same_register : (c d : Core) (r : Reg) (byte : ℕ) → SameStack c d → SameStack c (with_register d r byte)
same_register c d r byte same = same_set c d (register_address d (reg_number r)) byte (register_apart d (reg_number r) (reg_number_below r)) same

same_written : (c d : Core) (l : Location) (byte : ℕ) → IsApart l → SameStack c d → SameStack c (written d l byte)
same_written c d (Ram a) byte apart same = same_set c d a byte apart same
same_written c d (Latch port) byte apart same = same_still c d _ same refl refl
same_written c d Acc byte apart same = same_still c d _ same refl refl
same_written c d B byte apart same = same_still c d _ same refl refl
same_written c d Psw byte apart same = same_still c d _ same refl refl
same_written c d Sp byte apart same = absurd apart
same_written c d Dpl byte apart same = same_still c d _ same refl refl
same_written c d Dph byte apart same = same_still c d _ same refl refl
same_written c d (Other a) byte apart same = same_still c d _ same refl refl

same_after_read : (c : Core) (l : Location) → SameStack c (after_read c l)
same_after_read c (Ram a) = same_stack c c refl refl
same_after_read c (Latch port) = same_stack c _ refl refl
same_after_read c Acc = same_stack c c refl refl
same_after_read c B = same_stack c c refl refl
same_after_read c Psw = same_stack c c refl refl
same_after_read c Sp = same_stack c c refl refl
same_after_read c Dpl = same_stack c c refl refl
same_after_read c Dph = same_stack c c refl refl
same_after_read c (Other a) = same_stack c c refl refl

same_arithmetic : (op : SumOp) (c d : Core) (v : ℕ) → SameStack c d → SameStack c (arithmetic op d v)
same_arithmetic Add c d v same = same_still c d _ same refl refl
same_arithmetic Addc c d v same = same_still c d _ same refl refl
same_arithmetic Subb c d v same = same_still c d _ same refl refl

same_cond : (b : Bool) (c d e : Core) → SameStack c d → SameStack c e → SameStack c (cond b d e)
same_cond true c d e p q = p
same_cond false c d e p q = q

same_cleared : (b : Bool) (bit target next : ℕ) (c : Core) → SameStack c (clears_bit b bit target next c).core
same_cleared true bit target next c =
    same_written c c (location_of (byte_of_bit bit)) (with_bit (held c (location_of (byte_of_bit bit))) (bit % 8) false) (bit_apart bit) (same_stack c c refl refl)
same_cleared false bit target next c = same_stack c c refl refl

-- and keeps the stack
pub effect_high : (code : List ℕ) (i : Instr) (next : ℕ) (c : Core) → SparesStack i → SameStack c (effect code i next c).core
effect_high code Nop next c spares = same_stack c c refl refl
effect_high code (Acall target) next c spares = absurd spares
effect_high code (Long Ljmp target) next c spares = same_stack c c refl refl
effect_high code (Long Lcall target) next c spares = absurd spares
effect_high code (Ret op) next c spares = absurd spares
effect_high code (RotateAcc Rr) next c spares = same_stack c _ refl refl
effect_high code (RotateAcc Rrc) next c spares = same_stack c _ refl refl
effect_high code (RotateAcc Rl) next c spares = same_stack c _ refl refl
effect_high code (RotateAcc Rlc) next c spares = same_stack c _ refl refl
effect_high code (StepDirect op d) next c spares = same_written c c (location_of d) _ (location_apart d spares) (same_stack c c refl refl)
effect_high code (StepIndirect op ind) next c spares = absurd spares
effect_high code (StepRegister op r) next c spares = same_register c c r _ (same_stack c c refl refl)
effect_high code (BranchBit Jbc bit offset) next c spares =
    same_cleared (bit_of (held c (location_of (byte_of_bit bit))) (bit % 8)) bit (relative_target next offset) next c
effect_high code (BranchBit Jb bit offset) next c spares = same_after_read c (location_of (byte_of_bit bit))
effect_high code (BranchBit Jnb bit offset) next c spares = same_after_read c (location_of (byte_of_bit bit))
effect_high code (ArithImmediate op byte) next c spares = same_arithmetic op c c byte (same_stack c c refl refl)
effect_high code (ArithDirect op d) next c spares = same_arithmetic op c (after_read c (location_of d)) _ (same_after_read c (location_of d))
effect_high code (ArithIndirect op ind) next c spares = absurd spares
effect_high code (ArithRegister op r) next c spares = same_arithmetic op c c (register c r) (same_stack c c refl refl)
effect_high code (LogicDirectAcc op d) next c spares = same_written c c (location_of d) _ (location_apart d spares) (same_stack c c refl refl)
effect_high code (LogicDirectImmediate op d byte) next c spares = same_written c c (location_of d) _ (location_apart d spares) (same_stack c c refl refl)
effect_high code (LogicDirect op d) next c spares = same_still c (after_read c (location_of d)) _ (same_after_read c (location_of d)) refl refl
effect_high code (LogicIndirect op ind) next c spares = absurd spares
effect_high code (CarryLogic op bit) next c spares =
    same_still c (after_read c (location_of (byte_of_bit bit))) _ (same_after_read c (location_of (byte_of_bit bit))) refl refl
effect_high code (MovDirectImmediate d byte) next c spares = same_written c c (location_of d) byte (location_apart d spares) (same_stack c c refl refl)
effect_high code (MovIndirectImmediate ind byte) next c spares = absurd spares
effect_high code (MovRegisterImmediate r byte) next c spares = same_register c c r byte (same_stack c c refl refl)
effect_high code (Multiplier MulAb) next c spares = same_stack c _ refl refl
effect_high code (Multiplier DivAb) next c spares = same_cond (nat_eq c.b 0) c _ _ (same_stack c _ refl refl) (same_stack c _ refl refl)
effect_high code (MovDirectDirect s t) next c spares =
    same_written c (after_read c (location_of s)) (location_of t) _ (location_apart t spares.1) (same_after_read c (location_of s))
effect_high code (MovDirectIndirect d ind) next c spares = absurd spares
effect_high code (MovDirectRegister d r) next c spares = same_written c c (location_of d) (register c r) (location_apart d spares) (same_stack c c refl refl)
effect_high code (MovBitCarry bit) next c spares = same_written c c (location_of (byte_of_bit bit)) _ (bit_apart bit) (same_stack c c refl refl)
effect_high code (MovCarryBit bit) next c spares =
    same_still c (after_read c (location_of (byte_of_bit bit))) _ (same_after_read c (location_of (byte_of_bit bit))) refl refl
effect_high code (MovIndirectDirect ind d) next c spares = absurd spares
effect_high code (MovRegisterDirect r d) next c spares = same_register c (after_read c (location_of d)) r _ (same_after_read c (location_of d))
effect_high code (ChangeBit op bit) next c spares = same_written c c (location_of (byte_of_bit bit)) _ (bit_apart bit) (same_stack c c refl refl)
effect_high code (CjneDirect d offset) next c spares = same_still c (after_read c (location_of d)) _ (same_after_read c (location_of d)) refl refl
effect_high code (CjneIndirect ind byte offset) next c spares = absurd spares
effect_high code (Stack op d) next c spares = absurd spares
effect_high code (Adjust Swap) next c spares = same_stack c _ refl refl
effect_high code (Adjust Da) next c spares = high (low_adjusted c) (same_cond (nat_lt 9 (c.acc % 16) || c.ac) c _ _ (same_stack c _ refl refl) (same_stack c c refl refl))
  where
    high : (d : Core) → SameStack c d → SameStack c (high_adjusted d)
    high d same = same_cond (nat_lt 9 (d.acc / 16) || d.cy) c _ _ (same_still c d _ same refl refl) same
effect_high code (XchDirect d) next c spares =
    same_still c (written (after_read c (location_of d)) (location_of d) c.acc) _
    (same_written c (after_read c (location_of d)) (location_of d) c.acc (location_apart d spares) (same_after_read c (location_of d))) refl refl
effect_high code (XchIndirect ind) next c spares = absurd spares
effect_high code (XchRegister r) next c spares = same_still c (with_register c r c.acc) _ (same_register c c r c.acc (same_stack c c refl refl)) refl refl
effect_high code (Xchd ind) next c spares = absurd spares
effect_high code (DjnzDirect d offset) next c spares = same_written c c (location_of d) _ (location_apart d spares) (same_stack c c refl refl)
effect_high code (DjnzRegister r offset) next c spares = same_register c c r _ (same_stack c c refl refl)
effect_high code (MovxDptr IntoAcc) next c spares = same_stack c _ refl refl
effect_high code (MovxDptr FromAcc) next c spares = same_stack c _ refl refl
effect_high code (MovxIndirect IntoAcc ind) next c spares = same_stack c _ refl refl
effect_high code (MovxIndirect FromAcc ind) next c spares = same_stack c _ refl refl
effect_high code (MovDirect IntoAcc d) next c spares = same_still c (after_read c (location_of d)) _ (same_after_read c (location_of d)) refl refl
effect_high code (MovDirect FromAcc d) next c spares = same_written c c (location_of d) c.acc (location_apart d spares) (same_stack c c refl refl)
effect_high code (MovIndirect op ind) next c spares = absurd spares
effect_high code (MovRegister IntoAcc r) next c spares = same_stack c _ refl refl
effect_high code (MovRegister FromAcc r) next c spares = same_register c c r c.acc (same_stack c c refl refl)
effect_high code _ next c spares = same_stack c _ refl refl
