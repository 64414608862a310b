-- Direct addresses that are no port's: what they name is read and written without an event. Below 80H that is a byte of internal RAM,
-- and in bank 0 the registers are the first eight of these.
use Rattle.std.proofs.Common.{◌≡◌, ℕ, ◌+◌, ◌*◌, List, None, Option, false, refl, ap, ap₂, ◌∙◌, arith, slice_index, slice_set}
use Rattle.cerco_base.specs.declared.events.Port.{Port}
use Rattle.mcs51_isa.specs.declared.instr.Instr.TheVariants.{ArithDirect, LogicDirect, MovDirectImmediate, MovDirectDirect, MovDirectRegister, MovRegisterDirect, MovDirect}
use Rattle.mcs51_isa.specs.declared.instr.SumOp.{SumOp}
use Rattle.mcs51_isa.specs.declared.instr.Logic.{Logic}
use Rattle.mcs51_isa.specs.declared.instr.Move.TheVariants.{IntoAcc, FromAcc}
use Rattle.mcs51_isa.specs.declared.operands.Reg.{Reg}
use Rattle.mcs51_isa.specs.Operands.{reg_number}
use Rattle.cerco_base.specs.Bytes.{bit_value}
use Rattle.sim51.specs.declared.location.Location.{Location}
use Rattle.sim51.specs.declared.location.Location.TheVariants.{Ram, Latch, Acc, B, Psw, Sp, Dpl, Dph, Other}
use Rattle.sim51.specs.State.{Core}
use Rattle.sim51.specs.Locations.{location_of, held, read_value, after_read, read_event, written, write_event, register_address, register, with_register}
use Rattle.sim51.specs.Effect.{Effect, effect, goes_to, arithmetic, logical}

-- the location is no port
abbrev pub IsQuiet : Location → Type 0
IsQuiet (Latch port) = ⊥
IsQuiet _ = Unit {0}

-- a read there gives what is held, changes nothing and makes no event
read_quietly : (P : Core → ℕ → Option (Port × ℕ) → Type 0) (c : Core) (l : Location) → IsQuiet l → P c (held c l) None → P (after_read c l) (read_value c l) (read_event c l)
read_quietly P c (Ram a) quiet p = p
read_quietly P c (Latch port) quiet p = absurd quiet
read_quietly P c Acc quiet p = p
read_quietly P c B quiet p = p
read_quietly P c Psw quiet p = p
read_quietly P c Sp quiet p = p
read_quietly P c Dpl quiet p = p
read_quietly P c Dph quiet p = p
read_quietly P c (Other a) quiet p = p

-- a write makes none
write_quietly : (l : Location) (byte : ℕ) → IsQuiet l → write_event l byte ≡ None
write_quietly (Ram a) byte quiet = refl
write_quietly (Latch port) byte quiet = absurd quiet
write_quietly Acc byte quiet = refl
write_quietly B byte quiet = refl
write_quietly Psw byte quiet = refl
write_quietly Sp byte quiet = refl
write_quietly Dpl byte quiet = refl
write_quietly Dph byte quiet = refl
write_quietly (Other a) byte quiet = refl

abbrev effect_with : ℕ → Core → Option (Port × ℕ) → Option (Port × ℕ) → Effect
effect_with next c read write = record { core = c; pc = next; read = read; write = write }

-- the instructions with a direct address that names a quiet location: at an address below 80H `location_of-ram` tells which
module _ (code : List ℕ) (next : ℕ) (c : Core) (direct : ℕ) (l : Location) (at : location_of direct ≡ l) (quiet : IsQuiet l) where
  -- an effect that reads this location and makes another core
  reads_quietly : (f : Core → ℕ → Core) → effect_with next (f (after_read c (location_of direct)) (read_value c (location_of direct))) (read_event c (location_of direct)) None ≡ goes_to next (f c (held c l))
  reads_quietly f =
      ap (λ (x : Location). effect_with next (f (after_read c x) (read_value c x)) (read_event c x) None) at
      ∙ read_quietly (λ (d : Core) byte event. effect_with next (f d byte) event None ≡ goes_to next (f c (held c l))) c l quiet refl

  writes_quietly : (byte : ℕ) → effect_with next (written c (location_of direct) byte) None (write_event (location_of direct) byte) ≡ goes_to next (written c l byte)
  writes_quietly byte =
      ap (λ (x : Location). effect_with next (written c x byte) None (write_event x byte)) at
      ∙ ap (λ (event : Option (Port × ℕ)). effect_with next (written c l byte) None event) (write_quietly l byte quiet)

  pub mov_acc_direct : effect code (MovDirect IntoAcc direct) next c ≡ goes_to next (record c { acc = held c l })
  mov_acc_direct = reads_quietly (λ (d : Core) byte. record d { acc = byte })

  pub mov_direct_acc : effect code (MovDirect FromAcc direct) next c ≡ goes_to next (written c l c.acc)
  mov_direct_acc = writes_quietly c.acc

  pub mov_direct_immediate : (byte : ℕ) → effect code (MovDirectImmediate direct byte) next c ≡ goes_to next (written c l byte)
  mov_direct_immediate byte = writes_quietly byte

  pub mov_register_direct : (r : Reg) → effect code (MovRegisterDirect r direct) next c ≡ goes_to next (with_register c r (held c l))
  mov_register_direct r = reads_quietly (λ (d : Core) byte. with_register d r byte)

  pub mov_direct_register : (r : Reg) → effect code (MovDirectRegister direct r) next c ≡ goes_to next (written c l (register c r))
  mov_direct_register r = writes_quietly (register c r)

  pub arith_direct : (op : SumOp) → effect code (ArithDirect op direct) next c ≡ goes_to next (arithmetic op c (held c l))
  arith_direct op = reads_quietly (arithmetic op)

  pub logic_direct : (op : Logic) → effect code (LogicDirect op direct) next c ≡ goes_to next (record c { acc = logical op c.acc (held c l) })
  logic_direct op = reads_quietly (λ (d : Core) byte. record d { acc = logical op c.acc byte })

  -- the target may be another quiet location
  pub mov_direct_direct : (target : ℕ) (m : Location) → location_of target ≡ m → IsQuiet m → effect code (MovDirectDirect direct target) next c ≡ goes_to next (written c m (held c l))
  mov_direct_direct target m there still =
      ap₂ (λ (x y : Location). effect_with next (written (after_read c x) y (read_value c x)) (read_event c x) (write_event y (read_value c x))) at there
      ∙ read_quietly (λ (d : Core) byte event. effect_with next (written d m byte) event (write_event m byte) ≡ goes_to next (written c m (held c l))) c l quiet
      (ap (λ (event : Option (Port × ℕ)). effect_with next (written c m (held c l)) None event) (write_quietly m (held c l) still))

-- in bank 0 the registers are the first bytes of internal RAM
module _ (c : Core) (upper : c.rs1 ≡ false) (lower : c.rs0 ≡ false) (r : Reg) where
  address_bank_0 : register_address c (reg_number r) ≡ reg_number r
  address_bank_0 = ap₂ (λ p q. 8 * (2 * bit_value p + bit_value q) + reg_number r) upper lower ∙ omega arith

  pub register_bank_0 : register c r ≡ slice_index c.iram (reg_number r)
  register_bank_0 = ap (slice_index c.iram) address_bank_0

  pub with_register_bank_0 : (byte : ℕ) → with_register c r byte ≡ record c { iram = slice_set c.iram (reg_number r) byte }
  with_register_bank_0 byte = ap (λ n. record c { iram = slice_set c.iram n byte }) address_bank_0
