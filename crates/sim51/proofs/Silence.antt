-- Which steps show nothing.
use Rattle.std.proofs.Common.{◌≡◌, ℕ, List, Bool, true, false, not, ◌||◌, is_some, ◌%◌, refl}
use Rattle.mcs51_isa.specs.declared.instr.Instr.{Instr}
use Rattle.mcs51_isa.specs.declared.instr.Instr.TheVariants as Kind
use Rattle.mcs51_isa.specs.declared.instr.LongJump.TheVariants.{Ljmp, Lcall}
use Rattle.mcs51_isa.specs.declared.instr.Move.TheVariants.{IntoAcc, FromAcc}
use Rattle.mcs51_isa.specs.declared.instr.StackOp.TheVariants.{Push, Pop}
use Rattle.mcs51_isa.specs.declared.instr.BitTest.TheVariants.{Jbc, Jb, Jnb}
use Rattle.mcs51_isa.specs.Operands.{relative_target}
use Rattle.sim51.specs.declared.location.Location.{Location}
use Rattle.sim51.specs.declared.location.Location.TheVariants.{Latch}
use Rattle.sim51.specs.State.{Core}
use Rattle.sim51.specs.Locations.{location_of, byte_of_bit, bit_of, held, read_event, write_event, raised}
use Rattle.sim51.specs.Effect.{Effect, effect, clears_bit}
use Rattle.sim51.specs.Code.Quiets.{is_port, names_port, leaves_bit}

-- no port is read or written
abbrev pub is_unseen : Effect → Bool
is_unseen e = not (is_some e.read || is_some e.write)

quiet_read : (c : Core) (l : Location) → not (is_some (read_event c l) || false) ≡ (not (is_port l) || false)
quiet_read c (Latch p) = refl
quiet_read c _ = refl

quiet_write : (l : Location) (byte : ℕ) → not (is_some (write_event l byte)) ≡ (not (is_port l) || false)
quiet_write (Latch p) byte = refl
quiet_write _ byte = refl

quiet_exchange : (c : Core) (l : Location) (byte : ℕ) → not (is_some (read_event c l) || is_some (write_event l byte)) ≡ (not (is_port l) || false)
quiet_exchange c (Latch p) byte = refl
quiet_exchange c _ byte = refl

quiet_move : (c : Core) (s t : Location) (byte : ℕ) → not (is_some (read_event c s) || is_some (write_event t byte)) ≡ (not (is_port s || is_port t) || false)
quiet_move c (Latch p) t byte = refl
quiet_move c s (Latch p) byte = other s
  where
    other : (s : Location) → not (is_some (read_event c s) || true) ≡ (not (is_port s || true) || false)
    other (Latch p) = refl
    other _ = refl
quiet_move c _ _ byte = refl

or_true : (b : Bool) → true ≡ (b || true)
or_true true = refl
or_true false = refl

quiet_clear : (bit target next : ℕ) (c : Core) (set : Bool) → is_unseen (clears_bit set bit target next c) ≡ (not (is_port (location_of (byte_of_bit bit))) || not set)
quiet_clear bit target next c true = quiet_write (location_of (byte_of_bit bit)) _
quiet_clear bit target next c false = or_true (not (is_port (location_of (byte_of_bit bit))))

-- an instruction reads and writes no port, if it names none or is a JBC whose bit is 0
pub unseen : (code : List ℕ) (i : Instr) (next : ℕ) (c : Core) → is_unseen (effect code i next c) ≡ (not (names_port i) || leaves_bit i c)
unseen code (Kind.StepDirect op d) next c = quiet_write (location_of d) _
unseen code (Kind.ArithDirect op d) next c = quiet_read c (location_of d)
unseen code (Kind.LogicDirectAcc op d) next c = quiet_write (location_of d) _
unseen code (Kind.LogicDirectImmediate op d k) next c = quiet_write (location_of d) _
unseen code (Kind.LogicDirect op d) next c = quiet_read c (location_of d)
unseen code (Kind.MovDirectImmediate d k) next c = quiet_write (location_of d) _
unseen code (Kind.MovDirectIndirect d i) next c = quiet_write (location_of d) _
unseen code (Kind.MovDirectRegister d r) next c = quiet_write (location_of d) _
unseen code (Kind.MovIndirectDirect i d) next c = quiet_read c (location_of d)
unseen code (Kind.MovRegisterDirect r d) next c = quiet_read c (location_of d)
unseen code (Kind.CjneDirect d o) next c = quiet_read c (location_of d)
unseen code (Kind.Stack Push d) next c = quiet_read (raised c) (location_of d)
unseen code (Kind.Stack Pop d) next c = quiet_write (location_of d) _
unseen code (Kind.XchDirect d) next c = quiet_exchange c (location_of d) _
unseen code (Kind.DjnzDirect d o) next c = quiet_write (location_of d) _
unseen code (Kind.MovDirect IntoAcc d) next c = quiet_read c (location_of d)
unseen code (Kind.MovDirect FromAcc d) next c = quiet_write (location_of d) _
unseen code (Kind.MovDirectDirect s t) next c = quiet_move c (location_of s) (location_of t) _
unseen code (Kind.BranchBit Jbc bit o) next c = quiet_clear bit (relative_target next o) next c (bit_of (held c (location_of (byte_of_bit bit))) (bit % 8))
unseen code (Kind.BranchBit Jb bit o) next c = quiet_read c (location_of (byte_of_bit bit))
unseen code (Kind.BranchBit Jnb bit o) next c = quiet_read c (location_of (byte_of_bit bit))
unseen code (Kind.CarryLogic op bit) next c = quiet_read c (location_of (byte_of_bit bit))
unseen code (Kind.MovBitCarry bit) next c = quiet_write (location_of (byte_of_bit bit)) _
unseen code (Kind.MovCarryBit bit) next c = quiet_read c (location_of (byte_of_bit bit))
unseen code (Kind.ChangeBit op bit) next c = quiet_write (location_of (byte_of_bit bit)) _
unseen code (Kind.Long Ljmp w) next c = refl
unseen code (Kind.Long Lcall w) next c = refl
unseen code (Kind.MovxDptr IntoAcc) next c = refl
unseen code (Kind.MovxDptr FromAcc) next c = refl
unseen code (Kind.MovxIndirect IntoAcc i) next c = refl
unseen code (Kind.MovxIndirect FromAcc i) next c = refl
unseen code (Kind.MovIndirect IntoAcc i) next c = refl
unseen code (Kind.MovIndirect FromAcc i) next c = refl
unseen code (Kind.MovRegister IntoAcc r) next c = refl
unseen code (Kind.MovRegister FromAcc r) next c = refl
unseen code _ next c = refl
