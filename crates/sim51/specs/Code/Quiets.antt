-- Which instructions show nothing, as the simulator works it out once for a code.
use Rattle.std.specs.Prelude.{◌≡◌, ℕ, ◌<◌, ◌%◌, List, map, Option, Some, None, Bool, true, false, if◌then◌else◌, not, ◌&&◌, ◌||◌, is_some}
use Rattle.mcs51_isa.specs.declared.instr.Instr.{Instr}
use Rattle.mcs51_isa.specs.declared.instr.Instr.TheVariants.{StepDirect, ArithDirect, LogicDirectAcc, LogicDirectImmediate, LogicDirect, MovDirectImmediate, MovDirectIndirect, MovDirectRegister, MovIndirectDirect, MovRegisterDirect, CjneDirect, Stack, XchDirect, DjnzDirect, MovDirect, MovDirectDirect, BranchBit, CarryLogic, MovBitCarry, MovCarryBit, ChangeBit}
use Rattle.mcs51_isa.specs.declared.instr.BitTest.TheVariants.{Jbc}
use Rattle.sim51.specs.declared.location.Location.{Location}
use Rattle.sim51.specs.declared.location.Location.TheVariants.{Latch}
use Rattle.sim51.specs.declared.slots.Slot.{Slot}
use Rattle.sim51.specs.declared.slots.Planned.{Planned}
use Rattle.sim51.specs.declared.quiet.Quiet.{Quiet}
use Rattle.sim51.specs.State.{Core, State}
use Rattle.sim51.specs.Step.{Goes, step}
use Rattle.sim51.specs.Skips.{no_events, is_silent}
use Rattle.sim51.specs.Code.Slots.{AreSlots}
use Rattle.sim51.specs.Locations.{bit_of, location_of, byte_of_bit, held}

abbrev pub is_port : Location → Bool
is_port (Latch p) = true
is_port l = false

-- whether an instruction names a port, by a direct address or a bit address
abbrev pub names_port : Instr → Bool
names_port (StepDirect op d) = is_port (location_of d)
names_port (ArithDirect op d) = is_port (location_of d)
names_port (LogicDirectAcc op d) = is_port (location_of d)
names_port (LogicDirectImmediate op d k) = is_port (location_of d)
names_port (LogicDirect op d) = is_port (location_of d)
names_port (MovDirectImmediate d k) = is_port (location_of d)
names_port (MovDirectIndirect d i) = is_port (location_of d)
names_port (MovDirectRegister d r) = is_port (location_of d)
names_port (MovIndirectDirect i d) = is_port (location_of d)
names_port (MovRegisterDirect r d) = is_port (location_of d)
names_port (CjneDirect d o) = is_port (location_of d)
names_port (Stack op d) = is_port (location_of d)
names_port (XchDirect d) = is_port (location_of d)
names_port (DjnzDirect d o) = is_port (location_of d)
names_port (MovDirect op d) = is_port (location_of d)
names_port (MovDirectDirect s t) = is_port (location_of s) || is_port (location_of t)
names_port (BranchBit op bit o) = is_port (location_of (byte_of_bit bit))
names_port (CarryLogic op bit) = is_port (location_of (byte_of_bit bit))
names_port (MovBitCarry bit) = is_port (location_of (byte_of_bit bit))
names_port (MovCarryBit bit) = is_port (location_of (byte_of_bit bit))
names_port (ChangeBit op bit) = is_port (location_of (byte_of_bit bit))
names_port _ = false

-- whether it is a JBC whose bit is 0, which writes nothing
abbrev pub leaves_bit : Instr → Core → Bool
leaves_bit (BranchBit Jbc bit o) c = not (bit_of (held c (location_of (byte_of_bit bit))) (bit % 8))
leaves_bit _ c = false

-- whether it would show nothing
abbrev pub is_silent_planned : Planned → Core → Bool
is_silent_planned p c = not (is_some p.label) && (not (names_port p.instr) || leaves_bit p.instr c)

abbrev pub quiet_by : Planned → Quiet
quiet_by p = record { instr = p.instr; next = p.next; cycles = p.cycles }

abbrev pub is_quiet : Planned → Bool
is_quiet p = not (is_some p.label) && not (names_port p.instr)

-- the instruction of a slot, if it shows nothing wherever it is made
abbrev pub quiet_of : Slot → Option Quiet
quiet_of (Slot.Runs p) = if is_quiet p then Some (quiet_by p) else None
quiet_of Slot.Halt = None
quiet_of Slot.Reserved = None

-- the slots of all addresses, and the instructions of these that show nothing
pub record AreTables (code labels : List ℕ) (slots : List Slot) (quiets : List (Option Quiet)) : Type 0 where
  pub slots_are : AreSlots code labels slots
  pub quiets_are : quiets ≡ map quiet_of slots

-- a step was made, if it makes no event and the cycles are below the limit
abbrev pub MakesSilent : List ℕ → List ℕ → ℕ → State → State → Bool → Type 0
MakesSilent code labels limit s t true = (s.cycles < limit) × (step code labels s ≡ Goes no_events t)
MakesSilent code labels limit s t false = (s ≡ t) × (s.cycles < limit → is_silent (step code labels s) ≡ false)
