-- What a step does at each address of a code, as the simulator works it out once, and what an instruction of
-- its code comes to.
use Rattle.std.specs.Prelude.{◌≡◌, ℕ, ◌<◌, List, Option, Some, None, if◌then◌else◌, length, slice_get}
use Rattle.cerco_base.specs.declared.events.Label.{Label}
use Rattle.mcs51_isa.specs.declared.instr.Instr.{Instr}
use Rattle.mcs51_isa.specs.Table.{cycles_of}
use Rattle.sim51.specs.declared.slots.Slot.{Slot}
use Rattle.sim51.specs.declared.executed.Executed.{Executed}
use Rattle.sim51.specs.State.{Core}
use Rattle.sim51.specs.Effect.{Effect}
use Rattle.sim51.specs.Step.{instr_at, next_address, halts, label_at}

-- an instruction's effect: what is held after it, and the rest
abbrev pub effect_of : Core → Executed → Effect
effect_of c x = record { core = c; pc = x.pc; read = x.read; write = x.write }

-- what a step does at an address
abbrev pub slot_by : Option Instr → Option Label → ℕ → Slot
slot_by None label a = Slot.Reserved
slot_by (Some i) label a =
    if halts i a then Slot.Halt
    else Slot.Runs (record { instr = i; next = next_address a i; cycles = cycles_of i; label = label })

abbrev pub slot_of : List ℕ → List ℕ → ℕ → Slot
slot_of code labels a = slot_by (instr_at code a) (label_at labels a) a

-- these are the slots of all addresses
pub record AreSlots (code labels : List ℕ) (slots : List Slot) : Type 0 where
  pub count : length slots ≡ 65536
  pub each : (a : ℕ) → a < 65536 → slice_get slots a ≡ Some (slot_of code labels a)
