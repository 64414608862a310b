-- One step of the machine (Intel, MCS-51 family). That a jump to itself halts is this project's own: the device would repeat it.
use Rattle.std.specs.Prelude.{◌≡◌, ℕ, ◌+◌, ◌%◌, List, Option, Some, None, Bool, false, if◌then◌else◌, nat_eq, ◌==◌, length, position, option_map}
use Rattle.cerco_base.specs.declared.events.Label.{Label}
use Rattle.mcs51_isa.specs.declared.instr.Instr.{Instr}
use Rattle.mcs51_isa.specs.declared.instr.Instr.TheVariants.{Ajmp, Sjmp, Long}
use Rattle.mcs51_isa.specs.declared.instr.LongJump.TheVariants.{Ljmp, Lcall}
use Rattle.mcs51_isa.specs.Operands.{page_target, relative_target}
use Rattle.mcs51_isa.specs.Table.{encode_of, cycles_of}
use Rattle.mcs51_isa.specs.Decoding.{decode_of}
use Rattle.sim51.specs.declared.events.Events.{Events}
use Rattle.sim51.specs.declared.events.Step.{Step}
use Rattle.sim51.specs.State.{State}
use Rattle.sim51.specs.Effect.{effect, code_at}

-- the instruction at an address, if its first byte isn't the reserved opcode
unfoldable pub instr_at : List ℕ → ℕ → Option Instr
instr_at code a = decode_of (code_at code a) (code_at code (a + 1)) (code_at code (a + 2))

-- the number of bytes of an instruction
abbrev pub size : Instr → ℕ
size i = length (encode_of i)

-- the address of the next instruction
abbrev pub next_address : ℕ → Instr → ℕ
next_address a i = (a + size i) % 65536

-- a jump to itself
abbrev pub halts : Instr → ℕ → Bool
halts (Sjmp o) a = nat_eq (relative_target (next_address a (Sjmp o)) o) a
halts (Long Ljmp w) a = nat_eq w a
halts (Long Lcall w) a = false
halts (Ajmp t) a = nat_eq (page_target (next_address a (Ajmp t)) t) a
halts _ a = false

-- the label that stands at an address
abbrev pub label_at : List ℕ → ℕ → Option Label
label_at labels a = option_map (λ k. record { 0 = k }) (position (λ x. x == a) labels)

-- What a step comes to: the machine has halted, or stands at the reserved opcode, or makes its events and goes on in a state.
pub data Moved : Type 0 where
  Halts : Moved
  Reserved : Moved
  Goes : Events → State → Moved

-- An instruction that goes on: the label at its address comes first, the effect is made, and the cycles rise.
abbrev pub made : List ℕ → List ℕ → Instr → State → Moved
made code labels i s =
    let e = effect code i (next_address s.pc i) s.core in
    let events : Events = record { label = label_at labels s.pc; read = e.read; write = e.write } in
    Goes events (record { core = e.core; pc = e.pc; cycles = s.cycles + cycles_of i })

abbrev pub moved_by : List ℕ → List ℕ → Option Instr → State → Moved
moved_by code labels None s = Reserved
moved_by code labels (Some i) s = if halts i s.pc then Halts else made code labels i s

-- the step over this code, whose labels stand at these addresses
unfoldable pub step : List ℕ → List ℕ → State → Moved
step code labels s = moved_by code labels (instr_at code s.pc) s

-- a step's answer and the state after it, in these words
abbrev pub moved : Step → State → Moved
moved Step.Halted s = Halts
moved Step.Reserved s = Reserved
moved (Step.Went e) s = Goes e s

-- a step that goes nowhere changes nothing
abbrev pub KeepsState : Step → State → State → Type 0
KeepsState Step.Halted old new = new ≡ old
KeepsState Step.Reserved old new = new ≡ old
KeepsState (Step.Went e) old new = Unit {0}
