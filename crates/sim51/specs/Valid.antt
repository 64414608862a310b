-- The states that a machine can be in (Intel, MCS-51 family: memory organization): each register and each place of a memory holds a
-- byte, and an address of the code has 16 bits.
use Rattle.std.specs.Prelude.{◌≡◌, ℕ, ◌<◌, List, length, All}
use Rattle.std.specs.List.{AllByRecursion}
use Rattle.cerco_base.specs.Events.{IsScript}
use Rattle.mcs51_isa.specs.declared.instr.Instr.{Instr}
use Rattle.mcs51_isa.specs.Table.{encode_of}
use Rattle.sim51.specs.State.{Core, State}

abbrev pub IsByte : ℕ → Type 0
IsByte byte = byte < 256

-- a memory of this many bytes
abbrev pub IsMemory : ℕ → List ℕ → Type 0
IsMemory size bytes = (length bytes ≡ size) × All IsByte bytes

-- the accumulator, B, the stack pointer and the data pointer; internal RAM, the latches of the ports, the other special registers,
-- external RAM, and the script
abbrev pub IsValid : Core → Type 0
IsValid c =
    (IsByte c.acc × IsByte c.b × IsByte c.sp × IsByte c.dpl × IsByte c.dph)
    × IsMemory 256 c.iram × IsMemory 4 c.ports × IsMemory 128 c.rest × IsMemory 65536 c.xram × IsScript c.script

abbrev pub IsValidState : State → Type 0
IsValidState s = (s.pc < 65536) × IsValid s.core

-- the operands of an instruction are bytes and 16-bit addresses
abbrev pub IsEncodable : Instr → Type 0
IsEncodable i = AllByRecursion IsByte (encode_of i)
