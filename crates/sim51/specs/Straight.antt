-- Straight-line code: what instructions come to that go on with the next one and neither jump nor read the code (Intel, MCS-51
-- family: instruction set).
use Rattle.std.specs.Prelude.{◌≡◌, ℕ, ◌+◌, ◌%◌, List, [], ◌∷◌, ◌++◌, None}
use Rattle.cerco_base.specs.declared.events.Event.{Event}
use Rattle.mcs51_isa.specs.declared.instr.Instr.{Instr}
use Rattle.mcs51_isa.specs.declared.instr.Instr.TheVariants.{Ajmp, Acall, Long, Ret, BranchBit, BranchFlag, Sjmp, JmpIndirect, Movc, CjneImmediate, CjneDirect, CjneIndirect, CjneRegister, DjnzDirect, DjnzRegister}
use Rattle.mcs51_isa.specs.Table.{cycles_of}
use Rattle.sim51.specs.State.{Core}
use Rattle.sim51.specs.Effect.{effect}
use Rattle.sim51.specs.Step.{size, label_at}
use Rattle.sim51.specs.Placed.{bytes_of}
use Rattle.sim51.specs.Runs.{Running, read_events, write_events}

abbrev pub IsStraight : Instr → Type 0
IsStraight (Ajmp target) = ⊥
IsStraight (Acall target) = ⊥
IsStraight (Long op target) = ⊥
IsStraight (Ret op) = ⊥
IsStraight (BranchBit op bit offset) = ⊥
IsStraight (BranchFlag op offset) = ⊥
IsStraight (Sjmp offset) = ⊥
IsStraight JmpIndirect = ⊥
IsStraight (Movc base) = ⊥
IsStraight (CjneImmediate byte offset) = ⊥
IsStraight (CjneDirect direct offset) = ⊥
IsStraight (CjneIndirect ind byte offset) = ⊥
IsStraight (CjneRegister reg byte offset) = ⊥
IsStraight (DjnzDirect direct offset) = ⊥
IsStraight (DjnzRegister reg offset) = ⊥
IsStraight _ = Unit {0}

abbrev pub AreStraight : List Instr → Type 0
AreStraight [] = Unit {0}
AreStraight (i ∷ is) = IsStraight i × AreStraight is

-- what is held after instructions, one after the other
abbrev pub core_after : List Instr → Core → Core
core_after [] c = c
core_after (i ∷ is) c = core_after is (effect [] i 0 c).core

-- the port events that they make
abbrev pub port_events : List Instr → Core → List Event
port_events [] c = []
port_events (i ∷ is) c = (read_events (effect [] i 0 c).read ++ write_events (effect [] i 0 c).write) ++ port_events is (effect [] i 0 c).core

-- the cycles that they take
abbrev pub cycles_of_instrs : List Instr → ℕ
cycles_of_instrs [] = 0
cycles_of_instrs (i ∷ is) = cycles_of i + cycles_of_instrs is

-- a run after the instructions at its place
abbrev pub ran : List Instr → Running → Running
ran is r =
    record {
      events = r.events ++ port_events is r.state.core;
      state = record {
        core = core_after is r.state.core;
        pc = (r.state.pc + bytes_of is) % 65536;
        cycles = r.state.cycles + cycles_of_instrs is;
      };
    }

-- none of these instructions, the first of which is at this address, has a label
abbrev pub HaveNoLabel : List ℕ → ℕ → List Instr → Type 0
HaveNoLabel labels a [] = Unit {0}
HaveNoLabel labels a (i ∷ is) = (label_at labels a ≡ None) × HaveNoLabel labels (a + size i) is
