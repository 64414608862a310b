-- The registers and memories of an MCS-51 (Intel, MCS-51 family: memory organization and special function registers) and their
-- values at reset.
use Rattle.std.specs.Prelude.{ℕ, List, Bool, false, replicate}

-- All that a machine holds besides its program counter and its cycles: 256 bytes of internal RAM, as on the 8052; the accumulator, B,
-- the stack pointer and the two bytes of the data pointer; the bits of the program status word, of which the parity isn't held, since
-- it is that of the accumulator; the latches of the four ports; the other special registers, by their addresses less 128; 65,536
-- bytes of external RAM; and the bytes that the pins of ports have still to show.
pub record Core : Type 0 where
  pub iram : List ℕ
  pub acc : ℕ
  pub b : ℕ
  pub sp : ℕ
  pub dpl : ℕ
  pub dph : ℕ
  pub cy : Bool
  pub ac : Bool
  pub f0 : Bool
  pub rs1 : Bool
  pub rs0 : Bool
  pub ov : Bool
  pub user : Bool
  pub ports : List ℕ
  pub rest : List ℕ
  pub xram : List ℕ
  pub script : List ℕ

-- A machine's state: what it holds, its program counter, and the machine cycles that it has run.
pub record State : Type 0 where
  pub core : Core
  pub pc : ℕ
  pub cycles : ℕ

-- At reset the stack pointer is 7 and the latches of the ports are FFH; all else is 0, memories too.
abbrev pub reset_core : List ℕ → Core
reset_core script =
    record {
      iram = replicate 256 0;
      acc = 0;
      b = 0;
      sp = 7;
      dpl = 0;
      dph = 0;
      cy = false;
      ac = false;
      f0 = false;
      rs1 = false;
      rs0 = false;
      ov = false;
      user = false;
      ports = replicate 4 255;
      rest = replicate 128 0;
      xram = replicate 65536 0;
      script = script;
    }

abbrev pub reset : List ℕ → State
reset script = record { core = reset_core script; pc = 0; cycles = 0 }

-- a machine with its code, the addresses of its labels, and its state
pub record LoadedMachine : Type 0 where
  pub code : List ℕ
  pub labels : List ℕ
  pub state : State
