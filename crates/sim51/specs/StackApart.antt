-- What an instruction leaves alone that doesn't use the stack, where the stack is the internal RAM from 80H on (Intel, MCS-51
-- family: memory organization; that the stack begins at 80H is this project's own).
use Rattle.std.specs.Prelude.{◌≡◌, ◌≢◌, ℕ, ◌≤◌, length, take, slice_index}
use Rattle.mcs51_isa.specs.declared.instr.Instr.{Instr}
use Rattle.mcs51_isa.specs.declared.instr.Instr.TheVariants.{Acall, Long, Ret, StepDirect, StepIndirect, ArithDirect, ArithIndirect, LogicDirectAcc, LogicDirectImmediate, LogicDirect, LogicIndirect, MovDirectImmediate, MovIndirectImmediate, MovDirectDirect, MovDirectIndirect, MovDirectRegister, MovIndirectDirect, MovRegisterDirect, CjneDirect, CjneIndirect, Stack, XchDirect, XchIndirect, Xchd, DjnzDirect, MovDirect, MovIndirect}
use Rattle.mcs51_isa.specs.declared.instr.LongJump.TheVariants.{Lcall}
use Rattle.sim51.specs.State.{Core}
use Rattle.sim51.specs.Effect.{Effect}

-- all but the stack: the stack pointer as at reset, and internal RAM cut at 80H
abbrev pub low : Core → Core
low c = record c { sp = 7; iram = take 128 c.iram }

abbrev pub low_effect : Effect → Effect
low_effect e = record e { core = low e.core }

-- it neither calls nor returns, pushes nor pops, nor names the stack pointer, nor internal RAM by the address in a register
abbrev pub SparesStack : Instr → Type 0
SparesStack (Acall target) = ⊥
SparesStack (Long Lcall target) = ⊥
SparesStack (Ret op) = ⊥
SparesStack (Stack op direct) = ⊥
SparesStack (StepIndirect op ind) = ⊥
SparesStack (ArithIndirect op ind) = ⊥
SparesStack (LogicIndirect op ind) = ⊥
SparesStack (MovIndirectImmediate ind byte) = ⊥
SparesStack (MovDirectIndirect direct ind) = ⊥
SparesStack (MovIndirectDirect ind direct) = ⊥
SparesStack (CjneIndirect ind byte offset) = ⊥
SparesStack (XchIndirect ind) = ⊥
SparesStack (Xchd ind) = ⊥
SparesStack (MovIndirect op ind) = ⊥
SparesStack (StepDirect op direct) = direct ≢ 0x81
SparesStack (ArithDirect op direct) = direct ≢ 0x81
SparesStack (LogicDirectAcc op direct) = direct ≢ 0x81
SparesStack (LogicDirectImmediate op direct byte) = direct ≢ 0x81
SparesStack (LogicDirect op direct) = direct ≢ 0x81
SparesStack (MovDirectImmediate direct byte) = direct ≢ 0x81
SparesStack (MovDirectDirect source target) = (source ≢ 0x81) × (target ≢ 0x81)
SparesStack (MovDirectRegister direct reg) = direct ≢ 0x81
SparesStack (MovRegisterDirect reg direct) = direct ≢ 0x81
SparesStack (CjneDirect direct offset) = direct ≢ 0x81
SparesStack (XchDirect direct) = direct ≢ 0x81
SparesStack (DjnzDirect direct offset) = direct ≢ 0x81
SparesStack (MovDirect op direct) = direct ≢ 0x81
SparesStack _ = Unit {0}

-- the stack pointer, the number of bytes of internal RAM, and those from 80H on are the same
pub record SameStack (c d : Core) : Type 0 where
  pub sp : d.sp ≡ c.sp
  pub bytes : length d.iram ≡ length c.iram
  pub high : (a : ℕ) → 128 ≤ a → slice_index d.iram a ≡ slice_index c.iram a

-- the open calls are the same: the stack pointer, the number of bytes of internal RAM, and those from 80H up to the stack's top
pub record SameCalls (c d : Core) : Type 0 where
  pub sp : d.sp ≡ c.sp
  pub bytes : length d.iram ≡ length c.iram
  pub stacked : (a : ℕ) → 128 ≤ a → a ≤ c.sp → slice_index d.iram a ≡ slice_index c.iram a
