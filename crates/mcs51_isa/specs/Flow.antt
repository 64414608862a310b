-- Where the machine goes on after each instruction (Intel, MCS-51 instruction set).
use Rattle.std.specs.Prelude.{◌≡◌, ℕ, ◌⊎◌}
use Rattle.mcs51_isa.specs.declared.instr.Instr.{Instr}
use Rattle.mcs51_isa.specs.declared.instr.Instr.TheVariants.{Ajmp, Acall, Long, Ret, BranchBit, BranchFlag, Sjmp, JmpIndirect, CjneImmediate, CjneDirect, CjneIndirect, CjneRegister, DjnzDirect, DjnzRegister}
use Rattle.mcs51_isa.specs.Operands.{page_target, relative_target}

-- at an address; at the first of two addresses, or at the second where a conditional jump jumps; at the address on top of the
-- stack; at an address that only the registers tell
pub data Flow : Type 0 where
  On : ℕ → Flow
  Branch : ℕ → ℕ → Flow
  Back : Flow
  Lost : Flow

-- by the address of the next instruction
abbrev pub flow_of : Instr → ℕ → Flow
flow_of (Ajmp target) next = On (page_target next target)
flow_of (Acall target) next = On (page_target next target)
flow_of (Long op target) next = On target
flow_of (Sjmp offset) next = On (relative_target next offset)
flow_of (BranchBit op bit offset) next = Branch next (relative_target next offset)
flow_of (BranchFlag op offset) next = Branch next (relative_target next offset)
flow_of (CjneImmediate byte offset) next = Branch next (relative_target next offset)
flow_of (CjneDirect direct offset) next = Branch next (relative_target next offset)
flow_of (CjneIndirect ind byte offset) next = Branch next (relative_target next offset)
flow_of (CjneRegister reg byte offset) next = Branch next (relative_target next offset)
flow_of (DjnzDirect direct offset) next = Branch next (relative_target next offset)
flow_of (DjnzRegister reg offset) next = Branch next (relative_target next offset)
flow_of (Ret op) next = Back
flow_of JmpIndirect next = Lost
flow_of _ next = On next

-- the address is one of those
abbrev pub LeadsTo : Flow → ℕ → Type 0
LeadsTo (On target) address = address ≡ target
LeadsTo (Branch next target) address = (address ≡ next) ⊎ (address ≡ target)
LeadsTo Back address = Unit {0}
LeadsTo Lost address = Unit {0}
