-- The instructions that an item of an assembly program stands for in each form (Intel, MCS-51 family: SJMP, AJMP, LJMP, LCALL, JNZ; that a
-- far test is a JNZ over an SJMP to an LJMP, so that it costs the same whichever way it goes, is this project's own).
use Rattle.std.specs.Prelude.{ℕ, ◌+◌, List, [], ◌∷◌, Option, Some}
use Rattle.mcs51_isa.specs.declared.instr.Instr.{Instr}
use Rattle.mcs51_isa.specs.declared.instr.Instr.TheVariants.{Sjmp, Ajmp, Long, BranchFlag}
use Rattle.mcs51_isa.specs.declared.instr.LongJump.TheVariants.{Ljmp, Lcall}
use Rattle.mcs51_isa.specs.declared.instr.FlagTest.TheVariants.{Jnz}
use Rattle.mcs51_isa.specs.Offsets.{offset_to}
use Rattle.mcs51_isa.specs.Operands.{addr11_of}
use Rattle.sim51.specs.Placed.{bytes_of}
use Rattle.asm51.specs.declared.items.AsmItem.{AsmItem}
use Rattle.asm51.specs.declared.items.AsmItem.TheVariants.{Plain, Jump, Test, Call}
use Rattle.asm51.specs.declared.layouts.Form.{Form}

-- the instructions of an item that stands at an address and leads to another; a jump or a test without a form has the long one
abbrev pub instructions : ℕ → ℕ → AsmItem → Option Form → List Instr
instructions at target (Plain i) form = i ∷ []
instructions at target (Jump f n) (Some Form.Short) = Sjmp (offset_to (at + 2) target) ∷ []
instructions at target (Jump f n) (Some Form.Page) = Ajmp (addr11_of target) ∷ []
instructions at target (Jump f n) form = Long Ljmp target ∷ []
instructions at target (Test f n) (Some Form.Short) = BranchFlag Jnz (offset_to (at + 2) target) ∷ []
instructions at target (Test f n) form = BranchFlag Jnz 2 ∷ Sjmp 3 ∷ Long Ljmp target ∷ []
instructions at target (Call f) form = Long Lcall target ∷ []
instructions at target item form = []

-- the number of bytes of an item, which its addresses don't change
abbrev pub item_size : AsmItem → Option Form → ℕ
item_size item form = bytes_of (instructions 0 0 item form)
