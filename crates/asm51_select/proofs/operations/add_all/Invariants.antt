use Rattle.std.proofs.Common.{◌≡◌, ◌++◌, take}
use Rattle.asm51_select.specs.Translation.{plains}
use Rattle.asm51_select.proofs.operations.add_all.Given as goal

abbrev pub invariant-loop-instr : goal.invariant-loop-instr
invariant-loop-instr l = l.asm ≡ l.fn.asm ++ plains (take l.instr-index l.instrs)
