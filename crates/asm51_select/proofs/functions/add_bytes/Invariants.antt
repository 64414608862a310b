use Rattle.std.proofs.Common.{◌≡◌, ◌++◌, drop}
use Rattle.rtl.specs.WellFormed.{gathered}
use Rattle.asm51_select.specs.Translation.{plains, byte_code}
use Rattle.asm51_select.proofs.functions.add_bytes.Given as goal

abbrev pub invariant-loop-address : goal.invariant-loop-address
invariant-loop-address l = l.asm ++ plains (gathered byte_code (drop l.address-index l.bytes)) ≡ l.fn.asm ++ plains (gathered byte_code l.bytes)
