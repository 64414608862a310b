use Rattle.std.proofs.Common.{◌≡◌, ◌++◌, drop, false}
use Rattle.asm51_select.specs.Translation.{plains, loads_code}
use Rattle.asm51_select.proofs.operations.add_loads.Given as goal

abbrev pub invariant-loop-place : goal.invariant-loop-place
invariant-loop-place l = l.asm ++ plains (loads_code l.raised (drop l.place-index l.places)) ≡ l.fn.asm ++ plains (loads_code false l.places)
