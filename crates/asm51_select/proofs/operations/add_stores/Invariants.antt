use Rattle.std.proofs.Common.{◌≡◌, ◌++◌, drop, false}
use Rattle.asm51_select.specs.Translation.{plains, stores_code}
use Rattle.asm51_select.proofs.operations.add_stores.Given as goal

abbrev pub invariant-loop-place : goal.invariant-loop-place
invariant-loop-place l = l.asm ++ plains (stores_code l.raised (drop l.place-index l.places)) ≡ l.fn.asm ++ plains (stores_code false l.places)
