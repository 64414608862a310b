use Rattle.std.proofs.Common.{◌≡◌, ◌++◌}
use Rattle.asm51.specs.Emission.{code_of}
use Rattle.jump_expand.specs.Code.Emission.{rest_of_code}
use Rattle.jump_expand.proofs.emission.emit_code.Given as goal

abbrev pub invariant-loop-k : goal.invariant-loop-k
invariant-loop-k l = l.code ++ rest_of_code l.items l.layout.forms l.k ≡ code_of l.items l.layout.forms
