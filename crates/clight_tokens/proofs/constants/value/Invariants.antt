use Rattle.clight_tokens.proofs.Values.{Reads}
use Rattle.clight_tokens.proofs.constants.value.Given as goal

abbrev pub invariant-loop-b : goal.invariant-loop-b
invariant-loop-b l = Reads l.fn.radix l.digits l.b-index l.value
