use Rattle.annotate.proofs.Digits.{AreDigitsUpTo}
use Rattle.annotate.proofs.reading.leading_digits.Given as goal

abbrev pub invariant-loop-at : goal.invariant-loop-at
invariant-loop-at l = AreDigitsUpTo l.text l.at
