use Rattle.std.proofs.Common.{drop}
use Rattle.annotate.specs.Numbers.{numbers_in}
use Rattle.annotate.proofs.Seeking.{IsAfter}
use Rattle.annotate.proofs.reading.seek.Given as goal

abbrev pub invariant-loop-at : goal.invariant-loop-at
invariant-loop-at l = IsAfter (numbers_in l.annotation) (numbers_in (drop l.at l.annotation)) l.skipped l.left
