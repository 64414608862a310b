use Rattle.annotate.proofs.Splitting.{IsUnmarkedUpTo}
use Rattle.annotate.proofs.cuts.split_at_mark.Given as goal

abbrev pub invariant-loop-at : goal.invariant-loop-at
invariant-loop-at l = IsUnmarkedUpTo l.text l.at
