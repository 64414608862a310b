use Rattle.std.proofs.Common.{length}
use Rattle.annotate.specs.Numbers.{numbers}
use Rattle.annotate.proofs.Seeking.{IsAfter}
use Rattle.annotate.proofs.reading.read_cost.Given as goal

abbrev pub invariant-loop-cut : goal.invariant-loop-cut
invariant-loop-cut l = IsAfter (numbers l.text) (numbers l.rest) l.i l.skipped

abbrev pub decreases-loop-cut : goal.decreases-loop-cut
decreases-loop-cut l = length l.rest
