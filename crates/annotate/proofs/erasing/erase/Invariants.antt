use Rattle.std.proofs.Common.{length}
use Rattle.cerco_base.proofs.Putting.{SoFar}
use Rattle.annotate.specs.Erasure.{erased}
use Rattle.annotate.proofs.erasing.erase.Given as goal

abbrev pub invariant-loop-cut : goal.invariant-loop-cut
invariant-loop-cut g l = SoFar (g.O.Sink.state l.initial.out) (g.O.Sink.state l.out) (erased l.text) (erased l.rest)

abbrev pub decreases-loop-cut : goal.decreases-loop-cut
decreases-loop-cut g l = length l.rest
