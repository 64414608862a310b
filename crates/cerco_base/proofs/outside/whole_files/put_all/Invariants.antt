use Rattle.std.proofs.Common.{length}
use Rattle.cerco_base.proofs.Putting.{SoFar}
use Rattle.cerco_base.proofs.outside.whole_files.put_all.Given as goal

abbrev pub invariant-loop-rest : goal.invariant-loop-rest
invariant-loop-rest g l = SoFar (g.O.Sink.state l.initial.out) (g.O.Sink.state l.out) l.bytes l.rest

abbrev pub decreases-loop-rest : goal.decreases-loop-rest
decreases-loop-rest g l = length l.rest
