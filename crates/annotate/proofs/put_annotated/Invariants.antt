use Rattle.annotate.proofs.Progress.{IsPutUpTo}
use Rattle.annotate.proofs.put_annotated.Given as goal

abbrev pub invariant-loop-point : goal.invariant-loop-point
invariant-loop-point g l =
    IsPutUpTo (g.O.Sink.state l.initial.out) (g.O.Sink.state l.out) l.source l.points (record { start = l.start; labels = l.costs }) l.point-index l.from
