use Rattle.liveness.specs.Code.Views.{numbered_graph}
use Rattle.liveness.specs.Code.Points.{ArePoints}
use Rattle.liveness.proofs.points.points_of.Given as goal

abbrev pub invariant-loop-p : goal.invariant-loop-p
invariant-loop-p l = ArePoints (numbered_graph l.graph) l.p l.points
