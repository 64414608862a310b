use Rattle.std.proofs.Common.{◌≡◌, ◌++◌}
use Rattle.liveness.specs.Code.Points.{node_points}
use Rattle.liveness.proofs.points.add_points.Given as goal

abbrev pub invariant-loop-k : goal.invariant-loop-k
invariant-loop-k l = l.places.items ≡ l.fn.places.items ++ node_points l.p l.k
