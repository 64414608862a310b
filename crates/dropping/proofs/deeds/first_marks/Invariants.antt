use Rattle.std.proofs.Common.{◌≡◌, map, take}
use Rattle.liveness.specs.declared.points.Point.{Point}
use Rattle.liveness.specs.Code.Views.{numbered_graph}
use Rattle.liveness.specs.Code.Points.{left}
use Rattle.dropping.specs.Code.Marks.{begins}
use Rattle.dropping.proofs.deeds.first_marks.Given as goal

abbrev pub invariant-loop-point : goal.invariant-loop-point
invariant-loop-point l = l.marks.items ≡ map (λ (point : Point). begins (left (numbered_graph l.graph) point)) (take l.point-index l.points.places.items)
