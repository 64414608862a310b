use Rattle.std.proofs.Common.{◌≡◌, map, take}
use Rattle.liveness.specs.Code.Points.{front}
use Rattle.liveness.proofs.flow.fronts.Given as goal

abbrev pub invariant-loop-q : goal.invariant-loop-q
invariant-loop-q l = l.list.items ≡ map (front l.points) (take l.q-index l.nodes)
