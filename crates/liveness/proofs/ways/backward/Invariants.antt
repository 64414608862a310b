use Rattle.std.proofs.Common.{◌≡◌, length}
use Rattle.cerco_traces.specs.LabelledGraphs.{In}
use Rattle.liveness.specs.Code.Rows.{ways_of, AreTurned}
use Rattle.liveness.proofs.ways.backward.Given as goal

abbrev pub invariant-loop-i : goal.invariant-loop-i
invariant-loop-i l = record {
  long : length l.back.items ≡ length l.ways;
  turned : AreTurned (λ y x. In x (ways_of l.ways y)) l.i (ways_of l.back.items);
}
