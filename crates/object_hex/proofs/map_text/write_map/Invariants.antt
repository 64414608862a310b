use Rattle.cerco_base.proofs.Putting.{SoFar}
use Rattle.object_hex.specs.MapText.{map_text}
use Rattle.object_hex.proofs.Loops.{labels_from}
use Rattle.object_hex.proofs.map_text.write_map.Given as goal

abbrev pub invariant-loop-label : goal.invariant-loop-label
invariant-loop-label g l = SoFar (g.O.Sink.state l.initial.out) (g.O.Sink.state l.out) (map_text l.labels) (labels_from l.label l.labels)
