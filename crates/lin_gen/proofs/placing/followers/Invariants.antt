use Rattle.rtl.specs.Code.Views.{graph_of}
use Rattle.lin_gen.proofs.PlacingSteps.{Seen}
use Rattle.lin_gen.proofs.placing.followers.Given as goal

abbrev pub invariant-loop-p : goal.invariant-loop-p
invariant-loop-p l = Seen (graph_of l.graph) l.marks.items l.p
