use Rattle.std.proofs.Common.{map, take}
use Rattle.rtl.specs.Code.Views.{graph_of, item_of}
use Rattle.lin_gen.specs.Linearised.{AreOrderings}
use Rattle.lin_gen.proofs.programs.linearise_all.Given as goal

abbrev pub invariant-loop-graph : goal.invariant-loop-graph
invariant-loop-graph l = AreOrderings (map graph_of (take l.graph-index l.graphs)) (map (map item_of) l.lins)
