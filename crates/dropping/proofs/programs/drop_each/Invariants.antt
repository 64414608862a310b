use Rattle.std.proofs.Common.{map, take}
use Rattle.rtl.specs.Code.Views.{graph_of}
use Rattle.pruned_graphs.specs.Pruning.{ArePruned}
use Rattle.dropping.proofs.programs.drop_each.Given as goal

abbrev pub invariant-loop-graph : goal.invariant-loop-graph
invariant-loop-graph l = ArePruned (map graph_of (take l.graph-index l.graphs)) (map graph_of l.pruned)
