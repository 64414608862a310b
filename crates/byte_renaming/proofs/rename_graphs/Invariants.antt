use Rattle.std.proofs.Common.{◌≡◌, map, take}
use Rattle.rtl.specs.Graphs.{renamed_graph}
use Rattle.rtl.specs.Code.Views.{graph_of}
use Rattle.byte_renaming.proofs.rename_graphs.Given as goal

abbrev pub invariant-loop-graph : goal.invariant-loop-graph
invariant-loop-graph g l = map graph_of l.renamed ≡ map (renamed_graph (g.N.Naming.named l.names)) (map graph_of (take l.graph-index l.graphs))
