use Rattle.std.proofs.Common.{◌≡◌, map, take}
use Rattle.rtl.specs.Code.Views.{node_of}
use Rattle.pruned_graphs.specs.Searches.{selected_nodes}
use Rattle.dropping.specs.Code.Selecting.{marked_at}
use Rattle.dropping.proofs.selecting.select_nodes.Given as goal

abbrev pub invariant-loop-p : goal.invariant-loop-p
invariant-loop-p l = map node_of l.list ≡ selected_nodes (marked_at l.points l.marks) (map node_of (take l.p l.graph.nodes))
