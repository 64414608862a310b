use Rattle.std.proofs.Common.{◌≡◌, map, take}
use Rattle.rtl.specs.Graphs.{renamed_node}
use Rattle.rtl.specs.Code.Views.{node_of}
use Rattle.byte_renaming.proofs.rename_nodes.Given as goal

abbrev pub invariant-loop-node : goal.invariant-loop-node
invariant-loop-node g l = map node_of l.renamed ≡ map (renamed_node (g.N.Naming.named l.names)) (map node_of (take l.node-index l.nodes))
