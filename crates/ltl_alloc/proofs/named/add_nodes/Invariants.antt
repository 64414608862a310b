use Rattle.std.proofs.Common.{◌≡◌, ◌++◌, map, take}
use Rattle.rtl.specs.WellFormed.{gathered, node_locations}
use Rattle.rtl.specs.Code.Views.{node_of}
use Rattle.ltl_alloc.proofs.named.add_nodes.Given as goal

abbrev pub invariant-loop-node : goal.invariant-loop-node
invariant-loop-node l = l.list.items ≡ l.fn.list.items ++ gathered node_locations (map node_of (take l.node-index l.nodes))
