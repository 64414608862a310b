-- The nodes that are still to be pushed are those that are left.
use Rattle.std.proofs.Common.{◌≡◌, ◌++◌, drop}
use Rattle.std.specs.Prelude.{map}
use Rattle.cerco_middle.specs.Code.Views.{graph_of}
use Rattle.rtl.specs.Code.Views.{node_of}
use Rattle.byte_sequences.specs.Words.{vreg}
use Rattle.rtl_gen.specs.Translation as spec
use Rattle.rtl_gen.proofs.graphs.push_nodes.Given as goal

abbrev pub invariant-loop-at : goal.invariant-loop-at
invariant-loop-at l =
    map node_of l.nodes ++ spec.nodes_from vreg (graph_of l.function) l.new l.at (drop l.at l.function.nodes.items)
    ≡ map node_of l.initial.nodes ++ spec.nodes_from vreg (graph_of l.function) l.new 0 l.function.nodes.items
