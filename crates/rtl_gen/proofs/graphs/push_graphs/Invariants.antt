-- The graphs of the functions so far were pushed.
use Rattle.std.proofs.Common.{◌≡◌, ◌++◌, take}
use Rattle.std.specs.Prelude.{map}
use Rattle.cerco_middle.specs.Code.Views.{graph_of as labs_graph}
use Rattle.rtl.specs.Code.Views.{graph_of}
use Rattle.byte_sequences.specs.Words.{vreg}
use Rattle.rtl_gen.specs.Translation as spec
use Rattle.rtl_gen.proofs.graphs.push_graphs.Given as goal

abbrev pub invariant-loop-function : goal.invariant-loop-function
invariant-loop-function l =
    map graph_of l.graphs ≡ map graph_of l.initial.graphs ++ map (spec.translated_function vreg) (map labs_graph (take l.function-index l.functions))
