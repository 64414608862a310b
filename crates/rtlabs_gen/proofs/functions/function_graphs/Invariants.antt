use Rattle.std.proofs.Common.{◌≡◌, map, take}
use Rattle.cerco_middle.specs.Code.Views.{function_of, graph_of}
use Rattle.rtlabs_gen.specs.Translation as t
use Rattle.rtlabs_gen.proofs.functions.function_graphs.Given as goal

abbrev pub invariant-loop-function : goal.invariant-loop-function
invariant-loop-function l =
    map graph_of l.graphs.items ≡ map (t.translated_function (map function_of l.functions)) (map function_of (take l.function-index l.functions))
