use Rattle.std.proofs.Common.{◌≡◌, ◌++◌, map}
use Rattle.std.specs.List.{flat_map}
use Rattle.clight_syntax.specs.Code.TypedViews.{function_of}
use Rattle.clight_syntax.specs.Labelling.{function_without, function_points}
use Rattle.cost_labels.proofs.functions.label_functions.Given as goal

abbrev pub invariant-loop-function : goal.invariant-loop-function
invariant-loop-function l =
    (map function_without (map function_of l.labelled.items) ≡ map function_of l.yielded)
    × (l.marker.points ≡ l.initial.marker.points ++ flat_map function_points (map function_of l.labelled.items))
