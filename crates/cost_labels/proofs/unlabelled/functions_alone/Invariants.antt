use Rattle.std.proofs.Common.{◌≡◌, map, take}
use Rattle.clight_syntax.specs.Code.TypedViews.{function_of}
use Rattle.clight_syntax.specs.Labelling.{function_without}
use Rattle.cost_labels.proofs.unlabelled.functions_alone.Given as goal

abbrev pub invariant-loop-function : goal.invariant-loop-function
invariant-loop-function l = map function_of l.copies.items ≡ map function_without (map function_of (take l.function-index l.functions))
