use Rattle.std.proofs.Common.{◌≡◌, map, take}
use Rattle.clight_syntax.specs.Code.TypedViews.{earlier_argument_of}
use Rattle.cost_labels.proofs.copies.copy_earlier_arguments.Given as goal

abbrev pub invariant-loop-x : goal.invariant-loop-x
invariant-loop-x l = map earlier_argument_of l.copies.items ≡ map earlier_argument_of (take l.x-index l.xs)
