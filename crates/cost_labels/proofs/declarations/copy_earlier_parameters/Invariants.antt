use Rattle.std.proofs.Common.{◌≡◌, map, take}
use Rattle.clight_source.specs.Code.Views.{earlier_parameter_of}
use Rattle.cost_labels.proofs.declarations.copy_earlier_parameters.Given as goal

abbrev pub invariant-loop-x : goal.invariant-loop-x
invariant-loop-x l = map earlier_parameter_of l.copies.items ≡ map earlier_parameter_of (take l.x-index l.xs)
