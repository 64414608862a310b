use Rattle.std.proofs.Common.{◌≡◌, map, take}
use Rattle.clight_syntax.specs.Code.TypedViews.{variable_of}
use Rattle.cost_labels.proofs.declarations.copy_variables.Given as goal

abbrev pub invariant-loop-x : goal.invariant-loop-x
invariant-loop-x l = map variable_of l.copies.items ≡ map variable_of (take l.x-index l.xs)
