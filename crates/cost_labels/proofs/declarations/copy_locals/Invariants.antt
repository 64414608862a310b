use Rattle.std.proofs.Common.{◌≡◌, map, take}
use Rattle.clight_syntax.specs.Code.TypedViews.{local_of}
use Rattle.cost_labels.proofs.declarations.copy_locals.Given as goal

abbrev pub invariant-loop-x : goal.invariant-loop-x
invariant-loop-x l = map local_of l.copies.items ≡ map local_of (take l.x-index l.xs)
