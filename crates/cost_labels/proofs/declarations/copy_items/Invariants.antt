use Rattle.std.proofs.Common.{◌≡◌, map, take}
use Rattle.clight_syntax.specs.Code.TypedViews.{item_of}
use Rattle.cost_labels.proofs.declarations.copy_items.Given as goal

abbrev pub invariant-loop-x : goal.invariant-loop-x
invariant-loop-x l = map item_of l.copies.items ≡ map item_of (take l.x-index l.xs)
