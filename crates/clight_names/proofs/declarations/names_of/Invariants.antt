use Rattle.std.proofs.Common.{◌≡◌, map, take}
use Rattle.clight_source.specs.Code.Views.{item_of}
use Rattle.clight_names.specs.Occurrences.{names_from}
use Rattle.clight_names.proofs.declarations.names_of.Given as goal

abbrev pub invariant-loop-item : goal.invariant-loop-item
invariant-loop-item l = l.names.items ≡ names_from 0 (map item_of (take l.item l.x-items))
