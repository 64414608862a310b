use Rattle.std.proofs.Common.{◌≡◌, ◌++◌, map, take}
use Rattle.std.specs.List.{flat_map}
use Rattle.clight_source.specs.Code.Views.{local_of}
use Rattle.clight_names.specs.Occurrences.{local_names}
use Rattle.clight_names.proofs.declarations.add_locals.Given as goal

abbrev pub invariant-loop-local : goal.invariant-loop-local
invariant-loop-local l = l.names.items ≡ l.initial.names.items ++ flat_map (local_names l.item) (map local_of (take l.local-index l.locals))
