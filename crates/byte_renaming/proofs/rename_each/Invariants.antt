use Rattle.std.proofs.Common.{◌≡◌, map, take}
use Rattle.byte_renaming.proofs.rename_each.Given as goal

abbrev pub invariant-loop-location : goal.invariant-loop-location
invariant-loop-location g l = l.renamed.items ≡ map (g.N.Naming.named l.names) (take l.location-index l.locations)
