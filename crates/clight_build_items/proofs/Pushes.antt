-- The rules by which stacks grow.
use Rattle.std.proofs.lemmas.List.{map-append}
use Rattle.clight_build.proofs.Pushes.{views-push, views-nil}

pub ruleset pushes = (map-append, views-push, views-nil)
