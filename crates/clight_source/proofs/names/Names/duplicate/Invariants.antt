use Rattle.std.proofs.Common.{◌≡◌, map, take}
use Rattle.clight_source.proofs.names.Names.duplicate.Given as goal

abbrev pub invariant-loop-spelling : goal.invariant-loop-spelling
invariant-loop-spelling l = l.copy ≡ map (λ spelling. spelling.items) (take l.spelling-index l.spelling-items)
