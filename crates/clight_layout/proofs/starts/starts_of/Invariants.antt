use Rattle.std.proofs.Common.{◌≡◌, ◌+◌, map, take}
use Rattle.clight_layout.proofs.starts.starts_of.Given as goal

abbrev pub invariant-loop-bytes : goal.invariant-loop-bytes
invariant-loop-bytes l = l.starts.items ≡ map (λ n. 1 + l.globals + n) (take l.bytes-index l.before)
