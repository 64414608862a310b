use Rattle.std.proofs.Common.{ℕ, ◌<◌, drop}
use Rattle.std.specs.Prelude.{IsFalse, codes, nat_eq}
use Rattle.std.specs.List.{starts_with}
use Rattle.clight_tokens.proofs.scanner.marker.Given as goal

abbrev pub invariant-loop-at : goal.invariant-loop-at
invariant-loop-at l = (k : ℕ) → k < l.at → IsFalse (starts_with nat_eq (drop k l.text) (codes "/*@"))
