use Rattle.std.proofs.Common.{ℕ, List, ◌-◌, ◌≤◌, ◌++◌, length, drop, map}
use Rattle.clight_tokens.specs.Tokens.{Token, TokensFrom, FaultFrom}
use Rattle.clight_tokens.specs.Code.TokenViews.{token_of}
use Rattle.clight_tokens.proofs.scanner.scan.Given as goal

abbrev pub invariant-loop-at : goal.invariant-loop-at
invariant-loop-at l = record {
  within : l.at ≤ length l.text;
  so_far : (more : List Token) → TokensFrom l.at (drop l.at l.text) more → TokensFrom 0 l.text (map token_of l.all.items ++ more);
  faults : (q : ℕ) → FaultFrom l.at (drop l.at l.text) q → FaultFrom 0 l.text q;
}

abbrev pub decreases-loop-at : goal.decreases-loop-at
decreases-loop-at l = length l.text - l.at
