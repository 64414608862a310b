use Rattle.std.proofs.Common.{◌≡◌, ◌-◌, ◌≤◌, length, drop}
use Rattle.clight_tokens.specs.Tokens.{first_pair}
use Rattle.clight_tokens.specs.Code.Views.{test_of}
use Rattle.clight_tokens.proofs.Places.{shifted}
use Rattle.clight_tokens.proofs.lexemes.find_pair.Given as goal

abbrev pub invariant-loop-at : goal.invariant-loop-at
invariant-loop-at l = record {
  behind : l.from ≤ l.at;
  within : l.at ≤ length l.rest;
  same : first_pair (test_of l.pair) (drop l.from l.rest) ≡ shifted (l.at - l.from) (first_pair (test_of l.pair) (drop l.at l.rest));
}

abbrev pub decreases-loop-at : goal.decreases-loop-at
decreases-loop-at l = length l.rest - l.at
