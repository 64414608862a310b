-- The rule of an argument that is given its number of values.
use Rattle.std.proofs.Common.{◌≡◌, ◌∙◌, ap, Option, Some, None, IsSomeAnd}
use Rattle.clap.specs.Words.{rule_of}
use Rattle.clap.specs.declared.builder.arg.Arg.{Arg}
use Rattle.clap.specs.declared.builder.range.ValueRange.{ValueRange}

some_is : (o : Option ValueRange) (range : ValueRange) → IsSomeAnd o (λ r. r ≡ range) → o ≡ Some range
some_is None range h = absurd h
some_is (Some r) range h = ap Some h

pub ranged : (a b : Arg) (range : ValueRange) → b ≡ record a { num_vals = b.num_vals } → IsSomeAnd b.num_vals (λ r. r ≡ range) → rule_of b ≡ record (rule_of a) { range = Some range }
ranged a b range same is = ap rule_of same ∙ ap (λ o. record (rule_of a) { range = o }) (some_is b.num_vals range is)
