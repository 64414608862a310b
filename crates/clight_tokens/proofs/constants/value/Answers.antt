use Rattle.std.proofs.Common.{rules}
use Rattle.clight_tokens.proofs.Values.{next_value, large_value, ends}
use Rattle.clight_tokens.proofs.constants.value.Goals as goal

pub loop-b-preserved : goal.loop-b-preserved
loop-b-preserved c =
    next_value c.args.radix c.args.digits.now c.loop-b.b-index c.loop-b.value _ _ c.loop-b-test.true c.loop-b.invariant c.base-base.ensures.value c.digit_value-digit.ensures.value
    c.if-digit-base.false c.if-value-gt-LARGEST.false

pub returns-then-value-gt-LARGEST : goal.returns-then-value-gt-LARGEST
returns-then-value-gt-LARGEST c =
    large_value c.args.radix c.args.digits.now c.loop-b.b-index c.loop-b.value _ _ c.loop-b-test.true c.loop-b.invariant c.base-base.ensures.value c.digit_value-digit.ensures.value
    c.if-value-gt-LARGEST.true

pub returns : goal.returns
returns c = ends c.args.radix c.args.digits.now c.loop-b.b-index c.loop-b.value (search rules) c.loop-b-test.false c.loop-b.invariant
