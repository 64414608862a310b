use Rattle.annotate.proofs.Digits.{value_more}
use Rattle.annotate.proofs.reading.value_of.Goals as goal

pub loop-digit-preserved : goal.loop-digit-preserved
loop-digit-preserved c =
    rw (c.min-value.ensures, c.from.ensures)
    (value_more c.args.digits.now c.loop-digit.digit-index c.loop-digit.value c.loop-digit-test.true c.requires c.loop-digit.invariant)
