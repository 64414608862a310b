use Rattle.annotate.proofs.Digits.{list_all-take_while}
use Rattle.annotate.proofs.reading.leading_number.Goals as goal

pub value_of-requires : goal.value_of-requires
value_of-requires c = rw c.leading_digits-digits.ensures (list_all-take_while c.args.text.now)
