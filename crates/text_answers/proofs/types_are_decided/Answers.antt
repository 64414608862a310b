use Rattle.text_answers.proofs.Reading as reading
use Rattle.text_answers.proofs.types_are_decided.Goals as goal

pub returns : goal.returns
returns c = reading.types_are_decided
