use Rattle.text_answers.proofs.Reading as reading
use Rattle.text_answers.proofs.texts_are_decided.Goals as goal

pub returns : goal.returns
returns c = reading.texts_are_decided
