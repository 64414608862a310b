use Rattle.text_answers.proofs.Reading as reading
use Rattle.text_answers.proofs.trees_are_decided.Goals as goal

pub returns : goal.returns
returns c = reading.trees_are_decided
