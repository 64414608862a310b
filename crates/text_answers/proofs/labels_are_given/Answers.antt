use Rattle.text_answers.proofs.Labels as labels
use Rattle.text_answers.proofs.labels_are_given.Goals as goal

pub returns : goal.returns
returns c = labels.labels_are_given
