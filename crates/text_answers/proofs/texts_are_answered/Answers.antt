use Rattle.text_answers.proofs.Layouts as layouts
use Rattle.text_answers.proofs.texts_are_answered.Goals as goal

pub returns : goal.returns
returns c = layouts.texts_are_answered
