use Rattle.text_answers.proofs.Layouts as layouts
use Rattle.text_answers.proofs.layouts_are_decided.Goals as goal

pub returns : goal.returns
returns c = layouts.layouts_are_decided
