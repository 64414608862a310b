use Rattle.clight_typing.proofs.TypingLaws.{refusals}
use Rattle.clight_typing.proofs.laws.refusals_are_right.Goals as goal

pub returns : goal.returns
returns c = refusals
