use Rattle.clight_typing.proofs.TypingLaws.{unique}
use Rattle.clight_typing.proofs.laws.typing_is_unique.Goals as goal

pub returns : goal.returns
returns c = unique
