use Rattle.clight_typing.proofs.TypingLaws.{complete}
use Rattle.clight_typing.proofs.laws.typing_is_complete.Goals as goal

pub returns : goal.returns
returns c = complete
