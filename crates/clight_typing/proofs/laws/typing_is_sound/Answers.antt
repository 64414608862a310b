use Rattle.clight_typing.proofs.TypingLaws.{sound}
use Rattle.clight_typing.proofs.laws.typing_is_sound.Goals as goal

pub returns : goal.returns
returns c = sound
