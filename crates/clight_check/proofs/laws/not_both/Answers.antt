use Rattle.clight_check.proofs.SoundnessLaws.{not_both}
use Rattle.clight_check.proofs.laws.not_both.Goals as goal

pub returns : goal.returns
returns c = not_both
