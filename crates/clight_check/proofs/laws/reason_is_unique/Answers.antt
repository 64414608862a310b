use Rattle.clight_check.proofs.SoundnessLaws.{reason_is_unique}
use Rattle.clight_check.proofs.laws.reason_is_unique.Goals as goal

pub returns : goal.returns
returns c = reason_is_unique
