use Rattle.clight_check.proofs.SoundnessLaws.{tree_is_unique}
use Rattle.clight_check.proofs.laws.tree_is_unique.Goals as goal

pub returns : goal.returns
returns c = tree_is_unique
