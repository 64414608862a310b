use Rattle.checked_programs.proofs.Sound.{sound_checked}
use Rattle.checked_programs.proofs.laws.sound_is_checked.Goals as goal

pub returns : goal.returns
returns c = sound_checked
