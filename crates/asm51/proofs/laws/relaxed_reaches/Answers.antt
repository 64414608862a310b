use Rattle.asm51.proofs.Rounds.{relaxed_reaches as law}
use Rattle.asm51.proofs.laws.relaxed_reaches.Goals as goal

pub returns : goal.returns
returns c = law
