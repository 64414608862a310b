use Rattle.asm51.proofs.Rounds.{long_stays as law}
use Rattle.asm51.proofs.laws.long_stays.Goals as goal

pub returns : goal.returns
returns c = law
