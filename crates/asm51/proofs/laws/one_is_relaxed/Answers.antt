use Rattle.asm51.proofs.Rounds.{one_is_relaxed as law}
use Rattle.asm51.proofs.laws.one_is_relaxed.Goals as goal

pub returns : goal.returns
returns c = law
