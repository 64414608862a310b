use Rattle.asm51.proofs.Sizes.{long_is_longest as law}
use Rattle.asm51.proofs.laws.long_is_longest.Goals as goal

pub returns : goal.returns
returns c = law
