use Rattle.asm51.proofs.Found.{targets_are_found as law}
use Rattle.asm51.proofs.laws.targets_are_found.Goals as goal

pub returns : goal.returns
returns c = law
