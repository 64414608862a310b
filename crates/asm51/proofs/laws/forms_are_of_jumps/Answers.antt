use Rattle.asm51.proofs.Rounds.{forms_are_of_jumps as law}
use Rattle.asm51.proofs.laws.forms_are_of_jumps.Goals as goal

pub returns : goal.returns
returns c = law
