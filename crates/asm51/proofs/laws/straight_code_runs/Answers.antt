use Rattle.asm51.proofs.StraightCode.{straight_code_runs as law}
use Rattle.asm51.proofs.laws.straight_code_runs.Goals as goal

pub returns : goal.returns
returns c = law
