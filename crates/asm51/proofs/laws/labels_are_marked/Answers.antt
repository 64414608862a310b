use Rattle.asm51.proofs.Found.{labels_are_marked as law}
use Rattle.asm51.proofs.laws.labels_are_marked.Goals as goal

pub returns : goal.returns
returns c = law
