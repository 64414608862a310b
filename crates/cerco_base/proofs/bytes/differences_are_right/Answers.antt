use Rattle.cerco_base.proofs.ByteLaws.{differences_law}
use Rattle.cerco_base.proofs.bytes.differences_are_right.Goals as goal

pub returns : goal.returns
returns c = differences_law
