use Rattle.cerco_base.proofs.ByteLaws.{sums_law}
use Rattle.cerco_base.proofs.bytes.sums_are_right.Goals as goal

pub returns : goal.returns
returns c = sums_law
