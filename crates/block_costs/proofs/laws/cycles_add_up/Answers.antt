use Rattle.block_costs.proofs.Sums as sums
use Rattle.block_costs.proofs.laws.cycles_add_up.Goals as goal

pub returns : goal.returns
returns c = sums.cycles_add_up
