use Rattle.pruned_graphs.proofs.Program.{no_longer, needs_no_more}
use Rattle.pruned_graphs.proofs.pruning_raises_nothing.Goals as goal

pub returns-clause-length : goal.returns-clause-length
returns-clause-length c = no_longer

pub returns-clause-need : goal.returns-clause-need
returns-clause-need c = needs_no_more
