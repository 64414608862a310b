use Rattle.pruned_graphs.proofs.Program.{preserved}
use Rattle.pruned_graphs.proofs.pruning_preserves.Goals as goal

pub returns : goal.returns
returns c = preserved
