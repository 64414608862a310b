use Rattle.pruned_graphs.proofs.NoneDead.{none_is_dead}
use Rattle.pruned_graphs.proofs.Program.{none_dead_after}
use Rattle.pruned_graphs.proofs.pruning_leaves_none_dead.Goals as goal

pub returns-clause-graph : goal.returns-clause-graph
returns-clause-graph c = none_is_dead

pub returns-clause-program : goal.returns-clause-program
returns-clause-program c = none_dead_after
