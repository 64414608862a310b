use Rattle.pruned_graphs.proofs.Program.{graph_kept}
use Rattle.pruned_graphs.proofs.pruning_keeps_a_graph.Goals as goal

pub returns : goal.returns
returns c = graph_kept
