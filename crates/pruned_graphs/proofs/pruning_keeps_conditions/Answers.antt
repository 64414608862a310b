use Rattle.pruned_graphs.proofs.Program.{forms, labelled, outline}
use Rattle.pruned_graphs.proofs.pruning_keeps_conditions.Goals as goal

pub returns-clause-formed : goal.returns-clause-formed
returns-clause-formed c = forms

pub returns-clause-labelled : goal.returns-clause-labelled
returns-clause-labelled c = labelled

pub returns-clause-same : goal.returns-clause-same
returns-clause-same c = outline
