use Rattle.pruned_graphs.proofs.Convention.{carry_stays}
use Rattle.pruned_graphs.proofs.Program.{respects}
use Rattle.pruned_graphs.proofs.pruning_respects_the_convention.Goals as goal

pub returns-clause-convention : goal.returns-clause-convention
returns-clause-convention c = respects

pub returns-clause-carry : goal.returns-clause-carry
returns-clause-carry c = carry_stays
