use Rattle.std.proofs.Common.{rules}
use Rattle.clight_nodes.proofs.Newest.{on_pop}
use Rattle.clight_nodes.proofs.stack.pop.Goals as goal

pub returns-clause-value : goal.returns-clause-value
returns-clause-value c = on_pop _ _ _ (search rules)
