use Rattle.std.proofs.Common.{rules}
use Rattle.clight_nodes.proofs.Newest.{on_pop}
use Rattle.clight_nesting.proofs.levels.pop.Goals as goal

pub returns : goal.returns
returns c = on_pop _ _ _ (search rules)
