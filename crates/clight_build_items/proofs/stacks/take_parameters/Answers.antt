use Rattle.std.proofs.Common.{rules}
use Rattle.clight_build.proofs.Pushes.{on_pop}
use Rattle.clight_build_items.proofs.stacks.take_parameters.Goals as goal

pub returns : goal.returns
returns c = on_pop _ _ _ _ (search rules)
