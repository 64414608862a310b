use Rattle.clight_syntax.proofs.OwnVariables.{rest_is}
use Rattle.clight_syntax.proofs.variables.rest_of.Goals as goal

pub returns : goal.returns
returns c = rest_is c.args.variables.now c.args.first c.min-from.result c.min-from.ensures
