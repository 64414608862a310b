use Rattle.clight_tokens.specs.Symbols.{marks}
use Rattle.clight_tokens.proofs.tables.mark.Goals as goal

pub returns : goal.returns
unfolding marks
returns c = c.find.ensures
