use Rattle.clight_tokens.specs.Symbols.{keywords}
use Rattle.clight_tokens.proofs.tables.keyword.Goals as goal

pub returns : goal.returns
unfolding keywords
returns c = c.find.ensures
