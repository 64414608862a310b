use Rattle.clight_tokens.proofs.Numbering.{names_numbered}
use Rattle.clight_tokens.proofs.symbols.names_have_numbers.Goals as goal

pub returns : goal.returns
returns c = names_numbered
