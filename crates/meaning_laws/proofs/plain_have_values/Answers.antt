use Rattle.meaning_laws.proofs.Plain as plain
use Rattle.meaning_laws.proofs.plain_have_values.Goals as goal

pub returns : goal.returns
returns c = plain.plain_have_values
