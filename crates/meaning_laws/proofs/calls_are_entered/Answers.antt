use Rattle.meaning_laws.proofs.Entering as entering
use Rattle.meaning_laws.proofs.calls_are_entered.Goals as goal

pub returns : goal.returns
returns c = entering.calls_are_entered
