use Rattle.meaning_laws.proofs.Counting as counting
use Rattle.meaning_laws.proofs.stops_are_counted.Goals as goal

pub returns : goal.returns
returns c = counting.counted
