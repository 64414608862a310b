use Rattle.cminor_gen.proofs.Numbered.{numbered}
use Rattle.cminor_gen.proofs.labels_are_numbered.Goals as goal

pub returns : goal.returns
returns c = λ typed p labelled. numbered typed p labelled
