use Rattle.cerco_command.specs.Code.Tellings.{texts_of}
use Rattle.cerco_command.specs.Words.{meaning_of_words}
use Rattle.cerco_command.proofs.Meanings.{meaning_answered}
use Rattle.cerco_command.proofs.telling.meaning.Goals as goal

pub returns-in-Ok-clause-answers : goal.returns-in-Ok-clause-answers
returns-in-Ok-clause-answers g c =
    meaning_answered (meaning_of_words c.args.words.now) (texts_of c.in-Ok.inputs) (g.F.Files.state c.args.files.now) (g.F.Files.state c.read_inputs.new.files) c.in-Ok.ensures.read c.read_inputs.ensures.same _ _ c.tell_inputs.result c.tell_inputs.ensures
