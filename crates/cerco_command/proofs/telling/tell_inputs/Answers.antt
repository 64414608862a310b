use Rattle.std.proofs.Common.{string_bytes}
use Rattle.cerco_command.specs.Code.Tellings.{texts_of}
use Rattle.cerco_command.specs.Words.{meaning_of_words}
use Rattle.cerco_command.proofs.Meanings.{too_long_answered}
use Rattle.cerco_command.proofs.telling.tell_inputs.Goals as goal

pub returns-in-Err : goal.returns-in-Err
returns-in-Err g c =
    too_long_answered (meaning_of_words c.args.words.now) (texts_of c.args.inputs.now) _ _ c.in-Err.reply.status c.answer.result (string_bytes c.in-Err.reply.line)
    (rw c.deref-2.ensures.value at c.in-Err.ensures.long) (rw c.deref.ensures at c.in-Err.ensures.reply) c.answer.ensures
