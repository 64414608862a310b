use Rattle.std.proofs.Common.{◌≡◌, Err, string_bytes, ap, ◌∙◌}
use Rattle.cerco_base.specs.declared.reasons.Fault.TheVariants.{Refused}
use Rattle.cerco_command.specs.Code.Tellings.{texts_of}
use Rattle.cerco_command.specs.Words.{meaning_of_words}
use Rattle.cerco_command.proofs.Meanings.{told_answered, told_short, refused_answered, unmade_answered}
use Rattle.cerco_command.proofs.telling.tell_source.Goals as goal

pub returns-in-Ok-Ok : goal.returns-in-Ok-Ok
returns-in-Ok-Ok g c =
    told_answered (meaning_of_words c.args.words.now) (texts_of c.args.inputs.now) _ _ c.in-Ok-Ok.field-0 _ c.requires c.in-Ok-Ok.field-0-is
    (rw (c.deref.ensures.value, c.deref-2.ensures.value) at c.in-Ok-Ok.ensures.told)

pub returns-in-Ok-Err : goal.returns-in-Ok-Err
returns-in-Ok-Err g c =
    rw (c.of_fault.ensures, c.in-Ok-Err.field-0-is)
    (told_short (meaning_of_words c.args.words.now) (texts_of c.args.inputs.now) _ _ c.in-Ok-Err.fault c.requires
    (rw (c.deref.ensures.value, c.deref-2.ensures.value, c.in-Ok-Err.field-0-is) at c.in-Ok-Err.ensures.told))

pub returns-in-Err-Refused : goal.returns-in-Err-Refused
returns-in-Err-Refused g c =
    let reason = c.in-Err-Refused.reason in
    let is : c.tell_meaning.result ≡ Err (Refused reason) = c.in-Err-Refused.is ∙ ap Err c.in-Err-Refused.field-0-is in
    refused_answered (meaning_of_words c.args.words.now) (texts_of c.args.inputs.now) _ _ _ reason c.refused.result.status c.answer.result (string_bytes c.refused.result.line) c.requires
    (rw c.deref.ensures.value at c.tell_meaning.ensures.refused reason is) (λ room. c.tell_meaning.ensures.complete (rw c.deref.ensures.value room) reason is)
    c.refused.ensures c.in-Err-Refused.ensures.untouched c.answer.ensures

pub returns-in-Err-OutOfMemory : goal.returns-in-Err-OutOfMemory
returns-in-Err-OutOfMemory g c = unmade_answered (meaning_of_words c.args.words.now) (texts_of c.args.inputs.now) _ _ c.in-Err-OutOfMemory.ensures.untouched
