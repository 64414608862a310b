use Rattle.std.proofs.Common.{subst, sym, ◌∙◌}
use Rattle.clight_reader.specs.Code.Readings.{IsFault}
use Rattle.clight_reader.proofs.program.parse.Goals as goal

pub returns-in-Err-clause-fault : goal.returns-in-Err-clause-fault
returns-in-Err-clause-fault c =
    c.refusal.ensures c.args.tokens.now (c.deref-in-Err.ensures.value ∙ c.in_ok-names.ensures.symbols) c.length-length.ensures.length
    (subst (λ z. IsFault c.in-Err.fault z) (c.deref.ensures.value ∙ sym c.deref-in-Err.ensures.value) c.in-Err.ensures.fault)
