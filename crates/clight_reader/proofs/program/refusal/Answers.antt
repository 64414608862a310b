use Rattle.std.proofs.Common.{subst}
use Rattle.clight_reader.specs.Code.Readings.{IsFault}
use Rattle.clight_reader.proofs.Places.{syntax_fault}
use Rattle.clight_reader.proofs.program.refusal.Goals as goal

pub returns-in-Syntax : goal.returns-in-Syntax
returns-in-Syntax c t e n f = syntax_fault t _ _ _ _ e n c.place.ensures (subst (λ z. IsFault z c.args.symbols.now) c.in-Syntax.is f)
