use Rattle.std.proofs.Common.{sym, ◌∙◌}
use Rattle.object_hex.proofs.Taken.{fault_after, fault_form}
use Rattle.object_hex.proofs.reading.hex_reader.HexReader.take_line.Goals as goal

pub returns-then-self : goal.returns-then-self
returns-then-self c = λ before state. fault_after before c.args.line.now (sym state.ends ∙ c.if-self.true)

pub returns-in-None : goal.returns-in-None
returns-in-None c = λ before state. fault_form before c.args.line.now (sym state.ends ∙ c.if-self.false) c.in-None.ensures
