use Rattle.std.proofs.Common.{arith}
use Rattle.clight_values.proofs.Shifts.{shifted_out}
use Rattle.clight_values.proofs.integer.shifted.Goals as goal

pub returns-else-by-lt32 : goal.returns-else-by-lt32
returns-else-by-lt32 c = shifted_out c.args.x c.args.by (omega arith) (omega arith)
