use Rattle.std.proofs.Common.{arith}
use Rattle.clight_values.proofs.Shifts.{shifted_left_out}
use Rattle.clight_values.proofs.integer.shifted_left.Goals as goal

pub returns-else-by-lt32 : goal.returns-else-by-lt32
returns-else-by-lt32 c = shifted_left_out c.args.ty c.args.x c.args.by (omega arith)
