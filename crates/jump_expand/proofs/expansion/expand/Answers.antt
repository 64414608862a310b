use Rattle.std.proofs.Common.{length, arith, ap}
use Rattle.jump_expand.proofs.Tables.{table_of}
use Rattle.jump_expand.proofs.expansion.expand.Goals as goal

pub at-len-requires : goal.at-len-requires
at-len-requires c = record { table = (_, _, table_of _ _ _ c.in_ok-relaxed.ensures.addresses, omega arith, omega (arith, c.requires, ap length c.as_slice-items.ensures)) }
