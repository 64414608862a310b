use Rattle.std.proofs.Common.{arith}
use Rattle.jump_expand.proofs.Tables.{table_of, addresses_after}
use Rattle.jump_expand.proofs.rounds.take_form.Goals as goal

pub raise-requires : goal.raise-requires
raise-requires c = record { table = (_, _, table_of _ _ _ c.requires.addresses, omega arith, omega (arith, c.size_of.ensures.small), omega arith) }

pub returns-clause-addresses : goal.returns-clause-addresses
returns-clause-addresses c =
    addresses_after _ _ _ _ c.args.k c.args.form _ c.requires.addresses c.requires.forms c.requires.item c.requires.size (omega (arith, c.size_of.ensures.size, c.size_of-2.ensures.size)) c.raise.ensures.within c.raise.ensures.starts c.raise.ensures.before c.raise.ensures.after
