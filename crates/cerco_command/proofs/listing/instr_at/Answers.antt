use Rattle.cerco_command.specs.Disassembly.{listed_at}
use Rattle.std.proofs.Common.{rules}
use Rattle.cerco_command.proofs.listing.instr_at.Goals as goal

pub returns : goal.returns
unfolding listed_at
returns c = search rules
