use Rattle.std.proofs.Common.{◌+◌}
use Rattle.sim51.specs.Step.{instr_at}
use Rattle.sim51.proofs.Steps.{code_at_mod}
use Rattle.block_costs.proofs.code.instr_at.Goals as goal

pub returns : goal.returns
unfolding instr_at
returns c =
    rw (← code_at_mod c.args.code.now (c.args.at + 1), ← code_at_mod c.args.code.now (c.args.at + 2), ← c.byte_at.ensures, ← c.byte_at-2.ensures, ← c.byte_at-3.ensures) c.decode.ensures.table
