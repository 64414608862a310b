use Rattle.std.proofs.Common.{◌-◌}
use Rattle.sim51.proofs.Skipping.{RunsOn}
use Rattle.sim51.proofs.machine.Machine.run_quiet.Given as goal

abbrev pub invariant-loop-cycles : goal.invariant-loop-cycles
invariant-loop-cycles l =
    RunsOn l.fn.self l.limit l.self-inside.code.items l.self-inside.labels.items l.self-inside.slots.items l.self-inside.quiets.items (record { core = l.self-inside.processor; pc = l.pc; cycles = l.cycles })

abbrev pub decreases-loop-cycles : goal.decreases-loop-cycles
decreases-loop-cycles l = l.limit - l.cycles
