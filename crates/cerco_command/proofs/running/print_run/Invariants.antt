use Rattle.std.proofs.Common.{◌+◌, ◌-◌}
use Rattle.cerco_base.specs.Outside.InMemory.{sound_sink_state}
use Rattle.sim51.specs.Runs.{setup_of}
use Rattle.cerco_command.proofs.RunSteps.{PrintsOn}
use Rattle.cerco_command.proofs.running.print_run.Given as goal

abbrev pub invariant-loop-status : goal.invariant-loop-status
invariant-loop-status g l = PrintsOn (setup_of l.fn.machine) l.limit (g.O.Sink.state l.fn.out) (g.O.Sink.state l.out) l.machine (sound_sink_state l.pending).bytes

abbrev pub decreases-loop-status : goal.decreases-loop-status
decreases-loop-status g l = l.limit + 5 - l.machine.state.cycles
