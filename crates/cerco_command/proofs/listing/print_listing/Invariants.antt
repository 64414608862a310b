use Rattle.std.proofs.Common.{◌-◌, length}
use Rattle.cerco_base.specs.Outside.InMemory.{sound_sink_state}
use Rattle.cerco_command.proofs.ListSteps.{PrintsOn}
use Rattle.cerco_command.proofs.listing.print_listing.Given as goal

abbrev pub invariant-loop-address : goal.invariant-loop-address
invariant-loop-address g l = PrintsOn l.code (g.O.Sink.state l.fn.out) (g.O.Sink.state l.out) l.address (sound_sink_state l.pending).bytes

abbrev pub decreases-loop-address : goal.decreases-loop-address
decreases-loop-address g l = length l.code - l.address
