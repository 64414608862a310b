-- How what is told of a run depends on the number of labels that it may pass.
use Rattle.std.specs.Prelude.{◌≡◌, List}
use Rattle.cerco_base.specs.Events.{IsPrefix, Stopped, Ended}
use Rattle.cerco_traces.specs.Preservation.{Outcome, Stops, Faults}
use Rattle.cerco_base.specs.declared.events.Event.{Event}
use Rattle.cerco_base.specs.declared.events.FaultKind.{FaultKind}

abbrev pub events_told : Outcome FaultKind → List Event
events_told (Stops es stop) = es
events_told (Faults es kind) = es

-- what a longer run tells: the same, and more behind it where the shorter one stopped at a label
abbrev pub Extends : Outcome FaultKind → Outcome FaultKind → Type 0
Extends (Stops es Stopped) longer = IsPrefix es (events_told longer)
Extends (Stops es Ended) longer = longer ≡ Stops es Ended
Extends (Faults es kind) longer = longer ≡ Faults es kind
