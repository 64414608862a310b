-- How many labels a run passes: those that it is told to pass where it stops before the next one (the stops at cost labels of CerCo,
-- deliverable 2.1).
use Rattle.std.specs.Prelude.{◌≡◌, ℕ, ◌≤◌, List}
use Rattle.cerco_base.specs.Events.{label_count, Stopped, Ended}
use Rattle.cerco_base.specs.declared.events.Label.{Label}
use Rattle.cerco_base.specs.declared.events.FaultKind.{FaultKind}
use Rattle.cerco_traces.specs.Preservation.{Outcome, Stops, Faults}
use Rattle.clight_syntax.specs.TypedTrees.{TypedProgram}
use Rattle.clight_meaning.specs.Meaning.{source}

-- what is told of a run that may pass n labels has exactly n where it stops before a label, and no more where it ends or meets a fault
abbrev pub CountsLabels : ℕ → Outcome FaultKind → Type 0
CountsLabels n (Stops es Stopped) = label_count es ≡ n
CountsLabels n (Stops es Ended) = label_count es ≤ n
CountsLabels n (Faults es kind) = label_count es ≤ n

abbrev pub StopsAreCounted : Type 0
StopsAreCounted = (p : TypedProgram Label) (script : List ℕ) (n : ℕ) → CountsLabels n (source p script n)
