-- What is promised of programs that pass the checker: a compiler finds in them all that it needs, and they are within its limits.
use Rattle.cerco_base.specs.declared.events.Label.{Label}
use Rattle.clight_source.specs.Trees.{Program}
use Rattle.clight_syntax.specs.Labelling.{without_labels, IsLabelled}
use Rattle.clight_syntax.specs.TypedTrees.{TypedProgram}
use Rattle.clight_typing.specs.Programs.{IsWellTyped, definitions}
use Rattle.clight_typing.specs.Sources.{program_source}
use Rattle.clight_layout.specs.Layout.{IsLayout}
use Rattle.clight_check.specs.Soundness.{IsSound}
use Rattle.clight_programs.specs.Programs.{IsChecked}
use Rattle.checked_programs.specs.Named.{HasNames}
use Rattle.checked_programs.specs.Limits.{IsWithinLimits}

-- a well-typed program with right names is a checked one once it is laid out, whatever labels it gets
abbrev pub WellTypedIsChecked : Type 0
WellTypedIsChecked =
    (t : TypedProgram (Unit {0})) (p : TypedProgram Label) → IsWellTyped t → HasNames t (definitions (program_source t).items) → IsLayout t (without_labels p) → IsChecked p

-- the program that a sound source is given is a checked one once it has its labels
abbrev pub SoundIsChecked : Type 0
SoundIsChecked = (source : Program) (t : TypedProgram (Unit {0})) (p : TypedProgram Label) → IsSound source t → IsLabelled t p → IsChecked p

-- a program with its layout is within the limits, whatever labels it gets
abbrev pub LaidOutIsWithinLimits : Type 0
LaidOutIsWithinLimits = (typed t : TypedProgram (Unit {0})) (p : TypedProgram Label) → IsLayout typed t → IsLabelled t p → IsWithinLimits p
