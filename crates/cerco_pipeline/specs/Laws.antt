-- What the bytes of a source determine: its labelled program, but for the order of its calls, or the first reason against it, and never
-- both.
use Rattle.std.specs.Prelude.{◌≡◌, ℕ, List, []}
use Rattle.cerco_base.specs.declared.events.Label.{Label}
use Rattle.cerco_base.specs.declared.reasons.Reason.{Reason}
use Rattle.clight_syntax.specs.TypedTrees.{TypedProgram}
use Rattle.cerco_pipeline.specs.Programs.{IsProgramOf, HasFirstReason}

-- a program without the order of its calls
abbrev pub without_order : TypedProgram Label → TypedProgram Label
without_order p = record p { calls = [] }

-- a text has one program at most, but for the order of its calls
abbrev pub ProgramIsUnique : Type 0
ProgramIsUnique = (text : List ℕ) (p q : TypedProgram Label) → IsProgramOf text p → IsProgramOf text q → without_order p ≡ without_order q

-- no text has both a program and a first reason
abbrev pub NotBoth : Type 0
NotBoth = (text : List ℕ) (p : TypedProgram Label) (reason : Reason) → IsProgramOf text p → HasFirstReason text reason → ⊥

-- there is one first reason at most
abbrev pub FirstReasonIsUnique : Type 0
FirstReasonIsUnique = (text : List ℕ) (a b : Reason) → HasFirstReason text a → HasFirstReason text b → a ≡ b
