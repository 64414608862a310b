-- What the check of a program's names answers: the first wrong name, but where it finds no memory.
use Rattle.std.specs.Prelude.{◌≡◌, Option, Some, None, Result, Ok, Err}
use Rattle.cerco_base.specs.declared.reasons.Fault.{Fault}
use Rattle.cerco_base.specs.declared.reasons.Fault.TheVariants.{Refused, OutOfMemory}
use Rattle.cerco_base.specs.declared.reasons.Reason.{Reason}
use Rattle.cerco_base.specs.declared.reasons.Reason.TheVariants.{Name}
use Rattle.clight_names.specs.NameFaults.{NameFault, name_fault}

-- this reason is what is given
abbrev pub IsNameReason : Reason → Option NameFault → Type 0
IsNameReason (Name at kind) expected = expected ≡ Some (name_fault at kind)
IsNameReason reason expected = ⊥

-- there is no wrong name, or this one is the first
abbrev pub AnswersFault : {A : Type 0} → Result A Fault → Option NameFault → Type 0
AnswersFault (Ok x) expected = expected ≡ None
AnswersFault (Err OutOfMemory) expected = Unit {0}
AnswersFault (Err (Refused reason)) expected = IsNameReason reason expected
