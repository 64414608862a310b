-- What a call of the checker answers: what the definitions give, but where it finds no memory.
use Rattle.std.specs.Prelude.{◌≡◌, Result, Ok, Err}
use Rattle.cerco_base.specs.declared.reasons.Fault.{Fault}
use Rattle.cerco_base.specs.declared.reasons.Fault.TheVariants.{Refused, OutOfMemory}
use Rattle.cerco_base.specs.declared.reasons.Reason.{Reason}
use Rattle.cerco_base.specs.declared.reasons.Reason.TheVariants.{Typing}
use Rattle.clight_types.specs.TypedExpressions.{Checked, fault}

-- this reason is what is given
abbrev pub IsReason : {B : Type 0} → Reason → Checked B → Type 0
IsReason (Typing at kind) expected = expected ≡ fault at kind
IsReason reason expected = ⊥

-- the answer, seen in this way, is what is given
abbrev pub Gives : {A B : Type 0} → (A → B) → Result A Fault → Checked B → Type 0
Gives view (Ok x) expected = expected ≡ Ok (view x)
Gives view (Err OutOfMemory) expected = Unit {0}
Gives view (Err (Refused reason)) expected = IsReason reason expected
