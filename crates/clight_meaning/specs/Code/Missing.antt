-- Why there are no values.
use Rattle.std.specs.Prelude.{◌≡◌, List, [], ◌∷◌, ◌++◌, Result, Ok, Err}
use Rattle.cerco_base.specs.declared.events.FaultKind.{FaultKind}
use Rattle.clight_values.specs.declared.value.Value.{Value}
use Rattle.clight_meaning.specs.declared.calls.Missing.{Missing}
use Rattle.clight_meaning.specs.declared.calls.Missing.TheVariants.{Fault, Memory}

-- the fault is that of the values, and out of memory may always come
abbrev pub MayMiss : {A : Type 0} → Result A FaultKind → Missing → Type 0
MayMiss r (Fault k) = r ≡ Err k
MayMiss r Memory = Unit {0}

-- the value of an argument stands behind those before it
abbrev pub AddsArgument : Result Value FaultKind → List Value → List Value → Type 0
AddsArgument (Err k) old new = ⊥
AddsArgument (Ok x) old new = new ≡ old ++ x ∷ []
