-- How the answers of calls join to what the definitions give.
use Rattle.std.proofs.Common.{◌≡◌, ◌∙◌, Bool, true, false, IsTrue, Option, Some, None, Result, Ok, Err, refl, sym, ap, subst}
use Rattle.std.specs.Prelude.{if◌then◌else◌}
use Rattle.cerco_base.specs.declared.reasons.Fault.{Fault}
use Rattle.cerco_base.specs.declared.reasons.Fault.TheVariants.{Refused, OutOfMemory}
use Rattle.cerco_base.specs.declared.reasons.Reason.{Reason}
use Rattle.cerco_base.specs.declared.reasons.Reason.TheVariants as r
use Rattle.clight_types.specs.TypedExpressions.{Checked, TypeFault, fault, ◌>>=◌}
use Rattle.clight_types.specs.Outcomes.{Gives, IsReason}

-- a step that gave this, and what follows
pub gives_then : {A B C : Type 0} (view : A → B) (given : Result A Fault) (x : Checked C) (a : C) (next : C → Checked B) →
    x ≡ Ok a → Gives view given (next a) → Gives view given (x >>= next)
gives_then view given x a next is h = let P : Checked _ → Type 0 = λ x. Gives view given (x >>= next) in subst P (sym is) h

reason_then : {B D : Type 0} (reason : Reason) (x : Checked B) (next : B → Checked D) → IsReason reason x → IsReason reason (x >>= next)
reason_then (r.Typing at kind) x next h = ap (λ x. x >>= next) h
reason_then reason x next h = absurd h

-- a step that is refused, or finds no memory
pub gives_err : {A B C D : Type 0} (one : A → B) (other : C → D) (e : Fault) (x : Checked B) (next : B → Checked D) →
    Gives one (Err e) x → Gives other (Err e) (x >>= next)
gives_err one other OutOfMemory x next h = tt
gives_err one other (Refused reason) x next h = reason_then reason x next h

pub gives_same : {A B : Type 0} (view : A → B) (given : Result A Fault) (x y : Checked B) → x ≡ y → Gives view given y → Gives view given x
gives_same view given x y is h = let P : Checked _ → Type 0 = λ x. Gives view given x in subst P (sym is) h

reason_fault : {B D : Type 0} (reason : Reason) (x : Checked B) (z : Checked D) → IsReason reason x → ((f : TypeFault) → x ≡ Err f → z ≡ Err f) → IsReason reason z
reason_fault (r.Typing at kind) x z h next = next _ h
reason_fault reason x z h next = absurd h

-- a fault in a part that is the fault of the whole
pub gives_fault : {A B C D : Type 0} (one : A → B) (other : C → D) (e : Fault) (x : Checked B) (z : Checked D) →
    Gives one (Err e) x → ((f : TypeFault) → x ≡ Err f → z ≡ Err f) → Gives other (Err e) z
gives_fault one other OutOfMemory x z h next = tt
gives_fault one other (Refused reason) x z h next = reason_fault reason x z h next

-- the same, where the answer is that fault
pub faulted : {A B C D : Type 0} {given : Result C Fault} {e : Fault} → given ≡ Err e → (one : A → B) (other : C → D) (x : Checked B) (z : Checked D) →
    Gives one (Err e) x → ((f : TypeFault) → x ≡ Err f → z ≡ Err f) → Gives other given z
faulted {given = given} {e = e} is one other x z h next = let P : Result _ Fault → Type 0 = λ r. Gives other r z in subst P (sym is) (gives_fault one other e x z h next)
