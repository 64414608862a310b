-- What the answer to a whole program says of its typings.
use Rattle.std.proofs.Common.{◌≡◌, List, Result, Ok, Err, subst}
use Rattle.std.specs.Prelude.{IfOk}
use Rattle.cerco_base.specs.declared.reasons.Fault.{Fault}
use Rattle.cerco_base.specs.declared.reasons.Fault.TheVariants.{Refused, OutOfMemory}
use Rattle.cerco_base.specs.declared.reasons.Reason.{Reason}
use Rattle.cerco_base.specs.declared.reasons.Reason.TheVariants as r
use Rattle.clight_source.specs.Trees.{Program}
use Rattle.clight_typing.specs.Laws.{Tree, IsTypingOf, HasNoTyping, IfRefused}
use Rattle.clight_types.specs.Outcomes.{Gives, IsReason}
use Rattle.clight_types.specs.TypedExpressions.{Checked, TypeFault}
use Rattle.clight_typing.specs.TypedPrograms.{typed_program}
use Rattle.clight_typing.proofs.TypingLaws.{sound, refusals}

pub is_typing : {A : Type 0} (view : A → Tree) (given : Result A Fault) (p : Program) → Gives view given (typed_program p) → IfOk given (λ x. IsTypingOf p (view x))
is_typing view (Ok x) p h = let P : Checked Tree → Type 0 = λ o. IfOk o (IsTypingOf p) in subst P h (sound p)
is_typing view (Err e) p h = tt

no_typing_for : (reason : Reason) (p : Program) → IsReason reason (typed_program p) → HasNoTyping p
no_typing_for (r.Typing at kind) p h = refusals p _ h
no_typing_for reason p h = absurd h

pub no_typing : {A : Type 0} (view : A → Tree) (given : Result A Fault) (p : Program) → Gives view given (typed_program p) → IfRefused given (HasNoTyping p)
no_typing view (Ok x) p h = tt
no_typing view (Err OutOfMemory) p h = tt
no_typing view (Err (Refused reason)) p h = no_typing_for reason p h
