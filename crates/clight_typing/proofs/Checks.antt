-- Steps that may end in a fault: what holds of what they give.
use Rattle.std.proofs.Common.{◌≡◌, ℕ, Bool, true, false, ◌&&◌, ◌||◌, IsTrue, Option, Some, None, Result, Ok, Err, refl, sym, ap}
use Rattle.std.specs.Prelude.{IfOk, IfSome, if◌then◌else◌}
use Rattle.cerco_base.specs.declared.reasons.TypeKind.{TypeKind}
use Rattle.c_types.specs.Types.{CType}
use Rattle.clight_types.specs.TypedExpressions.{Checked, TypeFault, fault, ◌>>=◌, or_fault}

-- what one step gives, the next one takes
pub then_holds : {A B : Type 0} (P : A → Type 0) (Q : B → Type 0) (x : Checked A) (next : A → Checked B) →
    IfOk x P → ((a : A) → P a → IfOk (next a) Q) → IfOk (x >>= next) Q
then_holds P Q (Ok a) next p f = f a p
then_holds P Q (Err e) next p f = tt

pub if_holds : {A : Type 0} (P : A → Type 0) (b : Bool) (x : Checked A) (at : ℕ) (kind : TypeKind) →
    (IsTrue b → IfOk x P) → IfOk (if b then x else fault at kind) P
if_holds P true x at kind h = h refl
if_holds P false x at kind h = tt

pub or_fault_holds : {A : Type 0} (P : A → Type 0) (o : Option CType) (of : CType → A) (at : ℕ) (kind : TypeKind) →
    IfSome o (λ type. P (of type)) → IfOk (or_fault o of at kind) P
or_fault_holds P (Some type) of at kind h = h
or_fault_holds P None of at kind h = tt

pub some_holds : {A : Type 0} (P : A → Type 0) (b : Bool) (a : A) (rest : Option A) → (IsTrue b → P a) → IfSome rest P → IfSome (if b then Some a else rest) P
some_holds P true a rest h g = h refl
some_holds P false a rest h g = g

pub if_true : {A : Type 0} (b : Bool) (x y : A) → IsTrue b → (if b then x else y) ≡ x
if_true true x y h = refl
if_true false x y h = absurd cc

pub if_false : {A : Type 0} (b : Bool) (x y : A) → b ≡ false → (if b then x else y) ≡ y
if_false true x y h = absurd cc
if_false false x y h = refl

pub or_first : (a b : Bool) → IsTrue a → IsTrue (a || b)
or_first true b h = refl
or_first false b h = absurd cc

pub or_second : (a b : Bool) → IsTrue b → IsTrue (a || b)
or_second true b h = refl
or_second false b h = h

-- a step that gives this goes on with it
pub then_goes : {A B : Type 0} (x : Checked A) (a : A) (next : A → Checked B) → x ≡ Ok a → (x >>= next) ≡ next a
then_goes x a next e = ap (λ x. x >>= next) e
