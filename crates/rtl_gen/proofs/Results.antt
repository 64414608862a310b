-- What holds of a value holds of a result that is this value.
use Rattle.std.proofs.Common.{◌≡◌, IfOk, sym, subst}
use Rattle.std.specs.Prelude.{Result, Ok, Err}

pub holds_of_result : {A B E : Type 0} (view : A → B) (value : B) (Holds : B → Type 0) → Holds value → (result : Result A E) → IfOk result (λ a. view a ≡ value) → IfOk result (λ a. Holds (view a))
holds_of_result view value Holds holds (Ok a) is = subst Holds (sym is) holds
holds_of_result view value Holds holds (Err e) is = tt
