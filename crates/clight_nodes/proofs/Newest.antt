-- How the lists of forms and nodes grow and shrink.
use Rattle.std.proofs.Common.{◌≡◌, List, [], ◌∷◌, ◌++◌, refl, ap, ◌∙◌, MatchOption, Option, Some, None}
use Rattle.clight_nodes.specs.Code.States.{newest, newest_onto}

onto-push : {A : Type 0} (xs : List A) (x : A) (later : List A) → newest_onto later (xs ++ x ∷ []) ≡ x ∷ newest_onto later xs
onto-push [] x later = refl
onto-push (y ∷ xs) x later = onto-push xs x (y ∷ later)

pub newest-push : {A : Type 0} (xs : List A) (x : A) → newest (xs ++ x ∷ []) ≡ x ∷ newest xs
unfolding newest
newest-push xs x = onto-push xs x []

pub newest-nil : {A : Type 0} → newest {A = A} [] ≡ []
unfolding newest
newest-nil = refl

pub on_pop : {A : Type 0} (o : Option A) (old new : List A) → MatchOption o ((old ≡ []) × (new ≡ [])) (λ f. old ≡ new ++ f ∷ []) → MatchOption o ((newest old ≡ []) × (newest new ≡ [])) (λ f. newest old ≡ f ∷ newest new)
on_pop None old new h = (ap newest h.0 ∙ newest-nil, ap newest h.1 ∙ newest-nil)
on_pop (Some f) old new h = ap newest h ∙ newest-push new f
