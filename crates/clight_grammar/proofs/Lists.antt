-- Lists that are folded from their first element on.
use Rattle.std.proofs.Common.{◌≡◌, List, [], ◌∷◌, ◌++◌, refl}
use Rattle.clight_nodes.specs.Code.Postfix.{onto}

pub onto-push : {N X : Type 0} (f : N → X → N) (z : N) (l : List X) (x : X) → onto f z (l ++ x ∷ []) ≡ f (onto f z l) x
onto-push f z [] x = refl
onto-push f z (y ∷ l) x = onto-push f (f z y) l x
