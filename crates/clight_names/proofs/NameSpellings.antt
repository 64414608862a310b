-- Names that begin with two underscores, and the number of the name `main`.
use Rattle.std.proofs.Common.{◌≡◌, ℕ, Bool, true, false, ◌&&◌, List, [], ◌∷◌, nat_eq, slice_index_or, refl}
use Rattle.clight_names.specs.NameFaults.{is_reserved}

and_false : (b : Bool) → false ≡ (b && false)
and_false true = refl
and_false false = refl

pub reserved_is : (s : List ℕ) → is_reserved s ≡ (nat_eq (slice_index_or s 0 0) 95 && nat_eq (slice_index_or s 1 0) 95)
reserved_is [] = refl
reserved_is (x ∷ []) = and_false (nat_eq x 95)
reserved_is (x ∷ y ∷ rest) = refl
