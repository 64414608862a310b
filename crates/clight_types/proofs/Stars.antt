-- The pointers that stars make, from the innermost one on.
use Rattle.std.proofs.Common.{◌≡◌, ℕ, zero, suc, ◌+◌, ◌<◌, List, [], ◌∷◌, length, drop, refl, ap, arith, add-one}
use Rattle.c_types.specs.Types.{CType, Pointer}
use Rattle.clight_types.specs.Declarations.{pointers_to}

pointer_inside : {A : Type 0} (stars : List A) (type : CType) → Pointer (pointers_to stars type) ≡ pointers_to stars (Pointer type)
pointer_inside [] type = refl
pointer_inside (star ∷ stars) type = ap Pointer (pointer_inside stars type)

next_star : {A : Type 0} (stars : List A) (i : ℕ) (type : CType) → i < length stars → pointers_to (drop i stars) type ≡ pointers_to (drop (suc i) stars) (Pointer type)
next_star [] i type within = absurd (omega arith)
next_star (star ∷ stars) zero type within = pointer_inside stars type
next_star (star ∷ stars) (suc i) type within = next_star stars i type (omega arith)

-- one star more
pub star_next : {A : Type 0} (stars : List A) (i : ℕ) (type : CType) → i < length stars → pointers_to (drop i stars) type ≡ pointers_to (drop (i + 1) stars) (Pointer type)
star_next stars i type within = rw add-one (next_star stars i type within)
