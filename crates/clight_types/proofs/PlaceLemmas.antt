-- The places that a map finds are the first ones.
use Rattle.std.proofs.Common.{◌≡◌, ◌∙◌, ℕ, suc, Bool, true, false, List, [], ◌∷◌, ◌++◌, length, cond, nat_eq, Option, Some, None, refl, sym, ap}
use Rattle.std.specs.Prelude.{if◌then◌else◌, is_some}
use Rattle.std.specs.Option.{option_map}
use Rattle.clight_types.specs.Places.{place_among, first_place, or_found}

-- a place that may be known, where there are so many
abbrev pub place_or : ℕ → Option ℕ → ℕ
place_or count (Some place) = place
place_or count None = count

next_place : (count : ℕ) (found : Option ℕ) → place_or (suc count) (option_map suc found) ≡ suc (place_or count found)
next_place count (Some place) = refl
next_place count None = refl

pub place_found : (numbers : List ℕ) (number : ℕ) → place_or (length numbers) (first_place numbers number) ≡ place_among numbers number
place_found [] number = refl
place_found (x ∷ rest) number = at (nat_eq x number) (place_found rest number)
  where
    at : (b : Bool) → place_or (length rest) (first_place rest number) ≡ place_among rest number →
        place_or (suc (length rest)) (if b then Some 0 else option_map suc (first_place rest number)) ≡ (if b then 0 else suc (place_among rest number))
    at true h = refl
    at false h = next_place (length rest) (first_place rest number) ∙ ap suc h

next_found : (found : Option ℕ) (b : Bool) (place : ℕ) →
    option_map suc (or_found found (if b then Some place else None)) ≡ or_found (option_map suc found) (if b then Some (suc place) else None)
next_found (Some x) b place = refl
next_found None true place = refl
next_found None false place = refl

pub first_behind : (numbers : List ℕ) (y number : ℕ) →
    first_place (numbers ++ y ∷ []) number ≡ or_found (first_place numbers number) (if nat_eq y number then Some (length numbers) else None)
first_behind [] y number = refl
first_behind (x ∷ rest) y number = at (nat_eq x number) (first_behind rest y number)
  where
    at : (b : Bool) → first_place (rest ++ y ∷ []) number ≡ or_found (first_place rest number) (if nat_eq y number then Some (length rest) else None) →
        (if b then Some 0 else option_map suc (first_place (rest ++ y ∷ []) number))
        ≡ or_found (if b then Some 0 else option_map suc (first_place rest number)) (if nat_eq y number then Some (suc (length rest)) else None)
    at true h = refl
    at false h = ap (option_map suc) h ∙ next_found (first_place rest number) (nat_eq y number) (length rest)
