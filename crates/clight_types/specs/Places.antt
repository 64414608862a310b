-- The first place of a number in a list, which is the position that a search from the front finds.
use Rattle.std.specs.Prelude.{◌≡◌, ℕ, suc, List, [], ◌∷◌, nat_eq, Option, Some, None, if◌then◌else◌}
use Rattle.std.specs.Option.{option_map}

-- the place of the first such number, or how many numbers there are
abbrev pub place_among : List ℕ → ℕ → ℕ
place_among [] number = 0
place_among (x ∷ rest) number = if nat_eq x number then 0 else suc (place_among rest number)

-- the place of the first such number, if there is one
abbrev pub first_place : List ℕ → ℕ → Option ℕ
first_place [] number = None
first_place (x ∷ rest) number = if nat_eq x number then Some 0 else option_map suc (first_place rest number)

-- what is found of each number is its first place
abbrev pub FindsPlaces : (ℕ → Option ℕ) → List ℕ → Type 0
FindsPlaces found numbers = (number : ℕ) → found number ≡ first_place numbers number

-- what was found before, or else this
abbrev pub or_found : Option ℕ → Option ℕ → Option ℕ
or_found (Some place) other = Some place
or_found None other = other
