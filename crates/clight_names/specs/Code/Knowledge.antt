-- What the sets of the checker tell of names.
use Rattle.std.specs.Prelude.{◌≡◌, ℕ, List, nat_eq}
use Rattle.std.specs.HashSet.{HashSet, contains}
use Rattle.clight_names.specs.declared.occurrences.Occurrence.{Occurrence}
use Rattle.clight_names.specs.declared.regions.Place.{Place}
use Rattle.clight_names.specs.declared.known.Known.{Known}
use Rattle.clight_names.specs.Regions.{has_name, declares, declares_more, defines, place_eq}

-- the set has the names of the functions that these define
abbrev pub AreDefined : {S : Type 0} → HashSet ℕ S → List Occurrence → Type 0
AreDefined set names = (name : ℕ) → contains nat_eq set name ≡ has_name defines names name

-- the sets have the places in which these names declare something, and those in which they do otherwise than by a prototype
pub record Knows (known : Known) (names : List Occurrence) : Type 0 where
  pub declared : (place : Place) → contains place_eq known.declared place ≡ has_name (declares place.region) names place.name
  pub settled : (place : Place) → contains place_eq known.settled place ≡ has_name (declares_more place.region) names place.name
