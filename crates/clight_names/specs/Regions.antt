-- The scopes of a program and its name spaces, and what a name declares in them (ISO/IEC 9899:1999, 6.2.1 and 6.2.3, in the
-- compiler's profile).
use Rattle.std.specs.Prelude.{ℕ, Bool, true, false, ◌&&◌, not, List, Option, Some, None, nat_eq}
use Rattle.std.specs.List.{list_any}
use Rattle.clight_names.specs.declared.occurrences.Role.{Role}
use Rattle.clight_names.specs.declared.occurrences.Role.TheVariants as r
use Rattle.clight_names.specs.declared.occurrences.Occurrence.{Occurrence}
use Rattle.clight_names.specs.declared.regions.Region.{Region}
use Rattle.clight_names.specs.declared.regions.Place.{Place}
use Rattle.clight_names.specs.declared.regions.Region.TheVariants.{Tags, Members, WholeFile, Within}

abbrev pub region_eq : Region → Region → Bool
region_eq Tags Tags = true
region_eq (Members item) (Members other) = nat_eq item other
region_eq WholeFile WholeFile = true
region_eq (Within item) (Within other) = nat_eq item other
region_eq x y = false

-- where a name declares something
abbrev pub declared_in : Role → Option Region
declared_in r.DefinesTag = Some Tags
declared_in (r.DeclaresMember item) = Some (Members item)
declared_in r.DeclaresGlobal = Some WholeFile
declared_in (r.DeclaresPrototype plain) = Some WholeFile
declared_in (r.DefinesFunction plain) = Some WholeFile
declared_in (r.DeclaresLocal item) = Some (Within item)
declared_in role = None

abbrev pub is_prototype : Role → Bool
is_prototype (r.DeclaresPrototype plain) = true
is_prototype role = false

abbrev pub is_definition : Role → Bool
is_definition (r.DefinesFunction plain) = true
is_definition role = false

abbrev pub is_region : Option Region → Region → Bool
is_region None region = false
is_region (Some x) region = region_eq x region

-- this name is one of those that count
abbrev pub has_name : (Occurrence → Bool) → List Occurrence → ℕ → Bool
has_name counts names name = list_any (λ x. nat_eq x.name.number name && counts x) names

abbrev pub declares : Region → Occurrence → Bool
declares region x = is_region (declared_in x.role) region

-- something else than a prototype
abbrev pub declares_more : Region → Occurrence → Bool
declares_more region x = declares region x && not (is_prototype x.role)

abbrev pub defines : Occurrence → Bool
defines x = is_definition x.role

abbrev pub is_declared : Region → List Occurrence → ℕ → Bool
is_declared region names name = has_name (declares region) names name

abbrev pub place_eq : Place → Place → Bool
place_eq x y = region_eq x.region y.region && nat_eq x.name y.name
