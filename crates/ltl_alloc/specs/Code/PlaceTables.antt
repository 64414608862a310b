-- The places of virtual registers by number, as `rename` writes them down before it goes through a graph.
use Rattle.std.specs.Prelude.{◌≡◌, ℕ, List, Option, Some, None, slice_get}
use Rattle.rtl.specs.declared.locations.Place.{Place}
use Rattle.ltl_alloc.specs.declared.allocation.Allocation.{Allocation}
use Rattle.ltl_alloc.specs.Allocations.{any_place, place_in}
use Rattle.ltl_alloc.specs.Translation.{at_base}

abbrev pub given_or_any : ℕ → Option Place → Place
given_or_any v None = any_place v
given_or_any v (Some place) = place

-- the place of a virtual register in a table
abbrev pub place_in_table : List Place → ℕ → Place
place_in_table places v = given_or_any v (slice_get places v)

-- The table has the places that the allocation gives in a frame that begins at this cell.
abbrev pub IsTableOf : Allocation → ℕ → List Place → Type 0
IsTableOf a base places = (v : ℕ) → place_in_table places v ≡ at_base base (place_in a v)
