-- Which allocations a program may have: proper colourings, whose cells are counted (Appel, Modern Compiler Implementation, chapter 11).
use Rattle.std.specs.Prelude.{◌≡◌, ℕ, ◌<◌, List, [], ◌∷◌, map, Some, IsSome}
use Rattle.cerco_traces.specs.LabelledGraphs.{In}
use Rattle.rtl.specs.declared.locations.Vreg.{Vreg}
use Rattle.rtl.specs.Programs.{Graph}
use Rattle.rtl.specs.Locations.{vreg_number}
use Rattle.rtl.specs.Graphs.{renamed_graph}
use Rattle.rtl.specs.WellFormed.{locations_in}
use Rattle.rtl.specs.Interference.{IsProperColouring}
use Rattle.ltl_alloc.specs.declared.allocation.Allocation.{Allocation}
use Rattle.ltl_alloc.specs.declared.allocation.Spot.TheVariants.{Cell}
use Rattle.ltl_alloc.specs.Allocations.{spot_of, place_in}

-- An allocation serves a function: it is a proper colouring, and its cells are below their number.
pub record Serves (graph : Graph Vreg) (a : Allocation) : Type 0 where
  pub proper : IsProperColouring (renamed_graph vreg_number graph) (place_in a)
  pub cells : (v n : ℕ) → spot_of a v ≡ Some (Cell n) → n < a.cells

-- the virtual registers that a graph names have spots
abbrev pub PlacesAll : Graph Vreg → Allocation → Type 0
PlacesAll graph a = (v : ℕ) → In v (map vreg_number (locations_in graph)) → IsSome (spot_of a v)

-- each function has such an allocation
abbrev pub EachHas : (Graph Vreg → Allocation → Type 0) → List (Graph Vreg) → List Allocation → Type 0
EachHas P [] [] = Unit {0}
EachHas P [] (a ∷ more) = ⊥
EachHas P (g ∷ gs) [] = ⊥
EachHas P (g ∷ gs) (a ∷ more) = P g a × EachHas P gs more

-- how many cells each function has
abbrev pub sizes_of : List Allocation → List ℕ
sizes_of = map (λ a. a.cells)
