-- The LTL program of an ERTL program (CerCo, deliverable 4.2: ERTL to LTL): in each function each virtual register is in the place
-- that the allocation gives it, and the cells are counted from the function's first cell on.
use Rattle.std.specs.Prelude.{◌≡◌, ℕ, ◌+◌, ◌<◌, ◌^◌, List, [], ◌∷◌, Some, slice_get, slice_index}
use Rattle.rtl.specs.declared.locations.Vreg.{Vreg}
use Rattle.rtl.specs.declared.locations.Place.{Place}
use Rattle.rtl.specs.declared.locations.Place.TheVariants.{Reg, Arg, Cell}
use Rattle.rtl.specs.Programs.{Graph, Bytes}
use Rattle.rtl.specs.Graphs.{renamed_graph}
use Rattle.ltl_alloc.specs.declared.allocation.Allocation.{Allocation}
use Rattle.ltl_alloc.specs.declared.allocation.Spot.TheVariants as Spot
use Rattle.ltl_alloc.specs.Allocations.{spot_of, place_in}

-- a place of a frame that begins at this cell
abbrev pub at_base : ℕ → Place → Place
at_base base (Reg n) = Reg n
at_base base (Arg n) = Arg n
at_base base (Cell n) = Cell (base + n)

-- the place of a virtual register in a frame that begins at this cell
abbrev pub placed : Allocation → ℕ → Vreg → Place
placed a base v = at_base base (place_in a v.0)

-- each cell of the allocation has a number of one byte in such a frame
abbrev pub FitsAt : Allocation → ℕ → Type 0
FitsAt a base = (v n : ℕ) → spot_of a v ≡ Some (Spot.Cell n) → base + n < 2 ^ 8

-- the same of each function, at its own first cell
abbrev pub EachFits : List Allocation → List ℕ → Type 0
EachFits allocations firsts = (f : ℕ) (a : Allocation) → slice_get allocations f ≡ Some a → FitsAt a (slice_index firsts f)

-- each function by its own allocation, at its own first cell
abbrev pub renamed_graphs : List (Graph Vreg) → List Allocation → List ℕ → List (Graph Place)
renamed_graphs [] allocations firsts = []
renamed_graphs (g ∷ gs) [] firsts = []
renamed_graphs (g ∷ gs) (a ∷ more) [] = []
renamed_graphs (g ∷ gs) (a ∷ more) (base ∷ firsts) = renamed_graph (placed a base) g ∷ renamed_graphs gs more firsts

abbrev pub ltl_of : Bytes Vreg → List Allocation → List ℕ → Bytes Place
ltl_of program allocations firsts = record { graphs = renamed_graphs program.graphs allocations firsts; calls = program.calls; main = program.main; start = program.start }
