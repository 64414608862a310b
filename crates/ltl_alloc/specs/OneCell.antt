-- The plainest allocation (CerCo, deliverable 4.2: a place in the frame for each pseudo-register): argument places are their own, and
-- the other virtual registers of a function have cells, numbered from 0 by rising virtual register.
use Rattle.std.specs.Prelude.{ℕ, zero, suc, ◌+◌, ◌-◌, Bool, ◌&&◌, nat_lt, nat_le, if◌then◌else◌, Option, Some, None}
use Rattle.ltl_alloc.specs.declared.allocation.Spot.{Spot}
use Rattle.ltl_alloc.specs.declared.allocation.Spot.TheVariants.{Reg, Arg, Cell}

abbrev pub spot_of_argument : ℕ → Spot
spot_of_argument v = if nat_lt v 6 then Reg (v + 2) else Arg (v - 6)

-- one for a virtual register that has a cell
abbrev pub cell_of_one : Bool → ℕ → ℕ
cell_of_one named v = if named && nat_le 12 v then 1 else 0

-- how many of the virtual registers below v have cells, where the function has those that pass this test
abbrev pub cells_below : (ℕ → Bool) → ℕ → ℕ
cells_below named zero = 0
cells_below named (suc v) = cells_below named v + cell_of_one (named v) v

abbrev pub spot_for : Bool → ℕ → ℕ → Option Spot
spot_for named v cells = if named then Some (if nat_lt v 12 then spot_of_argument v else Cell cells) else None

abbrev pub one_cell : (ℕ → Bool) → ℕ → Option Spot
one_cell named v = spot_for (named v) v (cells_below named v)
