-- Where the virtual registers of a function are kept (CerCo, deliverable 4.2: ERTL to LTL; Appel, Modern Compiler Implementation,
-- chapter 11). An allocation gives spots, whose cells are counted from 0 in each function.
use Rattle.std.specs.Prelude.{◌≡◌, ℕ, suc, ◌<◌, ◌≤◌, Option, Some, None, slice_get, nat_lt, if◌then◌else◌}
use Rattle.rtl.specs.declared.locations.Place.{Place}
use Rattle.rtl.specs.Locations.{argument_place}
use Rattle.ltl_alloc.specs.declared.allocation.Spot.{Spot}
use Rattle.ltl_alloc.specs.declared.allocation.Spot.TheVariants.{Reg, Arg, Cell}
use Rattle.ltl_alloc.specs.declared.allocation.Allocation.{Allocation}

abbrev pub spot_or_none : Option (Option Spot) → Option Spot
spot_or_none None = None
spot_or_none (Some spot) = spot

-- the spot of a virtual register, if it has one
abbrev pub spot_of : Allocation → ℕ → Option Spot
spot_of a v = spot_or_none (slice_get a.spots v)

-- a place for a virtual register that the function doesn't have
abbrev pub any_place : ℕ → Place
any_place v = if nat_lt v 12 then argument_place v else Place.Reg 2

abbrev pub place_or_any : ℕ → Option Spot → Place
place_or_any v None = any_place v
place_or_any v (Some (Reg n)) = Place.Reg n
place_or_any v (Some (Arg n)) = Place.Arg n
place_or_any v (Some (Cell n)) = Place.Cell n

-- the place of a virtual register, its cells counted from 0
abbrev pub place_in : Allocation → ℕ → Place
place_in a v = place_or_any v (spot_of a v)

-- An allocation is exact: its registers and argument places exist, and its cells are as many as the greatest one needs.
pub record IsExact (a : Allocation) : Type 0 where
  pub registers : (v n : ℕ) → spot_of a v ≡ Some (Reg n) → (2 ≤ n) × (n ≤ 7)
  pub arguments : (v n : ℕ) → spot_of a v ≡ Some (Arg n) → n < 6
  pub cells : (v n : ℕ) → spot_of a v ≡ Some (Cell n) → n < a.cells
  pub last : (n : ℕ) → a.cells ≡ suc n → (v : ℕ) × (spot_of a v ≡ Some (Cell n))
